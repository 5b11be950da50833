-- The blocks of nodes, and what a card answers.
use Rattle.std.specs.Prelude.{ℕ, ◌-◌, List, map, cond, not, ltb, length, Option, Some, None, Result, Ok, Err}
use Rattle.answers.specs.declared.refusal.Refusal.TheVariants.{NotBuilt, ShortArena, TooManyNodes}
use Rattle.byte_parts.specs.Part.{padded}
use Rattle.node_messages.specs.declared.information.Informed.{Informed}
use Rattle.node_messages.specs.Information.{most_nodes, information_told, information_refused, information_bytes}
use Rattle.card_nodes.specs.declared.node.Node.{Node}
use Rattle.card_admit.specs.Admit.{usable}
use Rattle.card_questions.specs.Total.{total_of}
use Rattle.card_build.specs.declared.card.Card.{Card}
use Rattle.card_build.specs.Card.{nodes_of, is_sound, is_short}
use Rattle.card_laws.specs.Children.{area_named}
use Rattle.card_lists.specs.Packet.{put_answered, out_answered}
use Rattle.answers.specs.declared.refusal.Refusal.{Refusal}

-- free are the unused blocks for an area, and none for any other node
abbrev pub free_by : ℕ → Option ℕ → ℕ
free_by unused (Some i) = unused
free_by unused None = 0

-- RULES 18.4
abbrev pub free_for : List Node → ℕ → ℕ → ℕ
free_for ns unused code = free_by unused (area_named ns code)

-- for each node asked, in their order: assigned is its block total
-- RULES 18.4
abbrev pub information_of : List Node → ℕ → List ℕ → Informed
information_of ns unused asked = information_told (record {
  count = length asked;
  assigned = padded 32 (map (total_of ns) asked);
  free = padded 32 (map (free_for ns unused) asked);
})

-- what is refused ahead of any node, in an arena of `arena_len` bytes: 7, then 46
unfoldable pub ahead_of : ℕ → ℕ → ℕ → Result Unit Refusal
ahead_of arena_len used many =
    cond (is_short arena_len used) (Err ShortArena)
    (cond (ltb most_nodes many) (Err TooManyNodes)
    (Ok tt))

-- what a card answers: 8, then 7 and 46
-- RULES 18.4
unfoldable pub blocks_told : Card → ℕ → List ℕ → Informed
blocks_told c arena_len asked =
    cond (not (is_sound c)) (information_refused NotBuilt)
    (cond (is_short arena_len c.used) (information_refused ShortArena)
    (cond (ltb most_nodes (length asked)) (information_refused TooManyNodes)
    (information_of (nodes_of c) (usable arena_len - c.used) asked)))

-- as bytes: 5 comes last
-- RULES 18.4
unfoldable pub blocks_put : Card → ℕ → List ℕ → ℕ → Result ℕ Refusal
blocks_put c arena_len asked room = put_answered (blocks_told c arena_len asked).answer (information_bytes (blocks_told c arena_len asked).told) room

-- RULES 18.4
unfoldable pub blocks_out : Card → ℕ → List ℕ → List ℕ → List ℕ
blocks_out c arena_len asked out = out_answered (blocks_told c arena_len asked).answer (information_bytes (blocks_told c arena_len asked).told) out
