-- The packets of an area's children, and what a card answers.
use Rattle.std.specs.Prelude.{ℕ, zero, suc, ◌+◌, ◌*◌, List, [], ◌∷◌, ◌++◌, map, Bool, false, cond, not, eqb, ltb, leb, length, take, drop, Option, Some, None, Result, Ok, Err}
use Rattle.answers.specs.declared.refusal.Refusal.TheVariants.{NotBuilt, ParentNoArea, PacketPastEnd}
use Rattle.byte_parts.specs.Part.{padded}
use Rattle.node_messages.specs.declared.code_list.CodeList.{CodeList}
use Rattle.node_messages.specs.declared.code_list.Listed.{Listed}
use Rattle.node_messages.specs.Message.{message_put, message_after}
use Rattle.node_messages.specs.CodeList.{most_entries, list_told, list_refused, code_list_bytes}
use Rattle.card_nodes.specs.declared.node.Entry.{Entry}
use Rattle.card_nodes.specs.declared.node.Node.{Node}
use Rattle.card_nodes.specs.Node.{is_area, is_service}
use Rattle.card_questions.specs.ListingWorded.{pairs_of}
use Rattle.card_build.specs.declared.card.Card.{Card}
use Rattle.card_build.specs.Card.{nodes_of, is_sound}
use Rattle.card_laws.specs.Children.{area_named, children_at}
use Rattle.answers.specs.declared.refusal.Refusal.{Refusal}

-- the nodes of a kind
unfoldable pub among : (Entry → Bool) → List Node → List Node
among is [] = []
among is (n ∷ ns) = cond (is n.entry) (n ∷ among is ns) (among is ns)

abbrev pub areas_among : List Node → List Node
areas_among = among is_area

abbrev pub services_among : List Node → List Node
services_among = among is_service

-- areas as pairs of code and end, as the directory has them; services as codes
abbrev pub ranges_among : List Node → List ℕ
ranges_among ns = pairs_of (areas_among ns)

abbrev pub codes_among : List Node → List ℕ
codes_among ns = map (λ n. n.code) (services_among ns)

-- nodes as a code list, areas and services apart; unused entries are 0
-- RULES 18.2
abbrev pub list_of : Bool → List Node → CodeList
list_of more ns = record {
  more = more;
  areas = length (areas_among ns);
  ranges = padded 32 (ranges_among ns);
  services = length (services_among ns);
  codes = padded 16 (codes_among ns);
}

-- packet p holds the sixteen children from 16 p on
-- RULES 18.2
abbrev pub packet_of : List Node → ℕ → List Node
packet_of children p = take most_entries (drop (most_entries * p) children)

-- packet 0 always exists, any other where a child is left for it
-- RULES 18.2
unfoldable pub past_end : ℕ → ℕ → Bool
past_end p n = cond (eqb p 0) false (leb n (most_entries * p))

-- more follow where there are over 16 (p + 1) children
-- RULES 18.2
unfoldable pub more_after : ℕ → ℕ → Bool
more_after p n = ltb (most_entries * p + most_entries) n

-- a packet with its flag
abbrev pub list_more : CodeList → Bool → Listed
list_more m more = list_told (record { more = more; areas = m.areas; ranges = m.ranges; services = m.services; codes = m.codes })

-- 45, or the packet
unfoldable pub packet_told : List Node → ℕ → Listed
packet_told children p =
    cond (past_end p (length children)) (list_refused PacketPastEnd)
    (list_told (list_of (more_after p (length children)) (packet_of children p)))

-- 44, or the packet of the area that was found
abbrev pub list_found : List Node → ℕ → Option ℕ → Listed
list_found ns p None = list_refused ParentNoArea
list_found ns p (Some i) = packet_told (children_at ns i) p

-- what a card answers, refusal 8 first
-- RULES 18.3
unfoldable pub code_list_of : Card → ℕ → ℕ → Listed
code_list_of c parent p = cond (not (is_sound c)) (list_refused NotBuilt) (list_found (nodes_of c) p (area_named (nodes_of c) parent))

-- an answer as bytes: 5 comes last
abbrev pub put_answered : Result Unit Refusal → List ℕ → ℕ → Result ℕ Refusal
put_answered (Ok tt) message room = message_put message room
put_answered (Err r) message room = Err r

abbrev pub out_answered : Result Unit Refusal → List ℕ → List ℕ → List ℕ
out_answered (Ok tt) message out = message_after message out
out_answered (Err r) message out = out

-- RULES 18.3
unfoldable pub code_list_put : Card → ℕ → ℕ → ℕ → Result ℕ Refusal
code_list_put c parent p room = put_answered (code_list_of c parent p).answer (code_list_bytes (code_list_of c parent p).list) room

-- RULES 18.3
unfoldable pub code_list_out : Card → ℕ → ℕ → List ℕ → List ℕ
code_list_out c parent p out = out_answered (code_list_of c parent p).answer (code_list_bytes (code_list_of c parent p).list) out

-- what packets 0, 1, .. k - 1 hold, one after the other
-- RULES 18.2
unfoldable pub packets_joined : {A : Type 0} → (ℕ → List A) → ℕ → List A
packets_joined packet zero = []
packets_joined packet (suc k) = packets_joined packet k ++ packet k
