-- A card as bytes: zeros, in which the fields of its header and of each record taken are written. No other place is part of it.
use Rattle.std.specs.Prelude.{ℕ, zero, suc, ◌+◌, ◌-◌, List, [], ◌∷◌, ◌++◌, Bool, true, false, cond, ◌&&◌, eqb, leb, length, replicate}
use Rattle.byte_parts.specs.Values.{flag_of}
use Rattle.byte_parts.specs.Half.{half_bytes, half_at}
use Rattle.card_nodes.specs.declared.node.Node.{Node}
use Rattle.card_nodes.specs.Node.{root_node}
use Rattle.card_build.specs.declared.card.System.{System}
use Rattle.card_build.specs.declared.card.Card.{Card}
use Rattle.card_build.specs.Card.{system_of, nodes_of}
use Rattle.handset_bytes.specs.Layout.{count_place, used_place, system_place, key_place, flags_place, layout_place, layout_number, card_size}
use Rattle.handset_bytes.specs.Field.{Field, field_of, fields_put}
use Rattle.handset_bytes.specs.Node.{node_fields, node_in, is_record}

abbrev pub head_fields : Card → List Field
head_fields c =
    field_of count_place (half_bytes c.count) ∷ field_of used_place (half_bytes c.used) ∷ field_of system_place (half_bytes c.system.code)
    ∷ field_of key_place (half_bytes c.system.version) ∷ field_of flags_place (half_bytes (flag_of c.system.join))
    ∷ field_of layout_place (half_bytes layout_number) ∷ []

-- those of nodes in the records from i on
unfoldable pub nodes_fields : ℕ → List Node → List Field
nodes_fields i [] = []
nodes_fields i (n ∷ ns) = node_fields i n ++ nodes_fields (i + 1) ns

unfoldable pub card_fields : Card → List Field
card_fields c = head_fields c ++ nodes_fields 0 (nodes_of c)

-- n bytes of which none is a field's
unfoldable pub zero_bytes : ℕ → List ℕ
zero_bytes n = replicate n 0

-- RULES 15.1
unfoldable pub card_bytes : Card → List ℕ
card_bytes c = fields_put (card_fields c) (zero_bytes card_size)

-- bytes after a card was written to them: those of another length stay as they were
unfoldable pub card_put : Card → List ℕ → List ℕ
card_put c s = cond (eqb (length s) card_size) (card_bytes c) s

-- what n records from i on read as
unfoldable pub nodes_in : ℕ → ℕ → List ℕ → List Node
nodes_in zero i s = []
nodes_in (suc n) i s = node_in s i ∷ nodes_in n (i + 1) s

unfoldable pub are_records : ℕ → ℕ → List ℕ → Bool
are_records zero i s = true
are_records (suc n) i s = is_record s i && are_records n (i + 1) s

-- what the header names
abbrev pub system_in : List ℕ → System
system_in s = system_of (half_at s system_place) (half_at s key_place) (eqb (half_at s flags_place) 1)

-- what bytes read as: records past the count are unused
abbrev pub card_in : List ℕ → Card
card_in s = record {
  nodes = nodes_in (half_at s count_place) 0 s ++ replicate (64 - half_at s count_place) root_node;
  count = half_at s count_place;
  used = half_at s used_place;
  system = system_in s;
}

-- as many bytes as a card has, of this layout, with yes or no where that stands, and no more records than there are
unfoldable pub is_headed : List ℕ → Bool
is_headed s =
    eqb (length s) card_size
    && (eqb (half_at s layout_place) layout_number && (leb (half_at s flags_place) 1 && leb (half_at s count_place) 64))

-- whose records taken are all a node's, too
-- RULES 15.2
unfoldable pub is_card : List ℕ → Bool
is_card s = is_headed s && are_records (half_at s count_place) 0 s

-- what stands for the card of other bytes: it has not even a root, so every call on it is refusal 8
abbrev pub no_card : Card
no_card = record { nodes = replicate 64 root_node; count = 0; used = 0; system = system_of 0 0 false }

-- RULES 15.2
unfoldable pub card_decoded : List ℕ → Card
card_decoded s = cond (is_card s) (card_in s) no_card
