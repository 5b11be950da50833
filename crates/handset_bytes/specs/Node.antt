-- One record: the fields that a node has, and what the bytes of a card read as there. Its kind is 0 of an area, 1 of a service, 2 of a
-- service with a limit.
use Rattle.std.specs.Prelude.{ℕ, List, [], ◌∷◌, Bool, cond, eqb, leb, get_or, Option, Some, None}
use Rattle.byte_parts.specs.Half.{half_bytes, half_at}
use Rattle.byte_parts.specs.Word.{word_at, word_bytes, signed_of, word_of}
use Rattle.service_code.specs.declared.limit.Limit.{Limit}
use Rattle.card_nodes.specs.declared.node.Entry.{Entry}
use Rattle.card_nodes.specs.declared.node.Entry.TheVariants.{Area, Service}
use Rattle.card_nodes.specs.declared.node.Node.{Node}
use Rattle.handset_bytes.specs.Layout.{kind_place, depth_place, code_place, start_place, blocks_place, version_place, generation_place, upper_place, lower_place}
use Rattle.handset_bytes.specs.Field.{Field, field_of}
use Rattle.service_code.specs.Limit.{limited_to}

abbrev pub kind_byte : Entry → ℕ
kind_byte (Area end) = 0
kind_byte (Service start blocks None) = 1
kind_byte (Service start blocks (Some limit)) = 2

-- what only a limit has, of record i
abbrev pub limit_fields : ℕ → Option Limit → List Field
limit_fields i None = []
limit_fields i (Some limit) =
    field_of (generation_place i) (limit.generation ∷ []) ∷ field_of (upper_place i) (word_bytes (word_of limit.upper))
    ∷ field_of (lower_place i) (word_bytes (word_of limit.lower)) ∷ []

-- what only an area has, or only a service
abbrev pub entry_fields : ℕ → Entry → List Field
entry_fields i (Area end) = field_of (start_place i) (half_bytes end) ∷ []
entry_fields i (Service start blocks limit) =
    field_of (start_place i) (half_bytes start) ∷ field_of (blocks_place i) (half_bytes blocks) ∷ limit_fields i limit

-- RULES 15.1
unfoldable pub node_fields : ℕ → Node → List Field
node_fields i n =
    field_of (kind_place i) (kind_byte n.entry ∷ []) ∷ field_of (depth_place i) (n.depth ∷ []) ∷ field_of (code_place i) (half_bytes n.code)
    ∷ field_of (version_place i) (half_bytes n.version) ∷ entry_fields i n.entry

-- whether record i is of a kind that there is
unfoldable pub is_record : List ℕ → ℕ → Bool
is_record s i = leb (get_or s (kind_place i) 0) 2

-- what record i reads as: no byte is looked at that its kind has no field for
abbrev pub limit_in : List ℕ → ℕ → Option Limit
limit_in s i =
    cond (eqb (get_or s (kind_place i) 0) 2)
    (limited_to (signed_of (word_at s (upper_place i))) (signed_of (word_at s (lower_place i))) (get_or s (generation_place i) 0)) None

abbrev pub entry_in : List ℕ → ℕ → Entry
entry_in s i =
    cond (eqb (get_or s (kind_place i) 0) 0) (Area (half_at s (start_place i)))
    (Service (half_at s (start_place i)) (half_at s (blocks_place i)) (limit_in s i))

unfoldable pub node_in : List ℕ → ℕ → Node
node_in s i = record {
  depth = get_or s (depth_place i) 0;
  code = half_at s (code_place i);
  version = half_at s (version_place i);
  entry = entry_in s i;
}
