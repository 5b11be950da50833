-- Block information: node count, assigned counts, free counts.
use Rattle.std.specs.Prelude.{ℕ, ◌+◌, ◌*◌, min, List, ◌∷◌, ◌++◌, Bool, cond, ◌&&◌, eqb, leb, length, get_or, take, drop, replicate, Ok, Err}
use Rattle.byte_parts.specs.Part.{padded}
use Rattle.answers.specs.declared.refusal.Refusal.{Refusal}
use Rattle.answers.specs.declared.refusal.Refusal.TheVariants.{NotAMessage}
use Rattle.node_messages.specs.declared.information.BlockInformation.{BlockInformation}
use Rattle.node_messages.specs.declared.information.Informed.{Informed}
use Rattle.node_messages.specs.Numbers.{numbers_bytes, numbers_in}

-- the most nodes that are asked at once
abbrev pub most_nodes : ℕ
most_nodes = 32

-- how many nodes are written: more are cut to them
abbrev pub node_count : BlockInformation → ℕ
node_count m = min m.count most_nodes

-- block information as bytes
-- RULES 18.5
unfoldable pub information_bytes : BlockInformation → List ℕ
information_bytes m = node_count m ∷ numbers_bytes (take (node_count m) m.assigned) ++ numbers_bytes (take (node_count m) m.free)

-- the count that bytes hold; where there is no such byte, 0
abbrev pub node_count_in : List ℕ → ℕ
node_count_in s = get_or s 0 0

-- at most 32 nodes, and exactly as many bytes as they take
-- RULES 18.6
unfoldable pub is_information : List ℕ → Bool
is_information s = leb (node_count_in s) most_nodes && eqb (length s) (1 + 4 * node_count_in s)

-- what bytes read as; unused entries are 0
abbrev pub information_in : List ℕ → BlockInformation
information_in s = record {
  count = node_count_in s;
  assigned = padded 32 (numbers_in (node_count_in s) (drop 1 s));
  free = padded 32 (numbers_in (node_count_in s) (drop (1 + 2 * node_count_in s) s));
}

-- information, or why there is none
abbrev pub information_told : BlockInformation → Informed
information_told m = record { told = m; answer = Ok tt }

abbrev pub information_refused : Refusal → Informed
information_refused r = record { told = record { count = 0; assigned = replicate 32 0; free = replicate 32 0 }; answer = Err r }

-- 47 for all other bytes
-- RULES 18.6
unfoldable pub read_information : List ℕ → Informed
read_information s = cond (is_information s) (information_told (information_in s)) (information_refused NotAMessage)
