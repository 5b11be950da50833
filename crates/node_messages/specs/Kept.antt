-- What is left of a value that is written and read again, and which numbers and bytes there are.
use Rattle.std.specs.Prelude.{ℕ, ◌+◌, ◌*◌, ◌≤◌, ◌<◌, ◌^◌, ◌≡◌, List, length, get_or, take}
use Rattle.byte_parts.specs.Part.{padded}
use Rattle.node_messages.specs.declared.code_list.CodeList.{CodeList}
use Rattle.node_messages.specs.declared.information.BlockInformation.{BlockInformation}
use Rattle.node_messages.specs.CodeList.{most_entries, areas_of, services_of, ranges_of, codes_listed}
use Rattle.node_messages.specs.Information.{most_nodes, node_count}

-- numbers of 16 bits, and bytes
abbrev pub Halves : List ℕ → Type 0
Halves vs = (i : ℕ) → get_or vs i 0 < 2 ^ 16

-- a code list cut to its sixteen entries, unused ones 0
-- RULES 18.6
abbrev pub list_kept : CodeList → CodeList
list_kept m = record { more = m.more; areas = areas_of m; ranges = padded 32 (ranges_of m); services = services_of m; codes = padded 16 (codes_listed m) }

-- the values of the type: arrays of their lengths, numbers of 16 bits
pub record ListFits (m : CodeList) : Type 0 where
  pub ranges : length m.ranges ≡ 32
  pub codes : length m.codes ≡ 16
  pub ends : Halves m.ranges
  pub services : Halves m.codes

-- at most sixteen entries, unused ones 0
pub record ListWhole (m : CodeList) : Type 0 where
  pub few : m.areas + m.services ≤ most_entries
  pub ranges : m.ranges ≡ padded 32 (take (2 * m.areas) m.ranges)
  pub codes : m.codes ≡ padded 16 (take m.services m.codes)

-- block information cut to its 32 nodes, unused entries 0
-- RULES 18.6
abbrev pub information_kept : BlockInformation → BlockInformation
information_kept m = record { count = node_count m; assigned = padded 32 (take (node_count m) m.assigned); free = padded 32 (take (node_count m) m.free) }

-- the values of the type
pub record InformationFits (m : BlockInformation) : Type 0 where
  pub assigned : length m.assigned ≡ 32
  pub free : length m.free ≡ 32
  pub counts : Halves m.assigned
  pub frees : Halves m.free

-- at most 32 nodes, unused entries 0
pub record InformationWhole (m : BlockInformation) : Type 0 where
  pub few : m.count ≤ most_nodes
  pub assigned : m.assigned ≡ padded 32 (take m.count m.assigned)
  pub free : m.free ≡ padded 32 (take m.count m.free)
