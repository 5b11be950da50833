-- Nodes moved by k blocks: each store lies k blocks later in the arena, and nothing else differs. So do the stores of a second system lie,
-- which begin at the block where the first system's end.
use Rattle.std.specs.Prelude.{ℕ, ◌+◌, ◌≤◌, List, map, get_or}
use Rattle.card_nodes.specs.declared.node.Entry.{Entry}
use Rattle.card_nodes.specs.declared.node.Entry.TheVariants.{Area, Service}
use Rattle.card_nodes.specs.declared.node.Node.{Node}
use Rattle.card_nodes.specs.Node.{root_node, start_of, blocks_of}

-- a service's store begins k blocks later; an area has none
abbrev pub moved_entry : ℕ → Entry → Entry
moved_entry k (Area e) = Area e
moved_entry k (Service s b l) = Service (k + s) b l

-- depth, code and key version stay
abbrev pub moved_node : ℕ → Node → Node
moved_node k n = record { depth = n.depth; code = n.code; version = n.version; entry = moved_entry k n.entry }

-- each of a system's nodes
abbrev pub moved : ℕ → List Node → List Node
moved k ns = map (moved_node k) ns

-- what the node at an index is; past the end the root is read, which has no store
abbrev pub entry_at : List Node → ℕ → Entry
entry_at ns j = (get_or ns j root_node).entry

-- each store ends among the first `used` blocks
abbrev pub StoresWithin : List Node → ℕ → Type 0
StoresWithin ns used = (j : ℕ) → start_of (entry_at ns j) + blocks_of (entry_at ns j) ≤ used
