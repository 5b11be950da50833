-- One record of a card, and what its case holds.
use Rattle.std.specs.Prelude.{ℕ, Bool, true, false, Option, None}
use Rattle.service_code.specs.declared.limit.Limit.{Limit}
use Rattle.card_nodes.specs.declared.node.Entry.{Entry}
use Rattle.card_nodes.specs.declared.node.Entry.TheVariants.{Area, Service}
use Rattle.card_nodes.specs.declared.node.Node.{Node}

-- the root: depth 0, code 0000, end FFFE, key version 0000
-- RULES 1.2
abbrev pub root_node : Node
root_node = record { depth = 0; code = 0; version = 0; entry = Area 0xfffe }

abbrev pub is_area : Entry → Bool
is_area (Area e) = true
is_area (Service s b l) = false

abbrev pub is_service : Entry → Bool
is_service (Area e) = false
is_service (Service s b l) = true

-- an area's last code
abbrev pub end_of : Entry → ℕ
end_of (Area e) = e
end_of (Service s b l) = 0

-- a service's store: its first block in the arena, and how many there are
abbrev pub start_of : Entry → ℕ
start_of (Area e) = 0
start_of (Service s b l) = s

abbrev pub blocks_of : Entry → ℕ
blocks_of (Area e) = 0
blocks_of (Service s b l) = b

abbrev pub limit_of : Entry → Option Limit
limit_of (Area e) = None
limit_of (Service s b l) = l
