-- Which node is found among those of a system, in tree order.
use Rattle.std.specs.Prelude.{ℕ, suc, ◌+◌, List, [], ◌∷◌, Bool, cond, ◌&&◌, eqb, ltb, Option, Some, None}
use Rattle.service_code.specs.Code.{number_of}
use Rattle.card_nodes.specs.declared.node.Entry.{Entry}
use Rattle.card_nodes.specs.declared.node.Entry.TheVariants.{Area, Service}
use Rattle.card_nodes.specs.declared.node.Node.{Node}
use Rattle.card_nodes.specs.Node.{is_area, is_service}

-- what was found first, or else second
abbrev pub or_else : Option ℕ → Option ℕ → Option ℕ
or_else (Some p) other = Some p
or_else None other = other

-- the first node that passes a test, the first of all being counted i
-- RULES 5.8
unfoldable pub first_from : (Node → Bool) → ℕ → List Node → Option ℕ
first_from test i [] = None
first_from test i (n ∷ ns) = cond (test n) (Some i) (first_from test (suc i) ns)

-- a service, or an area, of a code
abbrev pub is_service_of : ℕ → Node → Bool
is_service_of code n = eqb n.code code && is_service n.entry

abbrev pub is_area_of : ℕ → Node → Bool
is_area_of code n = eqb n.code code && is_area n.entry

-- a service of a code's number
abbrev pub is_sharer_of : ℕ → Node → Bool
is_sharer_of code n = eqb (number_of n.code) (number_of code) && is_service n.entry

-- repeated codes are accepted; the first in tree order answers
-- RULES 5.8
abbrev pub service_of : List Node → ℕ → Option ℕ
service_of ns code = first_from (is_service_of code) 0 ns

-- RULES 5.8
abbrev pub area_of : List Node → ℕ → Option ℕ
area_of ns code = first_from (is_area_of code) 0 ns

-- the service that made the store of a code's number
abbrev pub shared_of : List Node → ℕ → Option ℕ
shared_of ns code = first_from (is_sharer_of code) 0 ns

-- an area at i may hold a new node, a service may not
abbrev pub area_at : Entry → ℕ → Option ℕ
area_at (Area e) i = Some i
area_at (Service s b l) i = None

-- the node at i, where it is one level above a new one
unfoldable pub open_at : Node → ℕ → ℕ → Option ℕ
open_at n depth i = cond (eqb (n.depth + 1) depth) (area_at n.entry i) None

-- each node that is shallower than a new one decides anew whether there is a parent
unfoldable pub parent_from : ℕ → Option ℕ → ℕ → List Node → Option ℕ
parent_from depth found i [] = found
parent_from depth found i (n ∷ ns) = parent_from depth (cond (ltb n.depth depth) (open_at n depth i) found) (suc i) ns

-- so the parent is found in one pass; parent_worded says which node that is, and proofs/ParentWorded.antt that it is the same
-- RULES 5.3
abbrev pub parent_of : List Node → ℕ → Option ℕ
parent_of ns depth = parent_from depth None 0 ns
