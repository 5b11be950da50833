-- What is kept of the records that were passed, so that the next is judged without a search among them.
use Rattle.std.specs.Prelude.{ℕ, ◌+◌, Bool, false, cond, not, eqb, ltb, leb, Option, Some, None}
use Rattle.card_nodes.specs.declared.node.Entry.{Entry}
use Rattle.card_nodes.specs.declared.node.Entry.TheVariants.{Area, Service}
use Rattle.card_nodes.specs.declared.node.Node.{Node}
use Rattle.card_admit.specs.Admit.{is_depth, area_under, placed_under}
use Rattle.card_sound.specs.Sound.{is_root, area_step, service_step}

-- a count takes one record or more, of at most 64, and the first is the root's
unfoldable pub starting : ℕ → Node → Bool
starting count root = cond (eqb count 0) false (cond (ltb 64 count) false (is_root root))

-- a node may come at a depth from 1 to 8, down to the deepest that the nodes before it leave open
unfoldable pub depth_open : ℕ → ℕ → Bool
depth_open depth deepest = cond (not (is_depth depth)) false (leb depth deepest)

-- the deepest that a node leaves open: under an area, beside a service
abbrev pub deepest_by : ℕ → Entry → ℕ
deepest_by depth (Area e) = depth + 1
deepest_by depth (Service s b l) = depth

-- the first service of a number is a service; where the root's record stands for it, there is none
abbrev pub first_by : Node → Entry → Option Node
first_by n (Area e) = None
first_by n (Service s b l) = Some n

-- the index of the first service of a number, after a node at i of that number
abbrev pub first_after : Option Node → ℕ → Entry → ℕ → ℕ
first_after (Some n) f e i = f
first_after None f (Area e) i = f
first_after None f (Service s b l) i = i

-- a record under its parent, after the first service of its number
abbrev pub step_under : Node → Option Node → ℕ → ℕ → Entry → Option ℕ
step_under above first used code (Area e) = area_step used (area_under above code e)
step_under above first used code (Service s b l) = service_step s b (placed_under above first used 65536 code b)
