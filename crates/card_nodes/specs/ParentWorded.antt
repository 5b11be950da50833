-- The parent of a new node as docs/RULES.md words it.
use Rattle.std.specs.Prelude.{ℕ, suc, ◌+◌, List, [], ◌∷◌, Bool, true, cond, ◌&&◌, eqb, ltb, drop, get_or, Option, Some, None}
use Rattle.card_nodes.specs.declared.node.Node.{Node}
use Rattle.card_nodes.specs.Node.{root_node, is_area}
use Rattle.card_nodes.specs.Find.{or_else}

-- the latest node of depth one less, the first of all being counted i: a later one goes before an earlier
unfoldable pub latest_from : ℕ → ℕ → List Node → Option ℕ
latest_from depth i [] = None
latest_from depth i (n ∷ ns) = or_else (latest_from depth (suc i) ns) (cond (eqb (n.depth + 1) depth) (Some i) None)

-- no shallower or equally deep node is among these
unfoldable pub all_deeper : ℕ → List Node → Bool
all_deeper d [] = true
all_deeper d (n ∷ ns) = ltb d n.depth && all_deeper d ns

-- the node at p is an area with no shallower or equally deep node after it
abbrev pub is_open_area : List Node → ℕ → Bool
is_open_area ns p = is_area (get_or ns p root_node).entry && all_deeper (get_or ns p root_node).depth (drop (p + 1) ns)

abbrev pub if_open_area : List Node → Option ℕ → Option ℕ
if_open_area ns (Some p) = cond (is_open_area ns p) (Some p) None
if_open_area ns None = None

-- The parent is the latest node of depth one less, which must be an area with no shallower or equally deep node after it.
-- RULES 5.3
abbrev pub parent_worded : List Node → ℕ → Option ℕ
parent_worded ns depth = if_open_area ns (latest_from depth 0 ns)
