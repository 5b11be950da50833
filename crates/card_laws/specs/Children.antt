-- The area that a code names, and its direct children.
use Rattle.std.specs.Prelude.{ℕ, ◌+◌, List, [], ◌∷◌, ◌++◌, cond, eqb, leb, drop, get_or, Option, None}
use Rattle.card_nodes.specs.declared.node.Node.{Node}
use Rattle.card_nodes.specs.Node.{root_node}
use Rattle.card_nodes.specs.Find.{area_of}
use Rattle.card_laws.specs.Worded.{by_children}

-- the first area of a code; FFFF is the system, and no area
-- RULES 18.1
unfoldable pub area_named : List Node → ℕ → Option ℕ
area_named ns code = cond (eqb code 0xffff) None (area_of ns code)

-- of the nodes that follow an area of depth d, those under it that are one level deeper, in tree order
-- RULES 18.1
unfoldable pub children_under : ℕ → List Node → List Node
children_under d [] = []
children_under d (n ∷ ns) =
    cond (leb n.depth d) [] (cond (eqb n.depth (d + 1)) (n ∷ children_under d ns) (children_under d ns))

-- the direct children of the area at an index
abbrev pub children_at : List Node → ℕ → List Node
children_at ns i = children_under (get_or ns i root_node).depth (drop (i + 1) ns)

-- the same by the recursion that words directory and totals: child by child
-- RULES 18.1
abbrev pub children_worded : ℕ → ℕ → List Node → List Node
children_worded = by_children [] ◌++◌ (λ n within. n ∷ [])
