-- A recursion over the tree as docs/RULES.md words it: by the children of an area.
use Rattle.std.specs.Prelude.{ℕ, zero, suc, List, [], ◌∷◌, cond, leb, drop}
use Rattle.card_nodes.specs.declared.node.Entry.{Entry}
use Rattle.card_nodes.specs.declared.node.Entry.TheVariants.{Area, Service}
use Rattle.card_nodes.specs.declared.node.Node.{Node}
use Rattle.card_laws.specs.Under.{span_under}

-- how many of the nodes after a child are its own: those under an area, none of a service
abbrev pub child_span : Entry → ℕ → ℕ
child_span (Area e) under = under
child_span (Service s b l) under = 0

module _ {B : Type 0} (none : B) (join : B → B → B) (child : Node → B → B) where
  -- of the nodes that follow an area of depth d: what its first child gives, from what that one's children give, joined to what the next ones give
  abbrev pub first_child : (ℕ → List Node → B) → ℕ → List Node → B
  first_child further d [] = none
  first_child further d (n ∷ ns) =
      cond (leb n.depth d) none
      (join (child n (further n.depth ns)) (further d (drop (child_span n.entry (span_under n.depth ns)) ns)))

  -- child by child, with k calls at most, one inside another
  unfoldable pub by_children : ℕ → ℕ → List Node → B
  by_children zero d ns = none
  by_children (suc k) d ns = first_child (λ e ms. by_children k e ms) d ns
