-- The definition of a total says what docs/RULES.md words by the children of an area.
use mathlib.Core.Path.{◌≡◌, refl, sym}
use mathlib.Core.List.{List}
use Prim.Native.Nat.{ℕ, ◌+◌, ◌≤◌}
use native.Mathlib.Nat.{zero-add, add_assoc}
use lib.ListN.{length}
use Rattle.card_nodes.specs.declared.node.Node.{Node}
use Rattle.card_nodes.specs.Node.{blocks_of}
use Rattle.card_laws.proofs.UnderLaws.{Over}
use Rattle.card_laws.proofs.Worded.{worded}
use Rattle.card_laws.specs.Under.{sum_under}
use Rattle.card_laws.specs.TotalsWorded.{total_worded}

-- the blocks go over the nodes under an area
pub sums : Over sum_under 0 (λ n r. blocks_of n.entry + r) ◌+◌
unfolding sum_under
sums = record { at-end = λ d. refl; at_node = λ d n ns. refl; join-none = zero-add; join_one = λ n a b. add_assoc (blocks_of n.entry) a b }

-- An area's block total is its own services plus, by the same rule, each child area's total.
pub total_worded_lem : (k d : ℕ) (ns : List Node) → length ns ≤ k → total_worded k d ns ≡ sum_under d ns
total_worded_lem = worded sums _ (λ n e q x. rw q (sym (zero-add x))) (λ n s b l q x y. rw q)
