-- The definition of the directory says what docs/RULES.md words by the children of an area.
use mathlib.Core.Path.{◌≡◌, refl, ap}
use mathlib.Core.List.{List, [], ◌∷◌, ◌++◌}
use Prim.Native.Nat.{ℕ, ◌≤◌, ◌<◌}
use native.Mathlib.Omega.{arith}
use lib.ListN.{length, get_or}
use Rattle.card_nodes.specs.declared.node.Node.{Node}
use Rattle.card_nodes.specs.Node.{root_node}
use Rattle.card_laws.proofs.UnderLaws.{Over, spans}
use Rattle.card_laws.proofs.Worded.{worded, all_under}
use Rattle.card_questions.specs.Directory.{pair_of, pairs_under, directory_of, listed_of}
use Rattle.card_questions.specs.ListingWorded.{pairs_worded, pairs_of}

-- the pairs go over the nodes under an area
pub pairs : Over pairs_under [] pair_of ◌++◌
unfolding pairs_under
pairs = record { at-end = λ d. refl; at_node = λ d n ns. refl; join-none = λ b. refl; join_one = λ n a b. refl }

-- The directory lists each area, then its children in order, an area within starting the same again.
pub directory_worded : (k d : ℕ) (ns : List Node) → length ns ≤ k → pairs_worded k d ns ≡ pairs_under d ns
directory_worded = worded pairs _ (λ n e q x. rw q) (λ n s b l q x y. rw q)

-- where every node after the first is deeper than the first, the directory is the pairs of all
pub all_listed : (n : Node) (ns : List Node) → ((k : ℕ) → k < length ns → n.depth < (get_or ns k root_node).depth) → directory_of (n ∷ ns) ≡ pairs_of (n ∷ ns)
unfolding directory_of pairs_of
all_listed n ns h = ap (pair_of n) (all_under pairs pairs_of refl (λ m ms. refl) n.depth ns h)

-- and it lists as many as there are
pub all_counted_lem : (n : Node) (ns : List Node) → ((k : ℕ) → k < length ns → n.depth < (get_or ns k root_node).depth) → listed_of (n ∷ ns) ≡ length (n ∷ ns)
unfolding listed_of
all_counted_lem n ns h = omega (arith, all_under spans length refl (λ m ms. refl) n.depth ns h)
