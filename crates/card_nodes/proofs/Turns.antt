-- One turn of a loop that searches the nodes.
use Rattle.std.proofs.Common.{Option, Some}
use mathlib.Core.Path.{◌≡◌}
use mathlib.Core.Bool.{Bool, true, false}
use mathlib.Core.List.{List}
use Prim.Native.Nat.{ℕ, ◌+◌, ◌≤◌, ◌<◌}
use lib.ListN.{get_or}
use borrow.Author.Tests.{lt-ltb, le-ltb}
use Rattle.card_nodes.specs.declared.node.Node.{Node}
use Rattle.card_nodes.specs.Find.{first_from, open_at, parent_from}
use Rattle.card_nodes.proofs.Scan.{Left, here, turn}

module _
    (t : Node → Bool) (z : Node) {ns : List Node} {count n i : ℕ} {whole : Option ℕ}
    (left : Left ns count n whole (first_from t) i)
  where
    -- a node that passes the test ends the search
    pub hit : i < n → t (get_or ns i z) ≡ true → Some i ≡ whole
    unfolding first_from
    hit h e = rw e at (here left z h)

    -- a node that fails it leaves the search of the rest
    pub miss : i < n → t (get_or ns i z) ≡ false → Left ns count n whole (first_from t) (i + 1)
    unfolding first_from
    miss h e = turn left z (first_from t) h (λ rest. rw e)

module _
    (depth : ℕ) (z : Node) (f : Option ℕ) {g : Option ℕ} {ns : List Node} {count n i : ℕ} {whole : Option ℕ}
    (left : Left ns count n whole (parent_from depth f) i) (h : i < n)
  where
    -- a node that is shallower than a new one decides anew
    pub decides : (get_or ns i z).depth < depth → g ≡ open_at (get_or ns i z) depth i → Left ns count n whole (parent_from depth g) (i + 1)
    unfolding parent_from
    decides k e = turn left z (parent_from depth g) h (λ rest. rw (lt-ltb _ _ k, e))

    -- any other leaves what was found
    pub leaves : depth ≤ (get_or ns i z).depth → g ≡ f → Left ns count n whole (parent_from depth g) (i + 1)
    unfolding parent_from
    leaves k e = turn left z (parent_from depth g) h (λ rest. rw (le-ltb _ _ k, e))
