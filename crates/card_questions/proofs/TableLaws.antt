-- A walk over the columns: where it ends, the pairs that it lays, the blocks that it sums.
use mathlib.Core.Path.{◌≡◌, refl, sym, ◌∙◌, ap}
use mathlib.Core.List.{List, [], ◌∷◌, ◌++◌, map}
use mathlib.Core.Logic.{⊎_elim}
use Prim.Native.Nat.{ℕ, zero, suc, ◌+◌, ◌-◌, ◌*◌, ◌≤◌, ◌<◌}
use native.Mathlib.Nat.{add-zero, zero-add, add_assoc}
use native.Mathlib.Numerals.{add-one}
use native.Mathlib.Omega.{arith}
use lib.ListN.{length, take, drop, get_or, set, drop_of_length-le, length-drop}
use lib.Seq.{sets, drop-cons, drop-drop, length-sets}
use borrow.Author.Tests.{le-leb, lt-leb, eq-eqb, ne_eqb}
use Rattle.card_questions.specs.Table.{span_below, past_of, pairs_from, own_at, sum_from}
use Rattle.card_laws.proofs.UnderLaws.{le-or-lt}

-- a deeper node lies under the area, and so may those after it
below_deeper : (d e : ℕ) (es : List ℕ) → d < e → span_below d (e ∷ es) ≡ suc (span_below d es)
unfolding span_below
below_deeper d e es h = rw (lt-leb e d h)

-- any other ends what lies under it
below_ends : (d e : ℕ) (es : List ℕ) → e ≤ d → span_below d (e ∷ es) ≡ 0
unfolding span_below
below_ends d e es h = rw (le-leb e d h)

-- what lies under a child of depth e comes first of what lies under an area of depth d
below_split : (d e : ℕ) (es : List ℕ) → d < e → span_below d es ≡ span_below e es + span_below d (drop (span_below e es) es)
unfolding span_below
below_split d e [] h = refl
below_split d e (x ∷ es) h =
    ⊎_elim
    (λ k. rw (below_ends e x es k) (sym (zero-add (span_below d (x ∷ es)))))
    (λ k.
    let l : d < x = omega arith in
    rw (below_deeper e x es k, below_deeper d x es l) (omega (arith, below_split d e es h)))
    (le-or-lt x e)

-- no more lies under an area than there is
below_most : (d : ℕ) (es : List ℕ) → span_below d es ≤ length es
unfolding span_below
below_most d [] = omega arith
below_most d (e ∷ es) =
    ⊎_elim (λ k. omega (arith, below_ends d e es k)) (λ k. omega (arith, below_deeper d e es k, below_most d es)) (le-or-lt e d)

-- the index past an area's nodes is one of theirs, or the end
pub past-most : (depths : List ℕ) (at : ℕ) → at < length depths → past_of depths at ≤ length depths
past-most depths at h = omega (arith, simp length-drop at (below_most (get_or depths at 0) (drop (at + 1) depths)))

-- a walk over the nodes under the area at an index has come to i
pub record Walked (depths : List ℕ) (at i : ℕ) : Type 0 where
  pub above : at < i
  pub within : i ≤ length depths
  pub rest : i + span_below (get_or depths at 0) (drop i depths) ≡ past_of depths at

-- it begins with the node after the area
pub begins : (depths : List ℕ) (at : ℕ) → at < length depths → Walked depths at (at + 1)
begins depths at h = record { above = omega arith; within = omega arith; rest = refl }

module _ {depths : List ℕ} {at i : ℕ} (w : Walked depths at i) where
  -- no node is left
  pub at-end : length depths ≤ i → i ≡ past_of depths at
  unfolding span_below
  at-end h = let e = w.rest in let r = rw (drop_of_length-le depths h) at e in omega arith

  module _ (h : i < length depths) where
    here : drop i depths ≡ get_or depths i 0 ∷ drop (i + 1) depths
    here = rw (add-one, drop-cons depths i 0 h)

    -- the node at i lies no deeper
    pub at_other : get_or depths i 0 ≤ get_or depths at 0 → i ≡ past_of depths at
    at_other l =
        let r = rw here at w.rest in
        omega (arith, below_ends (get_or depths at 0) (get_or depths i 0) (drop (i + 1) depths) l)

    module _ (l : get_or depths at 0 < get_or depths i 0) where
      deep : i + suc (span_below (get_or depths at 0) (drop (i + 1) depths)) ≡ past_of depths at
      deep =
          let r = rw here at w.rest in
          omega (arith, below_deeper (get_or depths at 0) (get_or depths i 0) (drop (i + 1) depths) l)

      -- a service under the area
      pub over-service : Walked depths at (i + 1)
      over-service = record { above = omega (arith, w.above); within = omega arith; rest = omega (arith, deep) }

      -- a child area with all under it
      pub over-area : {j : ℕ} → j ≡ past_of depths i → Walked depths at j
      over-area {j = j} e =
          let d = get_or depths at 0 in
          let s = span_below (get_or depths i 0) (drop (i + 1) depths) in
          let q : drop s (drop (i + 1) depths) ≡ drop j depths = drop-drop s (i + 1) depths ∙ rw e in
          let p : span_below d (drop (i + 1) depths) ≡ s + span_below d (drop j depths) =
          rw q at (below_split d (get_or depths i 0) (drop (i + 1) depths) l) in
          record { above = omega (arith, w.above); within = omega (arith, past-most depths i h); rest = omega (arith, deep) }

-- the pairs of some nodes, and of those after them
pairs_add : (codes seconds : List ℕ) (i j k : ℕ) → pairs_from codes seconds i (j + k) ≡ pairs_from codes seconds i j ++ pairs_from codes seconds (i + j) k
unfolding pairs_from
pairs_add codes seconds i zero k = rw (add-zero i, zero-add k)
pairs_add codes seconds i (suc j) k =
    let e : suc j + k ≡ suc (j + k) = omega arith in
    let q : i + suc j ≡ suc i + j = omega arith in
    rw (e, q, pairs_add codes seconds (suc i) j k)

-- two numbers for each node
pairs-length : (codes seconds : List ℕ) (i k : ℕ) → length (pairs_from codes seconds i k) ≡ 2 * k
unfolding pairs_from
pairs-length codes seconds i zero = refl
pairs-length codes seconds i (suc k) = omega (arith, pairs-length codes seconds (suc i) k)

-- two runs of stores, one after the other
sets-append : (vs ws l : List ℕ) (i : ℕ) → sets l i (vs ++ ws) ≡ sets (sets l i vs) (i + length vs) ws
sets-append [] ws l i = rw add-zero
sets-append (v ∷ vs) ws l i =
    let e : suc i + length vs ≡ i + suc (length vs) = omega arith in
    sets-append vs ws (set l i v) (suc i) ∙ ap (λ (k : ℕ). sets (sets (set l i v) (suc i) vs) k ws) e

module _ (codes seconds : List ℕ) where
  -- the pairs of the nodes from a to b are laid at their places over `from`
  pub record Laid (from : List ℕ) (a b : ℕ) (out : List ℕ) : Type 0 where
    pub ordered : a ≤ b
    pub all : out ≡ sets from (2 * a) (pairs_from codes seconds a (b - a))

module _ {codes seconds from : List ℕ} where
  -- none yet
  pub none_laid : (a : ℕ) → Laid codes seconds from a a from
  unfolding pairs_from
  none_laid a = let z : a - a ≡ 0 = omega arith in record { ordered = omega arith; all = rw z }

  -- one node's
  pub one_laid : (a : ℕ) {out : List ℕ} → out ≡ sets from (2 * a) (get_or codes a 0 ∷ get_or seconds a 0 ∷ []) → Laid codes seconds from a (a + 1) out
  unfolding pairs_from
  one_laid a e = let z : a + 1 - a ≡ suc zero = omega arith in record { ordered = omega arith; all = e ∙ rw z }

  -- those of b to c after those of a to b
  pub then_laid : {a b c : ℕ} {mid out : List ℕ} → Laid codes seconds from a b mid → Laid codes seconds mid b c out → Laid codes seconds from a c out
  then_laid {a = a} {b = b} {c = c} x y =
      let j = b - a in
      let k = c - b in
      let p : c - a ≡ j + k = omega (arith, x.ordered, y.ordered) in
      let q : a + j ≡ b = omega (arith, x.ordered) in
      let m : pairs_from codes seconds a (c - a) ≡ pairs_from codes seconds a j ++ pairs_from codes seconds b k = rw (p, pairs_add codes seconds a j k, q) in
      let r : 2 * b ≡ 2 * a + length (pairs_from codes seconds a j) = omega (arith, x.ordered, pairs-length codes seconds a j) in
      record {
        ordered = omega (arith, x.ordered, y.ordered);
        all = y.all
            ∙ rw (x.all, r)
            (sym (ap (sets from (2 * a)) m ∙ sets-append (pairs_from codes seconds a j) (pairs_from codes seconds b k) from (2 * a)));
      }

  -- and the output is as long as it was
  pub laid_length : {a b : ℕ} {out : List ℕ} → Laid codes seconds from a b out → length out ≡ length from
  laid_length {a = a} {b = b} x = rw x.all (length-sets from (2 * a) (pairs_from codes seconds a (b - a)))

-- the blocks of some nodes, and of those after them
sum-add : (seconds blocks : List ℕ) (i j k : ℕ) → sum_from seconds blocks i (j + k) ≡ sum_from seconds blocks i j + sum_from seconds blocks (i + j) k
unfolding sum_from
sum-add seconds blocks i zero k = rw (add-zero i, zero-add k) (sym (zero-add (sum_from seconds blocks i k)))
sum-add seconds blocks i (suc j) k =
    let e : suc j + k ≡ suc (j + k) = omega arith in
    let q : i + suc j ≡ suc i + j = omega arith in
    rw (e, q) (omega (arith, sum-add seconds blocks (suc i) j k))

module _ (seconds blocks : List ℕ) where
  -- `sum` is the blocks of the nodes from a to b, and no more than a sum of 16-bit numbers can be
  pub record Summed (a b sum : ℕ) : Type 0 where
    pub ordered : a ≤ b
    pub all : sum ≡ sum_from seconds blocks a (b - a)
    pub small : sum ≤ 65535 * (b - a)

module _ {seconds blocks : List ℕ} where
  -- none yet
  pub none_summed : (a : ℕ) → Summed seconds blocks a a 0
  unfolding sum_from
  none_summed a = let z : a - a ≡ 0 = omega arith in record { ordered = omega arith; all = rw z; small = omega arith }

  -- those of b to c after those of a to b
  pub then_summed : {a b c s t : ℕ} → Summed seconds blocks a b s → Summed seconds blocks b c t → Summed seconds blocks a c (s + t)
  then_summed {a = a} {b = b} {c = c} x y =
      let p : c - a ≡ (b - a) + (c - b) = omega (arith, x.ordered, y.ordered) in
      let q : a + (b - a) ≡ b = omega (arith, x.ordered) in
      let e = rw q at (sum-add seconds blocks a (b - a) (c - b)) in
      record {
        ordered = omega (arith, x.ordered, y.ordered);
        all = rw p (omega (arith, e, x.all, y.all));
        small = omega (arith, x.small, y.small, x.ordered, y.ordered);
      }

  -- a service's own
  pub of_service : (a : ℕ) → get_or seconds a 0 ≡ 0xffff → get_or blocks a 0 ≤ 65535 → Summed seconds blocks a (a + 1) (get_or blocks a 0)
  unfolding sum_from own_at
  of_service a e k =
      let z : a + 1 - a ≡ suc zero = omega arith in
      record { ordered = omega arith; all = rw (z, eq-eqb _ _ e) (sym (add-zero (get_or blocks a 0))); small = omega arith }

  -- a child area's, which has none beside those under it
  pub of_area : {a b sum : ℕ} → (get_or seconds a 0 ≡ 0xffff → ⊥) → a < b → sum ≡ sum_from seconds blocks (a + 1) (b - (a + 1)) → sum ≤ 65535 * (b - a) → Summed seconds blocks a b sum
  unfolding sum_from own_at
  of_area {a = a} {b = b} n h e k =
      let z : b - a ≡ suc (b - (a + 1)) = omega arith in
      record { ordered = omega arith; all = e ∙ rw (z, ne_eqb _ _ n, add-one) (sym (zero-add (sum_from seconds blocks (suc a) (b - (suc a))))); small = k }
