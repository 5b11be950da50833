-- The cyclic rule: a turn of the shift, and the rule in each of its cases. Assumes nothing.
use Prim.Native.Nat.{ℕ, zero, suc, ◌+◌, ◌-◌, ◌≤◌, ◌<◌}
use native.Mathlib.Omega.{arith}
use native.Mathlib.Numerals.{add-one}
use native.Mathlib.Nat.{zero-add}
use mathlib.Core.Path.{◌≡◌, refl, sym, ap, ◌∙◌}
use mathlib.Core.Logic.{inl}
use mathlib.Core.Bool.{true, false}
use mathlib.Core.List.{List, [], ◌∷◌, ◌++◌}
use lib.Dec.{eqb, eqb-zero-suc, eqb-suc-zero, eqb-suc-suc}
use lib.ListN.{length, get_or, set, take, drop, length-drop}
use lib.Seq.{drop-cons, take_all, take-length}
use borrow.Author.Tests.{lt-ltb, le-ltb}
use Rattle.answers.specs.declared.status.Fault.TheVariants.{CyclicTooLong}
use Rattle.byte_parts.specs.Part.{part, put, same_bytes}
use Rattle.std.specs.Cmp.Lexicographic.{pointwise}
use Rattle.byte_parts.proofs.Part.{pointwise_same, put_cons, put-split, length-put, part-put, get_d_put_apart}
use Rattle.answers.specs.Outcome.{passed, failed}
use Rattle.rule_cyclic.specs.Cyclic.{cyclic_of}

-- One byte more has moved, from q to p.
shift_more
    : (s : List ℕ) (p q m : ℕ) → q ≤ p → q < length s
    → set (put s (p + 1) m (drop (q + 1) s)) p (get_or (put s (p + 1) m (drop (q + 1) s)) q 0) ≡ put s p (m + 1) (drop q s)
shift_more s p q m h l =
    rw (get_d_put_apart s (p + 1) m (drop (q + 1) s) q (inl (omega arith)), add-one q, drop-cons s q 0 l)
    (sym (put_cons s p m (get_or s q 0) (drop (suc q) s)))

-- A turn of the shift by n: what stands from i on has moved, and then what stands from i - 1 on.
pub shift_turn
    : (s₀ s : List ℕ) (n i : ℕ) → n < i → i ≤ length s₀ → s ≡ put s₀ i (length s₀ - i) (drop (i - n) s₀)
    → set s (i - 1) (get_or s (i - 1 - n) 0) ≡ put s₀ (i - 1) (length s₀ - (i - 1)) (drop (i - 1 - n) s₀)
shift_turn s₀ s n i h k e =
    let ep : i ≡ i - 1 + 1 = omega arith in
    let eq : i - n ≡ i - 1 - n + 1 = omega arith in
    let em : length s₀ - (i - 1) ≡ length s₀ - i + 1 = omega arith in
    let f : s ≡ put s₀ (i - 1 + 1) (length s₀ - i) (drop (i - 1 - n + 1) s₀) = e ∙ rw eq (ap (λ (j : ℕ). put s₀ j (length s₀ - i) (drop (i - 1 - n + 1) s₀)) ep) in
    rw (f, em) (shift_more s₀ (i - 1) (i - 1 - n) (length s₀ - i) (omega arith) (omega arith))

module _ (s r : List ℕ) where
  -- A run longer than the store.
  pub cyclic_long : length s < length r → cyclic_of s r ≡ failed CyclicTooLong
  unfolding cyclic_of
  cyclic_long h = rw (lt-ltb (length s) (length r) h)

  module _ (h : length r ≤ length s) where
    -- A run that the store begins with.
    pub cyclic_kept : same_bytes (take (length r) s) r ≡ true → cyclic_of s r ≡ passed s
    unfolding cyclic_of
    cyclic_kept e = rw (le-ltb (length s) (length r) h, e)

    -- Any other run, put ahead.
    pub cyclic_moved : same_bytes (take (length r) s) r ≡ false → cyclic_of s r ≡ passed (r ++ take (length s - length r) s)
    unfolding cyclic_of
    cyclic_moved e = rw (le-ltb (length s) (length r) h, e)

    -- A run is put ahead: t is what a shift leaves, u what a copy then does.
    pub put-ahead
        : (t u : List ℕ) → t ≡ put s (length r) (length s - length r) s → u ≡ put t 0 (length r) r
        → u ≡ r ++ take (length s - length r) s
    unfolding part
    put-ahead t u et eu =
        let n = length r in
        let m = length s - n in
        let l : length t ≡ length s = ap length et ∙ length-put s n m s in
        let k : length (drop n t) ≤ m = rw (length-drop n t, l) (omega arith) in
        let f : drop n t ≡ take m s = sym (take_all m (drop n t) k) ∙ rw et (part-put s n m s (omega arith) (omega arith)) in
        rw (eu, put-split t 0 n r (omega arith) (omega arith), zero-add n, f, take-length r)

-- A test of two numbers, the other way round.
eqb_turned : (x y : ℕ) → eqb x y ≡ eqb y x
eqb_turned zero zero = refl
eqb_turned zero (suc y) = eqb-zero-suc y ∙ sym (eqb-suc-zero y)
eqb_turned (suc x) zero = eqb-suc-zero x ∙ sym (eqb-zero-suc x)
eqb_turned (suc x) (suc y) = eqb-suc-suc x y ∙ eqb_turned x y ∙ sym (eqb-suc-suc y x)

-- A test of two lists, the other way round.
same_turned : (s t : List ℕ) → same_bytes s t ≡ same_bytes t s
unfolding same_bytes
same_turned [] [] = refl
same_turned [] (y ∷ t) = refl
same_turned (x ∷ s) [] = refl
same_turned (x ∷ s) (y ∷ t) = rw (eqb_turned x y, same_turned s t)

-- What `starts_with` says of a store and a run.
pub starts_same : (s r : List ℕ) → pointwise eqb r (take (length r) s) ≡ same_bytes (take (length r) s) r
starts_same s r = pointwise_same r (take (length r) s) ∙ same_turned r (take (length r) s)
