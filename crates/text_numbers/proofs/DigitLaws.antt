-- Laws of digits: which bytes are digits, and what they spell. Assumes nothing.
use Prim.Native.Nat.{ℕ, zero, suc, ◌+◌, ◌*◌, ◌/◌, ◌%◌, ◌≤◌, ◌<◌}
use native.Mathlib.Omega.{arith}
use native.Mathlib.Decide.{dec_lt}
use mathlib.Core.Path.{◌≡◌, refl}
use mathlib.Core.Bool.{Bool, true, false, ◌&&◌, and-eq-true_iff}
use mathlib.Core.List.{List, [], ◌∷◌, ◌++◌}
use lib.Dec.{ltb, leb}
use lib.ListN.{length, get_or, drop, drop_of_length-le}
use borrow.Author.Tests.{ltb-true, lt-ltb, le-ltb, le-leb, lt-leb}
use Rattle.text_numbers.specs.Digit.{is_between, digit_of, digits, spelt}
use Rattle.byte_parts.proofs.Part.{here}

-- A test that ends in false.
and-false : (b : Bool) → b && false ≡ false
and-false true = refl
and-false false = refl

module _ (low high x : ℕ) where
  -- A number from low to high is is_between them.
  pub amid : low ≤ x → x ≤ high → is_between low high x ≡ true
  unfolding is_between
  amid h k = rw (le-leb low x h, le-leb x high k)

  -- One below low is not.
  pub under : x < low → is_between low high x ≡ false
  unfolding is_between
  under h = rw (lt-leb low x h)

  -- Nor is one above high.
  pub past : high < x → is_between low high x ≡ false
  unfolding is_between
  past h = rw (lt-leb x high h) (and-false (leb low x))

-- What a hex digit stands for, by its bits.
pub digit_known : (x : ℕ) → digit_of x < 16 → x % 16 + x / 64 * 9 ≡ digit_of x
unfolding digit_of
digit_known x h =
    elim (dec_lt x 48) [
      | yes a ↦ absurd (omega (arith, rw (under 48 57 x a, under 65 70 x (omega arith), under 97 102 x (omega arith)) at h))
      | no a ↦
          elim (dec_lt x 58) [
            | yes b ↦ rw (amid 48 57 x (omega arith) (omega arith)) (omega arith)
            | no b ↦
                elim (dec_lt x 65) [
                  | yes c ↦ absurd (omega (arith, rw (past 48 57 x (omega arith), under 65 70 x c, under 97 102 x (omega arith)) at h))
                  | no c ↦
                      elim (dec_lt x 71) [
                        | yes d ↦ rw (past 48 57 x (omega arith), amid 65 70 x (omega arith) (omega arith)) (omega arith)
                        | no d ↦
                            elim (dec_lt x 97) [
                              | yes e ↦ absurd (omega (arith, rw (past 48 57 x (omega arith), past 65 70 x (omega arith), under 97 102 x e) at h))
                              | no e ↦
                                  elim (dec_lt x 103) [
                                    | yes f ↦ rw (past 48 57 x (omega arith), past 65 70 x (omega arith), amid 97 102 x (omega arith) (omega arith)) (omega arith)
                                    | no f ↦ absurd (omega (arith, rw (past 48 57 x (omega arith), past 65 70 x (omega arith), past 97 102 x (omega arith)) at h))
                                  ]
                            ]
                      ]
                ]
          ]
    ]

-- A test that ends in true.
pub and-true : (b : Bool) → b && true ≡ b
and-true true = refl
and-true false = refl

-- Tests in another order.
and_turn : (a b c : Bool) → a && (b && c) ≡ (b && a) && c
and_turn true true c = refl
and_turn true false c = refl
and_turn false true c = refl
and_turn false false c = refl

module _ (base : ℕ) (s : List ℕ) (i : ℕ) where
  -- The rest at i, behind those before.
  pub digits_with : (all : Bool) → i < length s → all && digits base (drop i s) ≡ (ltb (digit_of (get_or s i 0)) base && all) && digits base (drop (i + 1) s)
  unfolding digits
  digits_with all h = rw (here s i h) (and_turn all (ltb (digit_of (get_or s i 0)) base) (digits base (drop (i + 1) s)))

  -- The rest at i, where a digit stands.
  pub digits_here : i < length s → digit_of (get_or s i 0) < base → digits base (drop i s) ≡ digits base (drop (i + 1) s)
  unfolding digits
  digits_here h e = rw (here s i h, lt-ltb _ _ e)

  -- Where none stands.
  pub digits_not : i < length s → base ≤ digit_of (get_or s i 0) → digits base (drop i s) ≡ false
  unfolding digits
  digits_not h e = rw (here s i h, le-ltb _ _ e)

  -- At the end.
  pub digits-end : length s ≤ i → digits base (drop i s) ≡ true
  unfolding digits
  digits-end h = rw (drop_of_length-le s h)

  -- The number at a digit.
  pub spelt_here
      : (n : ℕ) → i < length s
      → spelt base n (drop i s) ≡ spelt base (n * base + digit_of (get_or s i 0)) (drop (i + 1) s)
  unfolding spelt
  spelt_here n h = rw (here s i h)

  -- At the end.
  pub spelt-end : (n : ℕ) → length s ≤ i → spelt base n (drop i s) ≡ n
  unfolding spelt
  spelt-end n h = rw (drop_of_length-le s h)

-- The first of digits is one, and so are the others.
digits-cons
    : (base x : ℕ) (s : List ℕ) → digits base (x ∷ s) ≡ true → (digit_of x < base) × (digits base s ≡ true)
unfolding digits
digits-cons base x s e =
    let h = (and-eq-true_iff (ltb (digit_of x) base) (digits base s)).0 e in
    (ltb-true (digit_of x) base h.0, h.1)

-- Each byte of digits is one.
pub digit_at : (base : ℕ) (s : List ℕ) (i : ℕ) → digits base s ≡ true → i < length s → digit_of (get_or s i 0) < base
digit_at base [] i e h = absurd (omega arith)
digit_at base (x ∷ s) zero e h = (digits-cons base x s e).0
digit_at base (x ∷ s) (suc i) e h = digit_at base s i (digits-cons base x s e).1 (omega arith)

-- The digits 0 to 9.
pub digit_09 : (d : ℕ) → d < 10 → digit_of (48 + d) ≡ d
unfolding digit_of
digit_09 d h = rw (amid 48 57 (48 + d) (omega arith) (omega arith)) (omega arith)

-- The digits A to F.
pub digit_AF : (d : ℕ) → d < 6 → digit_of (65 + d) ≡ d + 10
unfolding digit_of
digit_AF d h =
    rw (past 48 57 (65 + d) (omega arith), amid 65 70 (65 + d) (omega arith) (omega arith)) (omega arith)

-- Digits with one more at the end.
pub digits_snoc
    : (base : ℕ) (s : List ℕ) (x : ℕ) → digits base s ≡ true → digit_of x < base → digits base (s ++ (x ∷ [])) ≡ true
unfolding digits
digits_snoc base [] x e h = rw (lt-ltb (digit_of x) base h)
digits_snoc base (y ∷ s) x e h =
    let g = digits-cons base y s e in
    rw (lt-ltb (digit_of y) base g.0) (digits_snoc base s x g.1 h)

-- The number that they spell.
pub spelt_snoc
    : (base n : ℕ) (s : List ℕ) (x : ℕ) → spelt base n (s ++ (x ∷ [])) ≡ spelt base n s * base + digit_of x
unfolding spelt
spelt_snoc base n [] x = refl
spelt_snoc base n (y ∷ s) x = spelt_snoc base (n * base + digit_of y) s x
