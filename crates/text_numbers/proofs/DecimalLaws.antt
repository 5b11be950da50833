-- Laws of decimals: what is read, what is printed, and that one undoes the other. Assumes nothing.
use Rattle.std.proofs.Common.{Some, None, Ok, Err}
use Prim.Native.Nat.{ℕ, zero, suc, ◌+◌, ◌*◌, ◌-◌, ◌/◌, ◌%◌, ◌^◌, ◌≤◌, ◌<◌}
use native.Mathlib.Omega.{arith}
use native.Mathlib.Decide.{dec_lt}
use native.Mathlib.Nat.{pow-suc}
use mathlib.Core.Path.{◌≡◌, refl, sym, ap, ◌∙◌}
use mathlib.Core.Bool.{Bool, true, false, cond}
use mathlib.Core.List.{List, [], ◌∷◌, ◌++◌}
use lib.IntN.{ℤ, pos, negsuc}
use mir.Syntax.{w32}
use mir.Val.{SFits}
use Rattle.std.specs.Prelude.{Result, OkIff}
use Rattle.std.specs.Result.{result_ok}
use lib.ListN.{length, get_or, drop, length-append, get_or-append}
use borrow.Author.Tests.{eq-eqb, ne_eqb, lt-ltb, le-ltb, le-leb, lt-leb}
use Rattle.text_numbers.specs.Digit.{digit_of, digits, spelt}
use Rattle.text_numbers.specs.Decimal.{plain, up_to, decimal, positive, negative, signed, digits_of, dec_text}
use Rattle.text_numbers.proofs.DigitLaws.{amid, under, past, digit_09, digits_snoc, spelt_snoc}

module _ (most n : ℕ) where
  -- A number that the width holds.
  pub up_to_is_lem : n ≤ most → up_to most n ≡ Some n
  unfolding up_to
  up_to_is_lem h = rw (le-leb n most h)

  -- One that it does not.
  pub up_to-bad : most < n → up_to most n ≡ None
  unfolding up_to
  up_to-bad h = rw (lt-leb n most h)

-- What is read is within the width.
up_to-most : (most v n : ℕ) → up_to most v ≡ Some n → n ≤ most
up_to-most most v n e =
    elim (dec_lt most v) [
      | yes h ↦ let b = up_to-bad most v h in let z : ◌≡◌ {A = ℕ} 0 1 = cc in absurd (omega arith)
      | no h ↦ let b = up_to_is_lem most v (omega arith) in let z : v ≡ n = cc in omega arith
    ]

-- More digits make no number less.
pub spelt_least : (s : List ℕ) (n : ℕ) → n ≤ spelt 10 n s
unfolding spelt
spelt_least [] n = omega arith
spelt_least (x ∷ s) n = omega (arith, spelt_least s (n * 10 + digit_of x))

-- A decimal that was read is within the width.
pub decimal-most : (most : ℕ) (s : List ℕ) (n : ℕ) → decimal most s ≡ Some n → n ≤ most
unfolding decimal
decimal-most most s n e = among_cases (plain s) e
  where
    among_cases : (t : Bool) → cond t (up_to most (spelt 10 0 s)) None ≡ Some n → n ≤ most
    among_cases true e = up_to-most most (spelt 10 0 s) n e
    among_cases false e = let z : ◌≡◌ {A = ℕ} 0 1 = cc in absurd (omega arith)

-- 0 has no digits but its own.
none : (k : ℕ) → digits_of k 0 ≡ []
unfolding digits_of
none zero = refl
none (suc k) = refl

-- As many as n digits are enough, and more are no better.
enough : (k j n : ℕ) → n ≤ k → n ≤ j → digits_of k n ≡ digits_of j n
unfolding digits_of
enough zero j n h g = let z : n ≡ 0 = omega arith in rw (z, none j)
enough (suc k) j zero h g = sym (none j)
enough (suc k) zero (suc n) h g = absurd (omega arith)
enough (suc k) (suc j) (suc n) h g = rw (enough k j (suc n / 10) (omega arith) (omega arith))

-- Any number but 0 is its digits.
some : (k n : ℕ) → 0 < n → n ≤ k → digits_of k n ≡ dec_text n
unfolding dec_text
some k zero z h = absurd (omega arith)
some k (suc n) z h = enough k (suc n) (suc n) h (omega arith)

-- A number below ten has one digit.
pub dec_one : (n : ℕ) → n < 10 → dec_text n ≡ (48 + n) ∷ []
unfolding dec_text digits_of
dec_one zero h = refl
dec_one (suc n) h =
    let q : suc n / 10 ≡ 0 = omega arith in
    let r : suc n % 10 ≡ suc n = omega arith in
    rw (q, r, none n)

-- Any other is ten times a number, and a digit.
pub dec_more : (n : ℕ) → 10 ≤ n → dec_text n ≡ dec_text (n / 10) ++ ((48 + n % 10) ∷ [])
unfolding dec_text digits_of
dec_more zero h = absurd (omega arith)
dec_more (suc n) h = rw (some n (suc n / 10) (omega arith) (omega arith))

-- One takes one byte.
pub long_one : (n : ℕ) → n < 10 → length (dec_text n) ≡ 1
long_one n h = ap length (dec_one n h)

-- The other one more than a tenth of it.
pub long-more : (n : ℕ) → 10 ≤ n → length (dec_text n) ≡ length (dec_text (n / 10)) + 1
long-more n h = ap length (dec_more n h) ∙ length-append (dec_text (n / 10)) ((48 + n % 10) ∷ [])

module _ (n : ℕ) where
  -- A number without a sign that 32 bits hold.
  pub positive_is : n < 2147483648 → positive (Some n) ≡ Some (pos n)
  unfolding positive
  positive_is h = rw (lt-ltb n 2147483648 h)

  -- One that is too large.
  pub positive-bad : 2147483648 ≤ n → positive (Some n) ≡ None
  unfolding positive
  positive-bad h = rw (le-ltb n 2147483648 h)

  -- What a conversion to 32 bits with a sign gives.
  pub positive_from : {E : Type 0} (r : Result ℤ E) → OkIff r (SFits w32 (pos n)) (pos n) → result_ok r ≡ positive (Some n)
  positive_from (Ok x) p = ap Some p.1 ∙ sym (positive_is p.0.sfits)
  positive_from (Err e) p =
      elim (dec_lt n 2147483648) [ yes h ↦ absurd (p record { sfits = h }) | no h ↦ sym (positive-bad (omega arith)) ]

  -- A number after a sign that 32 bits hold.
  pub negative_is : 1 ≤ n → n ≤ 2147483648 → negative (Some n) ≡ Some (negsuc (n - 1))
  unfolding negative
  negative_is h k = rw (amid 1 2147483648 n h k)

  -- 0 after a sign.
  pub negative_zero : n < 1 → negative (Some n) ≡ None
  unfolding negative
  negative_zero h = rw (under 1 2147483648 n h)

  -- One that is too large.
  pub negative-bad : 2147483648 < n → negative (Some n) ≡ None
  unfolding negative
  negative-bad h = rw (past 1 2147483648 n h)

-- No bytes are no decimal.
pub signed-none : (s : List ℕ) → length s ≡ 0 → signed s ≡ None
unfolding signed decimal plain positive
signed-none [] h = refl
signed-none (x ∷ s) h = absurd (omega arith)

module _ (s : List ℕ) where
  -- A sign makes the rest negative.
  pub signed_minus : get_or s 0 0 ≡ 45 → signed s ≡ negative (decimal 4294967295 (drop 1 s))
  unfolding signed
  signed_minus h = rw (eq-eqb (get_or s 0 0) 45 h)

  -- Without one it is positive.
  pub signed_plus : (get_or s 0 0 ≡ 45 → ⊥) → signed s ≡ positive (decimal 4294967295 s)
  unfolding signed
  signed_plus h = rw (ne_eqb (get_or s 0 0) 45 h)

module _ (P : ℕ → List ℕ → Type 0)
    (one : (n : ℕ) → n < 10 → P n ((48 + n) ∷ []))
    (more : (n : ℕ) (t : List ℕ) → 10 ≤ n → P (n / 10) t → P n (t ++ ((48 + n % 10) ∷ []))) where
  -- What holds of one digit, and of one digit more, holds of every decimal of fewer than k + 1.
  dec_upto : (k n : ℕ) → n < k → P n (dec_text n)
  dec_upto zero n h = absurd (omega arith)
  dec_upto (suc k) n h =
      elim (dec_lt n 10) [
        | yes l ↦ rw (dec_one n l) (one n l)
        | no l ↦
            let g : 10 ≤ n = omega arith in
            rw (dec_more n g) (more n (dec_text (n / 10)) g (dec_upto k (n / 10) (omega arith)))
      ]

  -- What holds of one digit, and of one digit more, holds of every decimal.
  pub dec_ind : (n : ℕ) → P n (dec_text n)
  dec_ind n = dec_upto (suc n) n (omega arith)

-- A decimal is digits.
pub dec_digits : (n : ℕ) → digits 10 (dec_text n) ≡ true
unfolding digits
dec_digits =
    dec_ind (λ n t. digits 10 t ≡ true)
    (λ n h. digits_snoc 10 [] (48 + n) refl (rw (digit_09 n h) h))
    (λ n t h d. let r : n % 10 < 10 = omega arith in digits_snoc 10 t (48 + n % 10) d (rw (digit_09 (n % 10) r) r))

-- They spell the number.
pub dec_spelt : (n : ℕ) → spelt 10 0 (dec_text n) ≡ n
unfolding spelt
dec_spelt =
    dec_ind (λ n t. spelt 10 0 t ≡ n)
    (λ n h. spelt_snoc 10 0 [] (48 + n) ∙ rw (digit_09 n h) (omega arith))
    (λ n t h e. spelt_snoc 10 0 t (48 + n % 10) ∙ rw (digit_09 (n % 10) (omega arith), e) (omega arith))

-- There is one digit at least, and the first is 0 only where the number is.
pub dec_first : (n : ℕ) → (0 < length (dec_text n)) × (get_or (dec_text n) 0 0 ≡ 48 → n ≡ 0)
dec_first =
    dec_ind (λ n t. (0 < length t) × (get_or t 0 0 ≡ 48 → n ≡ 0))
    (λ n h. (omega arith, λ e. omega arith))
    (λ n t h p. (
      omega (arith, length-append t ((48 + n % 10) ∷ [])),
      λ e. let z = p.1 (sym (get_or-append t ((48 + n % 10) ∷ []) 0 0 p.0) ∙ e) in absurd (omega arith),
    ))

-- A number below 10 ^ k has at most k digits, and 0 has one.
pub dec_long : (k n : ℕ) → 0 < k → n < 10 ^ k → length (dec_text n) ≤ k
dec_long zero n z h = absurd (omega arith)
dec_long (suc zero) n z h = omega (arith, long_one n h)
dec_long (suc (suc k)) n z h =
    let g = rw (pow-suc 10 (suc k)) at h in
    elim (dec_lt n 10) [
      | yes l ↦ omega (arith, long_one n l)
      | no l ↦
          let e = long-more n (omega arith) in
          let i = dec_long (suc k) (n / 10) (omega arith) (omega arith) in
          omega arith
    ]

-- A number of 64 bits has at most 20.
pub dec_room : (n : ℕ) → n < 2 ^ 64 → length (dec_text n) ≤ 20
dec_room n h = dec_long 20 n (omega arith) (omega arith)

-- A decimal that was printed has no leading zero.
pub dec_plain : (n : ℕ) → plain (dec_text n) ≡ true
unfolding plain
dec_plain zero = rw (dec_one 0 (omega arith))
dec_plain (suc n) =
    let z = ne_eqb (length (dec_text (suc n))) 0 (λ e. omega (arith, (dec_first (suc n)).0)) in
    let f = ne_eqb (get_or (dec_text (suc n)) 0 0) 48 (λ e. let g = (dec_first (suc n)).1 e in omega arith) in
    rw (z, f) (dec_digits (suc n))

-- A decimal that was printed is read as the number, if the width holds it.
pub dec_back : (most n : ℕ) → n ≤ most → decimal most (dec_text n) ≡ Some n
unfolding decimal
dec_back most n h = rw (dec_plain n, dec_spelt n) (up_to_is_lem most n h)
