-- Laws of hex: what is read, what is printed, and that one undoes the other. Assumes nothing.
use Prim.Native.Nat.{ℕ, zero, suc, ◌+◌, ◌*◌, ◌-◌, ◌/◌, ◌%◌, ◌≤◌, ◌<◌}
use native.Mathlib.Omega.{arith}
use native.Mathlib.Decide.{dec_lt}
use mathlib.Core.Path.{◌≡◌, refl, sym, ◌∙◌}
use mathlib.Core.Bool.{true, ◌&&◌, and-eq-true_iff}
use mathlib.Core.List.{List, [], ◌∷◌}
use lib.Dec.{eqb}
use lib.ListN.{length, get_or, get_or-eq_default}
use borrow.Author.Tests.{eq-eqb, ne_eqb, lt-ltb, le-ltb}
use Rattle.text_numbers.specs.Digit.{digit_of, digits}
use Rattle.text_numbers.proofs.DigitLaws.{digit_at, digit_09, digit_AF}
use Rattle.text_numbers.specs.Hex.{grouped, hex_field, pairs, unhex, capital, to_hex, hex_text}

module _ (n : ℕ) (s : List ℕ) (h : 1 < length s) where
  -- More than one byte is in groups where it is whole groups of digits.
  pub grouped_many : grouped n s ≡ (eqb (length s % n) 0 && digits 16 s)
  unfolding grouped
  grouped_many = rw (ne_eqb (length s) 0 (λ e. omega arith), ne_eqb (length s) 1 (λ e. omega arith))

  -- Then it is digits.
  pub grouped-digits : grouped n s ≡ true → digits 16 s ≡ true
  grouped-digits e = ((and-eq-true_iff (eqb (length s % n) 0) (digits 16 s)).0 (sym grouped_many ∙ e)).1

-- Each pair in a hex field is two digits.
pub field_pair
    : (s : List ℕ) (i : ℕ) → hex_field s ≡ true → i * 2 + 1 < length s
    → (digit_of (get_or s (i * 2) 0) < 16) × (digit_of (get_or s (i * 2 + 1) 0) < 16)
unfolding hex_field
field_pair s i e h =
    let d = grouped-digits 2 s (omega arith) e in
    (digit_at 16 s (i * 2) d (omega arith), digit_at 16 s (i * 2 + 1) d h)

-- The places of the next pair.
even : (i : ℕ) → suc i * 2 ≡ suc (suc (i * 2))
even i = omega arith

odd : (i : ℕ) → suc i * 2 + 1 ≡ suc (suc (i * 2 + 1))
odd i = omega arith

module _ (f : ℕ → ℕ → ℕ) where
  -- There are half as many pairs.
  pub length_pairs : (s : List ℕ) → length (pairs f s) ≡ length s / 2
  unfolding pairs
  length_pairs [] = refl
  length_pairs (x ∷ []) = refl
  length_pairs (x ∷ y ∷ s) = let h = length_pairs s in omega arith

  -- What a pair makes.
  pub pairs_at_lem
      : (s : List ℕ) (i : ℕ) → i * 2 + 1 < length s → get_or (pairs f s) i 0 ≡ f (get_or s (i * 2) 0) (get_or s (i * 2 + 1) 0)
  unfolding pairs
  pairs_at_lem [] i h = absurd (omega arith)
  pairs_at_lem (x ∷ []) i h = absurd (omega arith)
  pairs_at_lem (x ∷ y ∷ s) zero h = refl
  pairs_at_lem (x ∷ y ∷ s) (suc i) h = rw (odd i, even i) (pairs_at_lem s i (omega arith))

-- A hex field spells half as many bytes as it has digits.
pub length-unhex : (s : List ℕ) → length (unhex s) ≡ length s / 2
unfolding unhex
length-unhex s = length_pairs (λ x y. digit_of x * 16 + digit_of y) s

-- Two digits spell a byte.
pub unhex_at
    : (s : List ℕ) (i : ℕ) → i * 2 + 1 < length s
    → get_or (unhex s) i 0 ≡ digit_of (get_or s (i * 2) 0) * 16 + digit_of (get_or s (i * 2 + 1) 0)
unfolding unhex
unhex_at s i h = pairs_at_lem (λ x y. digit_of x * 16 + digit_of y) s i h

-- What a hex field spells is bytes.
pub unhex_byte : (s : List ℕ) → hex_field s ≡ true → (i : ℕ) → get_or (unhex s) i 0 < 256
unhex_byte s e i =
    let n = length-unhex s in
    elim (dec_lt (i * 2 + 1) (length s)) [
      | yes h ↦ let p = field_pair s i e h in rw (unhex_at s i h) (omega arith)
      | no h ↦ let g : length (unhex s) ≤ i = omega arith in rw (get_or-eq_default (unhex s) 0 g) (omega arith)
    ]

-- Hex has two digits for each byte.
pub length-to_hex : (s : List ℕ) → length (to_hex s) ≡ length s * 2
unfolding to_hex
length-to_hex [] = refl
length-to_hex (x ∷ s) = let h = length-to_hex s in omega arith

-- The digits of a byte.
pub to_hex_at
    : (s : List ℕ) (i : ℕ) → i < length s
    → (capital (get_or s i 0 / 16) ≡ get_or (to_hex s) (i * 2) 0) × (capital (get_or s i 0 % 16) ≡ get_or (to_hex s) (i * 2 + 1) 0)
unfolding to_hex
to_hex_at [] i h = absurd (omega arith)
to_hex_at (x ∷ s) zero h = (refl, refl)
to_hex_at (x ∷ s) (suc i) h = rw (odd i, even i) (to_hex_at s i (omega arith))

-- No bytes are printed as `-`.
pub hex_text-none : (s : List ℕ) → length s ≡ 0 → hex_text s ≡ 45 ∷ []
unfolding hex_text
hex_text-none [] h = refl
hex_text-none (x ∷ s) h = absurd (omega arith)

-- Others as their digits.
pub hex_text-some : (s : List ℕ) → (length s ≡ 0 → ⊥) → hex_text s ≡ to_hex s
unfolding hex_text
hex_text-some [] h = absurd (h refl)
hex_text-some (x ∷ s) h = refl

-- A hex field takes two bytes for each byte, and one for none.
pub hex_text-long : (s : List ℕ) → length (hex_text s) ≤ length s * 2 + 1
unfolding hex_text
hex_text-long [] = omega arith
hex_text-long (x ∷ s) = omega (arith, length-to_hex (x ∷ s))

-- The capital digit of a number below 16 is read as that number.
pub capital-back : (d : ℕ) → d < 16 → digit_of (capital d) ≡ d
unfolding capital
capital-back d h =
    elim (dec_lt d 10) [
      | yes l ↦ rw (lt-ltb d 10 l) (digit_09 d l)
      | no l ↦
          let g : 10 ≤ d = omega arith in
          rw (le-ltb d 10 g) (digit_AF (d - 10) (omega arith) ∙ omega arith)
    ]

-- Bytes in hex are hex digits.
pub to_hex-digits : (s : List ℕ) → ((i : ℕ) → get_or s i 0 < 256) → digits 16 (to_hex s) ≡ true
unfolding digits to_hex
to_hex-digits [] b = refl
to_hex-digits (x ∷ s) b =
    let h = b 0 in
    let u : x / 16 < 16 = omega arith in
    let v : x % 16 < 16 = omega arith in
    rw (capital-back (x / 16) u, capital-back (x % 16) v, lt-ltb (x / 16) 16 u, lt-ltb (x % 16) 16 v)
    (to_hex-digits s (λ i. b (suc i)))

-- Read again they are the same bytes.
pub hex_back : (s : List ℕ) → ((i : ℕ) → get_or s i 0 < 256) → unhex (to_hex s) ≡ s
unfolding pairs unhex to_hex
hex_back [] b = refl
hex_back (x ∷ s) b =
    let h = b 0 in
    let e : x / 16 * 16 + x % 16 ≡ x = omega arith in
    rw (capital-back (x / 16) (omega arith), capital-back (x % 16) (omega arith), e, hex_back s (λ i. b (suc i)))

-- Whole bytes of hex digits are a hex field.
pub digits_field : (s : List ℕ) → 1 < length s → length s % 2 ≡ 0 → digits 16 s ≡ true → hex_field s ≡ true
unfolding hex_field
digits_field s h e d = rw (grouped_many 2 s h, eq-eqb (length s % 2) 0 e, d)

-- What is printed as a hex field is one.
pub hex_text_field : (s : List ℕ) → ((i : ℕ) → get_or s i 0 < 256) → hex_field (hex_text s) ≡ true
unfolding hex_text grouped hex_field
hex_text_field [] b = refl
hex_text_field (x ∷ s) b =
    let n = length-to_hex (x ∷ s) in
    digits_field (to_hex (x ∷ s)) (omega arith) (omega arith) (to_hex-digits (x ∷ s) b)

-- Read again it is the same bytes.
pub hex_text-back : (s : List ℕ) → ((i : ℕ) → get_or s i 0 < 256) → unhex (hex_text s) ≡ s
unfolding hex_text pairs unhex
hex_text-back [] b = refl
hex_text-back (x ∷ s) b = hex_back (x ∷ s) b
