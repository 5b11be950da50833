-- Laws of codes in hex: what one spells, and joined ones. Assumes nothing.
use Rattle.std.proofs.Common.{Some}
use Prim.Native.Nat.{ℕ, zero, suc, ◌+◌, ◌*◌, ◌/◌, ◌%◌, ◌<◌}
use native.Mathlib.Omega.{arith}
use mathlib.Core.Path.{◌≡◌, refl, sym, ap, ◌∙◌}
use mathlib.Core.Bool.{Bool, true, false, ◌&&◌, false≢true}
use mathlib.Core.List.{List, [], ◌∷◌}
use lib.Dec.{eqb}
use lib.ListN.{length, get_or}
use borrow.Author.Tests.{eq-eqb, eqb-true}
use Rattle.text_numbers.specs.Digit.{digit_of, digits, spelt}
use Rattle.text_numbers.proofs.DigitLaws.{spelt_here, spelt-end}
use Rattle.text_numbers.specs.Hex.{grouped, hex_field, unhex, to_hex}
use Rattle.text_numbers.specs.Codes.{hex16, codes_field, codes_of}
use Rattle.text_numbers.proofs.HexLaws.{grouped_many, grouped-digits, length_pairs, pairs_at_lem, length-unhex, unhex_at, capital-back, to_hex-digits}

-- The number that four hex digits spell.
pub spelt_four
    : (s : List ℕ) → length s ≡ 4
    → spelt 16 0 s ≡ (digit_of (get_or s 0 0) * 16 + digit_of (get_or s 1 0)) * 256 + (digit_of (get_or s 2 0) * 16 + digit_of (get_or s 3 0))
spelt_four s h =
    let a = digit_of (get_or s 0 0) in
    let b = digit_of (get_or s 1 0) in
    let c = digit_of (get_or s 2 0) in
    let d = digit_of (get_or s 3 0) in
    let e : spelt 16 0 s ≡ (((0 * 16 + a) * 16 + b) * 16 + c) * 16 + d =
    spelt_here 16 s 0 0 (omega arith)
    ∙ spelt_here 16 s 1 (0 * 16 + a) (omega arith)
    ∙ spelt_here 16 s 2 ((0 * 16 + a) * 16 + b) (omega arith)
    ∙ spelt_here 16 s 3 (((0 * 16 + a) * 16 + b) * 16 + c) (omega arith)
    ∙ spelt-end 16 s 4 ((((0 * 16 + a) * 16 + b) * 16 + c) * 16 + d) (omega arith) in
    omega arith

-- Four hex digits are the number that they spell.
pub hex16_four : (s : List ℕ) → length s ≡ 4 → digits 16 s ≡ true → hex16 s ≡ Some (spelt 16 0 s)
unfolding hex16
hex16_four s h d = rw (eq-eqb (length s) 4 h, d)

-- Two bytes.
two_bytes : (a b : ℕ) → a < 256 → b < 256 → (i : ℕ) → get_or (a ∷ b ∷ []) i 0 < 256
two_bytes a b h k zero = h
two_bytes a b h k (suc zero) = k
two_bytes a b h k (suc (suc i)) = omega arith

-- A number below 65,536 in four hex digits is read as that number.
pub hex16-back : (n : ℕ) → n < 65536 → hex16 (to_hex (n / 256 ∷ n % 256 ∷ [])) ≡ Some n
unfolding to_hex
hex16-back n h =
    let a = n / 256 in
    let b = n % 256 in
    let t = to_hex (a ∷ b ∷ []) in
    let d = to_hex-digits (a ∷ b ∷ []) (two_bytes a b (omega arith) (omega arith)) in
    let e : spelt 16 0 t ≡ n =
    spelt_four t refl
    ∙ rw (capital-back (a / 16) (omega arith), capital-back (a % 16) (omega arith), capital-back (b / 16) (omega arith), capital-back (b % 16) (omega arith))
    (omega arith) in
    hex16_four t refl d ∙ ap Some e

-- Where a test fails, so does one that passes less.
narrower : (a b d : Bool) → (a ≡ true → b ≡ true) → (b && d) ≡ false → (a && d) ≡ false
narrower true b d h e = rw (h refl) at e
narrower false b d h e = refl

-- What is no hex field is no joined codes.
pub codes_not : (s : List ℕ) → hex_field s ≡ false → codes_field s ≡ false
unfolding grouped hex_field codes_field
codes_not [] e = refl
codes_not (x ∷ []) e = e
codes_not (x ∷ y ∷ s) e =
    let n = length (x ∷ y ∷ s) in
    grouped_many 4 (x ∷ y ∷ s) (omega arith)
    ∙ narrower (eqb (n % 4) 0) (eqb (n % 2) 0) (digits 16 (x ∷ y ∷ s))
    (λ h. eq-eqb (n % 2) 0 (let k = eqb-true (n % 4) 0 h in omega arith)) (sym (grouped_many 2 (x ∷ y ∷ s) (omega arith)) ∙ e)

-- A hex field of one byte is `-`, which is no codes.
pub codes-none : (s : List ℕ) → length s ≡ 1 → hex_field s ≡ true → codes_field s ≡ true
unfolding grouped hex_field codes_field
codes-none s h e = rw (eq-eqb (length s) 1 h) (rw (eq-eqb (length s) 1 h) at e)

-- A test that ends in true.
and-true : (b : Bool) → (b && true) ≡ b
and-true true = refl
and-true false = refl

-- A longer hex field is joined codes where it is whole codes.
pub codes-some : (s : List ℕ) → (length s ≡ 1 → ⊥) → hex_field s ≡ true → codes_field s ≡ eqb (length s % 4) 0
unfolding grouped hex_field codes_field
codes-some [] h e = absurd (false≢true e)
codes-some (x ∷ []) h e = absurd (h refl)
codes-some (x ∷ y ∷ s) h e =
    let t = x ∷ y ∷ s in
    grouped_many 4 t (omega arith) ∙ rw (grouped-digits 2 t (omega arith) e) (and-true (eqb (length t % 4) 0))

-- There is a code for each four digits.
pub length-codes : (s : List ℕ) → length (codes_of s) ≡ length s / 4
unfolding codes_of
length-codes s = omega (arith, length_pairs (λ high low. high * 256 + low) (unhex s), length-unhex s)

-- Joined codes are digits.
pub codes-digits : (s : List ℕ) → codes_field s ≡ true → 1 < length s → digits 16 s ≡ true
unfolding codes_field
codes-digits s e h = grouped-digits 4 s h e

-- Four digits spell a code.
pub codes_at
    : (s : List ℕ) (i : ℕ) → i * 4 + 3 < length s
    → get_or (codes_of s) i 0 ≡ (digit_of (get_or s (i * 4) 0) * 16 + digit_of (get_or s (i * 4 + 1) 0)) * 256 + (digit_of (get_or s (i * 4 + 2) 0) * 16 + digit_of (get_or s (i * 4 + 3) 0))
unfolding codes_of
codes_at s i h =
    let n = length-unhex s in
    let a : i * 2 * 2 ≡ i * 4 = omega arith in
    let b : (i * 2 + 1) * 2 ≡ i * 4 + 2 = omega arith in
    let c : i * 4 + 2 + 1 ≡ i * 4 + 3 = omega arith in
    let u = rw a at (unhex_at s (i * 2) (omega arith)) in
    let v = rw (b, c) at (unhex_at s (i * 2 + 1) (omega arith)) in
    pairs_at_lem (λ high low. high * 256 + low) (unhex s) i (omega arith) ∙ rw (u, v)

-- One code alone.
pub codes_one : (s : List ℕ) → length s ≡ 4 → get_or (codes_of s) 0 0 ≡ spelt 16 0 s
codes_one s h = codes_at s 0 (omega arith) ∙ sym (spelt_four s h)
