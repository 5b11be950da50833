-- The places of set bits: how many there are, and what changes none of them.
use Prim.Native.Nat.{ℕ, zero, suc, ◌+◌, ◌/◌, ◌%◌, ◌^◌, ◌<◌}
use native.Mathlib.Omega.{arith}
use native.Mathlib.Nat.{zero-add, pow-suc}
use native.Mathlib.Numerals.{add-one, one-add}
use mathlib.Core.Path.{◌≡◌, refl, sym, ◌∙◌, ap}
use mathlib.Core.List.{List, []}
use lib.Arith.{lt-one}
use lib.Count.{ones, ones_in, ones_step}
use lib.ListN.{length, length-append}
use lib.Pow.{shr-shr, field, mod-mod-pow}
use Rattle.error_places.specs.Bitmap.{place_if, places_from, places_of}

-- halving a number of d + 1 bits leaves one of d
pub half : (d : ℕ) {v : ℕ} → v < 2 ^ suc d → v / 2 < 2 ^ d
half d small = omega (arith, pow-suc 2 d)

-- and bit k of the half is bit k + 1 of the number
pub up : (v k : ℕ) → v / 2 / 2 ^ k ≡ v / 2 ^ suc k
up v k = shr-shr v 1 k ∙ ap (λ (n : ℕ). v / 2 ^ n) (one-add k)

-- no bit, no place
pub no_places : (d p : ℕ) → places_from d p 0 ≡ []
unfolding places_from
no_places zero p = refl
no_places (suc d) p = no_places d (p + 1)

-- a digit adds itself to the count
length-place : (b p : ℕ) (ps : List ℕ) → b < 2 → length (place_if b p ps) ≡ b + length ps
length-place zero p ps h = sym (zero-add (length ps))
length-place (suc zero) p ps h = omega arith
length-place (suc (suc b)) p ps h = absurd (omega arith)

-- there are as many places as ones
pub count-from : (d p v : ℕ) → v < 2 ^ d → length (places_from d p v) ≡ ones v
unfolding places_from ones ones_in
count-from zero p v small = ap ones (sym (lt-one small))
count-from (suc d) p v small =
    length-place (v % 2) p (places_from d (p + 1) (v / 2)) (omega arith)
    ∙ ap (λ (n : ℕ). v % 2 + n) (count-from d (p + 1) (v / 2) (half d small)) ∙ sym (ones_step v)

-- the places of d bits are those of the number without the bits above
pub low_bits : (d p v : ℕ) → places_from (suc d) p (v % 2 ^ d) ≡ places_from d p v
unfolding places_from
low_bits zero p v = let none : v % 1 % 2 ≡ 0 = omega arith in rw none
low_bits (suc d) p v =
    let bit : v % 2 ^ suc d % 2 ≡ v % 2 = rw add-one at (mod-mod-pow v d 1) in
    let rest : v % 2 ^ suc d / 2 ≡ v / 2 % 2 ^ d = rw add-one at (field v d 1) in
    rw (bit, rest) (ap (place_if (v % 2) p) (low_bits d (p + 1) (v / 2)))

-- how many places a byte denotes: its ones, and its ones without the top bit
pub count : (v : ℕ) → v < 256 → length (places_of v) ≡ ones v + ones (v % 128)
unfolding places_of
count v byte = rw (length-append, ← low_bits 7 9 v, count-from 8 1 v byte, count-from 8 9 (v % 128) (omega arith))
