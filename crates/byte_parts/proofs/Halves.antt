-- Laws of numbers of 16 bits: two bytes of a number make it again, and two bytes are those of the number that they make. Assumes nothing.
use Prim.Native.Nat.{ℕ, ◌+◌, ◌*◌, ◌/◌, ◌%◌, ◌<◌, ◌^◌}
use native.Mathlib.Omega.{arith}
use mathlib.Core.Path.{◌≡◌, sym}
use mathlib.Core.List.{List, [], ◌∷◌}
use lib.ListN.{get_or}
use Rattle.byte_parts.specs.Half.{half_bytes, half_at}

-- A digit to the base of 256, and those above it.
pub digit : (a b : ℕ) → a < 256 → ((a + 256 * b) % 256 ≡ a) × ((a + 256 * b) / 256 ≡ b)
digit a b h = (omega arith, omega arith)

-- A digit is its own rest.
pub small : (a : ℕ) → a < 256 → a % 256 ≡ a
small a h = omega arith

-- A number, by its last digit and those above it.
pub split : (v : ℕ) → v ≡ v % 256 + 256 * (v / 256)
split v = omega arith

-- Two bytes of a number, put together again.
pub half_back : (v : ℕ) → v < 2 ^ 16 → v % 256 + 256 * (v / 256 % 256) ≡ v
half_back v h = rw (small (v / 256) (omega arith)) (sym (split v))

-- Two bytes, as those of the number that they make.
pub half_says : (s : List ℕ) (at : ℕ) → get_or s at 0 < 2 ^ 8 → get_or s (at + 1) 0 < 2 ^ 8 → half_bytes (half_at s at) ≡ get_or s at 0 ∷ get_or s (at + 1) 0 ∷ []
unfolding half_bytes half_at
half_says s at h k =
    let d = digit (get_or s at 0) (get_or s (at + 1) 0) h in
    rw (d.0, d.1, small (get_or s (at + 1) 0) k)

-- Two bytes make a number of 16 bits.
pub half_fits : (s : List ℕ) (at : ℕ) → get_or s at 0 < 2 ^ 8 → get_or s (at + 1) 0 < 2 ^ 8 → half_at s at < 2 ^ 16
unfolding half_at
half_fits s at h k = omega arith
