-- Numbers of 32 bits with a sign, and how large their sums are. Assumes nothing.
use Prim.Native.Nat.{ℕ, zero, suc, ◌+◌, ◌≤◌, ◌<◌, ◌^◌}
use native.Mathlib.Omega.{arith}
use native.Mathlib.Decide.{dec_lt}
use mathlib.Core.Path.{◌≡◌, refl, ap}
use mathlib.Core.Bool.{true, false}
use lib.IntN.{ℤ, pos, negsuc, sub_ℕ, ◌+ℤ◌, ◌-ℤ◌}
use lib.Signed.{mag, lt_z, le_z}
use mir.Syntax.{Width, w32, w64}
use mir.Val.{to_z, of_z, hbits, SFits}
use mir.Facts.{to_z-of_z}
use borrow.Author.Tests.{lt-ltb, le-ltb, ltb-true, ltb-false, lt-leb, le-leb}
use Rattle.byte_parts.specs.Word.{signed_of, word_of}

-- A number with a sign that went through its bits is itself.
pub clean : (w : Width) (z : ℤ) → mag z < 2 ^ hbits w → to_z w (of_z w z) ≡ z
clean w z h = to_z-of_z (record { sfits = h })

-- A number of 32 bits fits 64.
pub widens : (z : ℤ) → mag z < 2 ^ 31 → SFits w64 (to_z w32 (of_z w32 z))
widens z h = rw (clean w32 z h) (record { sfits = omega arith })

-- And is itself there.
pub widened : (z : ℤ) → mag z < 2 ^ 31 → to_z w64 (of_z w64 (to_z w32 (of_z w32 z))) ≡ z
widened z h = rw (clean w32 z h) (clean w64 z (omega arith))

-- Small bits stand for themselves.
pub as_pos : (n : ℕ) → n < 2 ^ 63 → to_z w64 n ≡ pos n
as_pos n h = rw (lt-ltb n (2 ^ 63) h)

-- Below 2 ^ 31 a number stands for itself.
pub signed_low : (n : ℕ) → n < 2147483648 → pos n ≡ signed_of n
unfolding signed_of
signed_low n h = rw (lt-ltb n 2147483648 h)

-- From 2 ^ 31 on it stands for itself less 2 ^ 32.
pub signed_high : (n : ℕ) → 2147483648 ≤ n → n < 2 ^ 32 → pos n -ℤ pos 4294967296 ≡ signed_of n
unfolding signed_of
signed_high n l h = rw (le-ltb n 2147483648 l, lt-ltb n 4294967296 h) (ap negsuc (omega arith))

-- What 32 bits stand for is no larger than they are.
pub signed_mag : (n : ℕ) → n < 2 ^ 32 → mag (signed_of n) < 2 ^ 32
unfolding signed_of
signed_mag n h =
    elim (dec_lt n 2147483648) [
      | yes l ↦ rw (lt-ltb n 2147483648 l) (omega arith)
      | no l ↦ rw (le-ltb n 2147483648 (omega arith)) (omega arith)
    ]

-- The 32 bits of a number are 32 bits.
pub word_fits : (z : ℤ) → mag z < 2 ^ 32 → word_of z < 2 ^ 32
unfolding word_of
word_fits (pos n) h = h
word_fits (negsuc n) h = omega arith

-- A negative number's bits are it plus 2 ^ 32.
pub raised : (z : ℤ) → mag z < 2 ^ 32 → lt_z z (pos 0) ≡ true → z +ℤ pos 4294967296 ≡ pos (word_of z)
unfolding word_of
raised (pos n) m t = absurd (omega (arith, ltb-true n 0 t))
raised (negsuc n) m t = rw (le-ltb 4294967296 (suc n) (omega arith)) (ap pos (omega arith))

-- Any other number is its bits.
pub kept : (z : ℤ) → lt_z z (pos 0) ≡ false → z ≡ pos (word_of z)
unfolding word_of
kept (pos n) t = refl
kept (negsuc n) t = cc

-- The test of order, turned round.
pub lt_nle : (a b : ℤ) → lt_z a b ≡ true → le_z b a ≡ false
lt_nle (pos a) (pos b) t = lt-leb b a (ltb-true a b t)
lt_nle (pos a) (negsuc b) t = cc
lt_nle (negsuc a) (pos b) t = refl
lt_nle (negsuc a) (negsuc b) t = lt-leb a b (ltb-true b a t)

-- The same of a test that fails.
pub nlt_le : (a b : ℤ) → lt_z a b ≡ false → le_z b a ≡ true
nlt_le (pos a) (pos b) t = le-leb b a (ltb-false a b t)
nlt_le (pos a) (negsuc b) t = refl
nlt_le (negsuc a) (pos b) t = cc
nlt_le (negsuc a) (negsuc b) t = le-leb a b (ltb-false b a t)

-- How large a difference of two numbers without a sign is.
sub_mag : (a b : ℕ) → mag (sub_ℕ a b) ≤ a + b
sub_mag a b =
    elim (dec_lt a b) [
      | yes l ↦ rw (lt-ltb a b l) (omega arith)
      | no l ↦ rw (le-ltb a b (omega arith)) (omega arith)
    ]

-- How large a sum is.
pub plus_mag : (a b : ℤ) → mag (a +ℤ b) ≤ mag a + mag b + 2
plus_mag (pos a) (pos b) = omega arith
plus_mag (pos a) (negsuc b) = omega (arith, sub_mag a (suc b))
plus_mag (negsuc a) (pos b) = omega (arith, sub_mag b (suc a))
plus_mag (negsuc a) (negsuc b) = omega arith

-- How large a difference is.
pub minus_mag : (a b : ℤ) → mag (a -ℤ b) ≤ mag a + mag b + 2
minus_mag (pos a) (pos zero) = omega arith
minus_mag (pos a) (pos (suc b)) = omega (arith, sub_mag a (suc b))
minus_mag (pos a) (negsuc b) = omega arith
minus_mag (negsuc a) (pos zero) = omega (arith, sub_mag 0 (suc a))
minus_mag (negsuc a) (pos (suc b)) = omega arith
minus_mag (negsuc a) (negsuc b) = omega (arith, sub_mag (suc b) (suc a))

-- A sum or a difference f of two numbers of 32 bits, computed in 64.
module _ (f : ℤ → ℤ → ℤ) (bound : (x y : ℤ) → mag (f x y) ≤ mag x + mag y + 2) (x y : ℤ) (hx : mag x < 2 ^ 32) (hy : mag y < 2 ^ 32) where
  -- It fits.
  pub op_fits : SFits w64 (f (to_z w64 (of_z w64 x)) (to_z w64 (of_z w64 y)))
  op_fits = rw (clean w64 x (omega arith), clean w64 y (omega arith)) (record { sfits = omega (arith, bound x y) })

  -- It is f of the two.
  pub op_clean : to_z w64 (of_z w64 (f (to_z w64 (of_z w64 x)) (to_z w64 (of_z w64 y)))) ≡ f x y
  op_clean = rw (clean w64 x (omega arith), clean w64 y (omega arith)) (clean w64 (f x y) (omega (arith, bound x y)))
