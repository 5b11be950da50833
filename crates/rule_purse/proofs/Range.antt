-- A range by its two tests, the lower end first. Assumes nothing.
use Prim.Native.Nat.{◌<◌, ◌^◌}
use native.Mathlib.Omega.{arith}
use mathlib.Core.Path.{◌≡◌, sym, ◌∙◌}
use mathlib.Core.Bool.{true, false, false≢true, ◌&&◌}
use lib.IntN.{ℤ, pos, negsuc}
use lib.Signed.{mag, le_z}
use borrow.Author.Tests.{leb-true}

-- What lies between two numbers of 32 bits is one.
mag_between : (l u v : ℤ) → mag l < 2 ^ 32 → mag u < 2 ^ 32 → le_z l v ≡ true → le_z v u ≡ true → mag v < 2 ^ 32
mag_between l (pos u) (pos v) hl hu t o = omega (arith, leb-true v u o)
mag_between l (negsuc u) (pos v) hl hu t o = absurd (false≢true o)
mag_between (pos l) u (negsuc v) hl hu t o = absurd (false≢true t)
mag_between (negsuc l) u (negsuc v) hl hu t o = omega (arith, leb-true v l t)

-- Below the lower end.
pub under : (l u v : ℤ) → le_z l v ≡ false → (le_z l v ≡ le_z l v && le_z v u) × (le_z l v ≡ true → mag v < 2 ^ 32)
under l u v t = (rw t, λ e. absurd (false≢true (sym t ∙ e)))

-- Not below it: the upper end decides.
pub above
    : (l u v : ℤ) → mag l < 2 ^ 32 → mag u < 2 ^ 32 → le_z l v ≡ true
    → (le_z v u ≡ le_z l v && le_z v u) × (le_z v u ≡ true → mag v < 2 ^ 32)
above l u v hl hu t = (rw t, mag_between l u v hl hu t)
