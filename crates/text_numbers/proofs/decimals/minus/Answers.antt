-- `decimals::minus` meets its contract. Assumes nothing.
use Prim.Native.Nat.{ℕ, zero, suc}
use mathlib.Core.Path.{◌≡◌, refl}
use native.Mathlib.Nat.{zero-add}
use lib.IntN.{pos, negsuc, ◌-ℤ◌}
use mir.Syntax.{w32}
use mir.Facts.{to_z_pos}
use Rattle.text_numbers.proofs.decimals.minus.Goals as goal

-- One below 0, less k.
one_less : (k : ℕ) → negsuc 0 -ℤ pos k ≡ negsuc k
one_less zero = refl
one_less (suc k) = simp zero-add

pub overflow_sub-result : goal.overflow_sub-result
overflow_sub-result c = rw (to_z_pos w32 c.requires, one_less) record { sfits = c.requires }
