-- `word::signed32` meets its contract: below 2 ^ 31 the number itself, from there on one below the complement. Assumes nothing.
use Prim.Native.Nat.{ℕ, zero, suc, ◌-◌, ◌<◌}
use mathlib.Core.Path.{◌≡◌, refl}
use native.Mathlib.Nat.{zero-add}
use native.Mathlib.Omega.{arith}
use borrow.Author.Tests.{lt-ltb, le-ltb}
use lib.IntN.{pos, negsuc, ◌-ℤ◌}
use mir.Syntax.{w32}
use mir.Val.{to_z}
use mir.Facts.{to_z_pos, to_z-of_z}
use Rattle.byte_parts.specs.Word.{signed_of}
use Rattle.byte_parts.proofs.word.signed32.Goals as goal

one_less : (k : ℕ) → negsuc 0 -ℤ pos k ≡ negsuc k
one_less zero = refl
one_less (suc k) = simp zero-add

-- the difference, at a number whose complement has 31 bits
less : (k : ℕ) → k < 2147483648 → negsuc 0 -ℤ to_z w32 k ≡ negsuc k
less k h = rw (to_z_pos w32 h) (one_less k)

pub returns-then-v-le2147483647 : goal.returns-then-v-le2147483647
unfolding signed_of
returns-then-v-le2147483647 c = rw (lt-ltb c.args.v 2147483648 (omega arith))

pub overflow_sub-result-else-v-le2147483647 : goal.overflow_sub-result-else-v-le2147483647
overflow_sub-result-else-v-le2147483647 c =
    let k = 4294967295 - c.args.v in
    let h : k < 2147483648 = omega arith in
    rw (less k h) (record { sfits = omega arith })

pub returns-else-v-le2147483647 : goal.returns-else-v-le2147483647
unfolding signed_of
returns-else-v-le2147483647 c =
    let v = c.args.v in
    let k = 4294967295 - v in
    let h : k < 2147483648 = omega arith in
    rw (le-ltb v 2147483648 (omega arith), less k h) (to_z-of_z {w = w32} (record { sfits = omega arith }))
