-- `word::signed` meets its contract. Assumes nothing.
use native.Mathlib.Omega.{arith}
use mathlib.Core.Path.{◌≡◌, ◌∙◌}
use lib.IntN.{pos, ◌-ℤ◌}
use mir.Syntax.{w64}
use mir.Val.{to_z}
use Rattle.byte_parts.specs.Word.{signed_of}
use Rattle.byte_parts.proofs.Laws.{clean, as_pos, signed_low, signed_high, signed_mag}
use Rattle.byte_parts.proofs.word.signed.Goals as goal

-- From 2 ^ 31 on.
high : (c : goal.Else-v-lt2147483648) → to_z w64 c.args.v -ℤ pos 4294967296 ≡ signed_of c.args.v
high c = let v = c.args.v in rw (as_pos v (omega arith)) (signed_high v (omega arith) (omega arith))

pub overflow_sub-result : goal.overflow_sub-result
overflow_sub-result c = rw (high c) (record { sfits = omega (arith, signed_mag c.args.v (omega arith)) })

pub returns-then-v-lt2147483648 : goal.returns-then-v-lt2147483648
returns-then-v-lt2147483648 c = let v = c.args.v in as_pos v (omega arith) ∙ signed_low v (omega arith)

pub returns-else-v-lt2147483648 : goal.returns-else-v-lt2147483648
returns-else-v-lt2147483648 c =
    let v = c.args.v in
    rw (high c) (clean w64 (signed_of v) (omega (arith, signed_mag v (omega arith))))
