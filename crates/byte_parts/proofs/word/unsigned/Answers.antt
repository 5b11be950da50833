-- `word::unsigned` meets its contract. Assumes nothing.
use native.Mathlib.Omega.{arith}
use mathlib.Core.Path.{◌≡◌, ap, ◌∙◌}
use lib.IntN.{pos, nat_abs, ◌+ℤ◌}
use mir.Syntax.{w64}
use mir.Val.{to_z, of_z}
use Rattle.byte_parts.specs.Word.{word_of}
use Rattle.byte_parts.proofs.Laws.{clean, as_pos, word_fits, raised, kept}
use Rattle.byte_parts.proofs.word.unsigned.Goals as goal

-- A number below 0 is raised by 2 ^ 32.
low : (c : goal.Then-z-lt0) → to_z w64 (of_z w64 c.args.z) +ℤ pos 4294967296 ≡ pos (word_of c.args.z)
low c =
    let z = c.args.z in
    let k = clean w64 z c.ranges.z.sfits in
    rw k (raised z c.requires (rw k at c.if-z-lt0.true))

-- Any other stays.
high : (c : goal.Else-z-lt0) → to_z w64 (of_z w64 c.args.z) ≡ pos (word_of c.args.z)
high c =
    let z = c.args.z in
    let k = clean w64 z c.ranges.z.sfits in
    k ∙ kept z (rw k at c.if-z-lt0.false)

pub overflow_add-result : goal.overflow_add-result
overflow_add-result c = rw (low c) (record { sfits = omega (arith, word_fits c.args.z c.requires) })

pub overflow_cast-result : goal.overflow_cast-result
overflow_cast-result c =
    let b = word_fits c.args.z c.requires in
    rw (low c, as_pos (word_of c.args.z) (omega arith)) (tt, record { fits = b })

pub overflow_cast-result-else-z-lt0 : goal.overflow_cast-result-else-z-lt0
overflow_cast-result-else-z-lt0 c = rw (high c) (tt, record { fits = word_fits c.args.z c.requires })

pub returns-then-z-lt0 : goal.returns-then-z-lt0
returns-then-z-lt0 c =
    let b = word_fits c.args.z c.requires in
    rw (low c, as_pos (word_of c.args.z) (omega arith))

pub returns-else-z-lt0 : goal.returns-else-z-lt0
returns-else-z-lt0 c = ap nat_abs (high c)
