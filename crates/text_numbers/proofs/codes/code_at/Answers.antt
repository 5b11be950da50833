-- `codes::code_at` meets its contract: four digits are two bytes, the high one first. Assumes nothing.
use native.Mathlib.Omega.{arith}
use Prim.Native.Nat.{◌+◌, ◌*◌}
use mathlib.Core.Path.{◌≡◌, sym}
use Rattle.text_numbers.proofs.CodeLaws.{codes_at}
use Rattle.text_numbers.proofs.codes.code_at.Goals as goal

pub returns : goal.returns
returns c =
    let a = c.args in
    let next : a.i * 4 + 3 ≡ a.i * 4 + 2 + 1 = omega arith in
    rw (c.byte_at-high.ensures.0, c.byte_at-low.ensures.0) (sym (rw next at (codes_at a.s.now a.i (omega arith))))
