-- `digits::are_digits` meets its contract: those before and the rest say what the whole says. Assumes nothing.
use mathlib.Core.Path.{refl, sym, ◌∙◌}
use native.Mathlib.Omega.{arith}
use Rattle.text_numbers.proofs.DigitLaws.{digits_with, digits-end, and-true}
use Rattle.text_numbers.proofs.digits.are_digits.Goals as goal

pub loop-x-preserved : goal.loop-x-preserved
loop-x-preserved c =
    let a = c.args in
    c.loop-x.invariant ∙ rw c.with_digit-all.ensures (digits_with a.base a.s.now c.loop-x.x-index c.loop-x.all (omega arith))

pub returns : goal.returns
returns c =
    let a = c.args in
    sym (c.loop-x.invariant ∙ rw (digits-end a.base a.s.now c.loop-x.x-index (omega arith)) (and-true c.loop-x.all))

pub loop-x-init : goal.loop-x-init
loop-x-init c = refl
