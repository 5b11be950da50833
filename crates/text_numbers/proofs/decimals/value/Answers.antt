-- `decimals::value` meets its contract: what is left, after n, spells what the whole spells. Assumes nothing.
use Prim.Native.Nat.{◌+◌, ◌*◌, ◌<◌}
use native.Mathlib.Omega.{arith}
use mathlib.Core.Path.{refl, sym, ◌∙◌}
use lib.ListN.{drop, get_or}
use Rattle.text_numbers.specs.Digit.{digit_of, spelt}
use Rattle.text_numbers.proofs.DigitLaws.{spelt_here, spelt-end}
use Rattle.text_numbers.proofs.DecimalLaws.{up_to_is_lem, up_to-bad, spelt_least}
use Rattle.text_numbers.proofs.decimals.value.Goals as goal

pub returns-then-n-most : goal.returns-then-n-most
returns-then-n-most c =
    let a = c.args in
    let s = a.s.now in
    let i = c.loop-x.x-index in
    let e = c.loop-x.invariant.1 ∙ spelt_here 10 s i c.loop-x.n (omega arith) in
    let g = spelt_least (drop (i + 1) s) (c.loop-x.n * 10 + digit_of (get_or s i 0)) in
    let h : a.most < spelt 10 0 s = omega (arith, c.digit.ensures) in
    sym (up_to-bad a.most (spelt 10 0 s) h)

pub loop-x-preserved : goal.loop-x-preserved
loop-x-preserved c =
    let s = c.args.s.now in
    (omega arith, rw c.digit.ensures (c.loop-x.invariant.1 ∙ spelt_here 10 s c.loop-x.x-index c.loop-x.n (omega arith)))

pub returns : goal.returns
returns c =
    let a = c.args in
    let e = c.loop-x.invariant.1 ∙ spelt-end 10 a.s.now c.loop-x.x-index c.loop-x.n (omega arith) in
    rw e (sym (up_to_is_lem a.most c.loop-x.n c.loop-x.invariant.0))

pub loop-x-init : goal.loop-x-init
loop-x-init c = (omega arith, refl)
