-- `decimals::read_signed` meets its contract: the tests are those of `signed`. Assumes nothing.
use Prim.Native.Nat.{◌-◌}
use native.Mathlib.Omega.{arith}
use mathlib.Core.Path.{sym, ap, ◌∙◌}
use lib.ListN.{length, drop, length-drop}
use lib.Seq.{take_all}
use Rattle.text_numbers.specs.Decimal.{decimal, negative, positive}
use Rattle.text_numbers.proofs.DecimalLaws.{signed-none, signed_minus, signed_plus}
use Rattle.text_numbers.proofs.decimals.read_signed.Goals as goal

pub returns-then-s-eq0 : goal.returns-then-s-eq0
returns-then-s-eq0 c = sym (signed-none c.args.s.now c.if-s-eq0.true)

pub returns-then-s-eq45 : goal.returns-then-s-eq45
returns-then-s-eq45 c =
    let s = c.args.s.now in
    let e = take_all (length s - 1) (drop 1 s) (omega (arith, length-drop 1 s)) in
    c.negative_of.ensures ∙ ap negative (c.read_dec.ensures ∙ ap (decimal 4294967295) e)
    ∙ sym (signed_minus s c.if-s-eq45.true)

pub returns : goal.returns
returns c =
    let s = c.args.s.now in
    c.positive_of.ensures ∙ ap positive c.read_dec-2.ensures ∙ sym (signed_plus s c.if-s-eq45.false)
