-- `decimals::negative_of` meets its contract: each arm says which variant it is in. Assumes nothing.
use Rattle.std.proofs.Common.{Some}
use mathlib.Core.Path.{sym, ap, ◌∙◌}
use mir.Syntax.{w32}
use mir.Facts.{to_z-of_z}
use Rattle.text_numbers.specs.Decimal.{negative}
use Rattle.text_numbers.proofs.DecimalLaws.{negative_is, negative_zero, negative-bad}
use Rattle.text_numbers.proofs.decimals.negative_of.Goals as goal

pub returns-in_err-k : goal.returns-in_err-k
unfolding negative
returns-in_err-k c = c.from_residual.ensures ∙ sym (ap negative c.in_err-k.was)

pub returns-then-k-lt1 : goal.returns-then-k-lt1
returns-then-k-lt1 c = sym (ap negative c.in_ok-k.was ∙ negative_zero c.in_ok-k.k c.if-k-lt1.true)

pub returns-then-k-gt2147483648 : goal.returns-then-k-gt2147483648
returns-then-k-gt2147483648 c = sym (ap negative c.in_ok-k.was ∙ negative-bad c.in_ok-k.k c.if-k-gt2147483648.true)

pub returns : goal.returns
returns c =
    ap Some (to_z-of_z {w = w32} record { sfits = c.minus.type_inv } ∙ c.minus.ensures)
    ∙ sym (ap negative c.in_ok-k.was ∙ negative_is c.in_ok-k.k c.if-k-lt1.false c.if-k-gt2147483648.false)
