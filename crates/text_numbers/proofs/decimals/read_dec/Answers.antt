use mathlib.Core.Path.{sym, ◌∙◌}
use Rattle.text_numbers.specs.Decimal.{decimal}
use Rattle.text_numbers.proofs.decimals.read_dec.Goals as goal

pub returns-then-not-is_plain : goal.returns-then-not-is_plain
unfolding decimal
returns-then-not-is_plain c = search (sym c.if-not-is_plain.ensures)

pub returns : goal.returns
unfolding decimal
returns c = c.value.ensures ∙ search (sym c.if-not-is_plain.ensures)
