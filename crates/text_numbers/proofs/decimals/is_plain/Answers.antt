-- `decimals::is_plain` meets its contract: the tests are those of `plain`. Assumes nothing.
use mathlib.Core.Path.{◌∙◌}
use Rattle.text_numbers.specs.Decimal.{plain}
use Rattle.byte_parts.proofs.Tests.{tests}
use Rattle.text_numbers.proofs.decimals.is_plain.Goals as goal

pub returns-then-s-eq0 : goal.returns-then-s-eq0
unfolding plain
returns-then-s-eq0 c = search tests

pub returns-then-s-eq48 : goal.returns-then-s-eq48
unfolding plain
returns-then-s-eq48 c = search tests

pub returns : goal.returns
unfolding plain
returns c = c.are_digits.ensures ∙ search tests
