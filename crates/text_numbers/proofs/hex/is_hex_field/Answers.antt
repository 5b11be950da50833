-- `hex::is_hex_field` meets its contract: the tests are those of `grouped 2`. Assumes nothing.
use mathlib.Core.Path.{◌∙◌}
use Rattle.byte_parts.proofs.Tests.{tests}
use Rattle.text_numbers.specs.Hex.{grouped, hex_field}
use Rattle.text_numbers.proofs.hex.is_hex_field.Goals as goal

pub returns-then-s-eq0 : goal.returns-then-s-eq0
unfolding grouped hex_field
returns-then-s-eq0 c = search tests

pub returns-then-s-eq1 : goal.returns-then-s-eq1
unfolding grouped hex_field
returns-then-s-eq1 c = search tests

pub returns-then-s-ne0 : goal.returns-then-s-ne0
unfolding grouped hex_field
returns-then-s-ne0 c = search tests

pub returns : goal.returns
unfolding grouped hex_field
returns c = c.are_digits.ensures ∙ search tests
