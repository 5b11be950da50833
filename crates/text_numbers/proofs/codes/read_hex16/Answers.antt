-- `codes::read_hex16` meets its contract: the tests are those of `hex16`. Assumes nothing.
use Rattle.std.proofs.Common.{Some}
use native.Mathlib.Omega.{arith}
use mathlib.Core.Path.{sym, ap, ◌∙◌}
use Rattle.byte_parts.proofs.Tests.{tests}
use Rattle.text_numbers.specs.Codes.{hex16}
use Rattle.text_numbers.proofs.CodeLaws.{hex16_four, codes_one}
use Rattle.text_numbers.proofs.codes.read_hex16.Goals as goal

pub returns-then-s-ne4 : goal.returns-then-s-ne4
unfolding hex16
returns-then-s-ne4 c = search tests

pub returns-then-not-are_digits : goal.returns-then-not-are_digits
unfolding hex16
returns-then-not-are_digits c = search (tests, sym c.if-not-are_digits.ensures)

pub returns : goal.returns
returns c =
    let s = c.args.s.now in
    ap Some (c.code_at.ensures ∙ codes_one s (omega arith)) ∙ sym (hex16_four s (omega arith) (sym c.if-not-are_digits.ensures))
