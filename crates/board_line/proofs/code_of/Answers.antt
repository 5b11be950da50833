-- `board_line::code_of` meets its contract, by the first test that fails. Assumes nothing.
use borrow.Author.Tests.{lt-ltb, le-ltb}
use native.Mathlib.Omega.{arith}
use mathlib.Core.Path.{sym, ap, ◌∙◌}
use lib.ListN.{length}
use Rattle.text_numbers.specs.Codes.{hex16}
use Rattle.board_line.specs.Line.{board_code}
use Rattle.board_line.proofs.code_of.Goals as goal

pub returns-then-line-gt-LONGEST_LINE : goal.returns-then-line-gt-LONGEST_LINE
unfolding board_code
returns-then-line-gt-LONGEST_LINE c = rw (lt-ltb 32768 (length c.args.line.now) (omega arith))

pub returns-then-not-is_refresh : goal.returns-then-not-is_refresh
unfolding board_code
returns-then-not-is_refresh c =
    rw (le-ltb 32768 (length c.args.line.now) (omega arith), sym c.is_refresh.ensures ∙ c.if-not-is_refresh.true)

pub returns : goal.returns
unfolding board_code
returns c =
    rw (le-ltb 32768 (length c.args.line.now) (omega arith), sym c.is_refresh.ensures ∙ c.if-not-is_refresh.false)
    (c.read_hex16.ensures ∙ ap hex16 c.field.ensures)
