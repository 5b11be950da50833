-- `board_line::is_refresh` meets its contract, by the first field. Assumes nothing.
use mathlib.Core.Path.{sym, ◌∙◌}
use Rattle.board_line.proofs.is_refresh.Goals as goal

pub returns-then-not-is_board : goal.returns-then-not-is_board
returns-then-not-is_board c = rw (sym c.is_board.ensures ∙ c.if-not-is_board.true)

pub returns : goal.returns
returns c = rw (sym c.is_board.ensures ∙ c.if-not-is_board.false, c.field_count.ensures)
