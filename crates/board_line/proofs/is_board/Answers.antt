-- `board_line::is_board` meets its contract. Assumes nothing.
use Rattle.board_line.specs.Line.{board_line}
use Rattle.board_line.proofs.is_board.Goals as goal

pub returns : goal.returns
unfolding board_line
returns c = c.is_letter.ensures
