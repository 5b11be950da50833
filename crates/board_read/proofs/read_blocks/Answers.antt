-- `board_read::read_blocks` meets its contract: one read. Assumes nothing.
use borrow.Author.Rules.{rules}
use Rattle.board_read.proofs.read_blocks.Goals as goal

pub returns : goal.returns
returns c = c.read.ensures
