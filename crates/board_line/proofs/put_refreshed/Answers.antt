-- `board_line::put_refreshed` meets its contract, by what the refresh came to. Assumes nothing.
use Rattle.board_line.proofs.put_refreshed.Goals as goal

pub returns-in-Board-clause-written : goal.returns-in-Board-clause-written
returns-in-Board-clause-written c = rw c.in-Board.is c.put_board.ensures.written

pub returns-in-NoBoard-clause-written : goal.returns-in-NoBoard-clause-written
returns-in-NoBoard-clause-written c = rw c.in-NoBoard.is (rw c.number.ensures at c.put_refused.ensures.written)

pub returns-in-Card-clause-written : goal.returns-in-Card-clause-written
returns-in-Card-clause-written c = rw c.in-Card.is c.put_reply.ensures.written
