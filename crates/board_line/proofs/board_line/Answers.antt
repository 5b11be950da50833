-- `board_line::board_line` meets its contract, by the code that the line asks. Assumes nothing.
use mathlib.Core.Path.{sym, ◌∙◌}
use Rattle.board_line.specs.Line.{board_line_text}
use Rattle.board_line.proofs.board_line.Goals as goal

pub returns-in-Some-clause-written : goal.returns-in-Some-clause-written
unfolding board_line_text
returns-in-Some-clause-written c = rw (sym c.code_of.ensures ∙ c.in-Some.is) c.put_refresh.ensures.written

pub returns-in-None-clause-written : goal.returns-in-None-clause-written
unfolding board_line_text
returns-in-None-clause-written c = rw (sym c.code_of.ensures ∙ c.in-None.is) c.put_reply.ensures.written
