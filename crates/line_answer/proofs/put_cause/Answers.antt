-- `line_answer::put_cause` meets its contract: `-` for 0, else the digit. Assumes nothing.
use borrow.Author.Rules.{rules}
use native.Mathlib.Omega.{arith}
use Rattle.line_answer.proofs.Where.{no_cause, digit}
use Rattle.line_answer.proofs.put_cause.Goals as goal

pub returns-then-cause-eq0 : goal.returns-then-cause-eq0
returns-then-cause-eq0 c =
    rw (no_cause _ c.if-cause-eq0.true)
    (record { written = c.put_mark.ensures.written; upper_bound = c.put_mark.ensures.upper_bound })

pub returns : goal.returns
returns c =
    rw (digit _ c.if-cause-eq0.false c.requires.0)
    (record { written = c.put_mark-2.ensures.written; upper_bound = c.put_mark-2.ensures.upper_bound })
