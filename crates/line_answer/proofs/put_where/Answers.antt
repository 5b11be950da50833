-- `line_answer::put_where` meets its contract: `-` for 00, `*` for FF, else the number. Assumes nothing.
use borrow.Author.Rules.{rules}
use native.Mathlib.Omega.{arith}
use Rattle.line_answer.proofs.Where.{nowhere, no_place, somewhere}
use Rattle.line_answer.proofs.put_where.Goals as goal

pub returns-then-flag-eq0 : goal.returns-then-flag-eq0
returns-then-flag-eq0 c =
    rw (nowhere _ c.if-flag-eq0.true) (record { written = c.put_mark.ensures.written; upper_bound = omega (arith, c.put_mark.ensures.upper_bound) })

pub returns-then-flag-eq255 : goal.returns-then-flag-eq255
returns-then-flag-eq255 c =
    rw (no_place _ c.if-flag-eq255.true) (record { written = c.put_mark-then-flag-eq255.ensures.written; upper_bound = omega (arith, c.put_mark-then-flag-eq255.ensures.upper_bound) })

pub returns : goal.returns
returns c =
    rw (somewhere _ c.if-flag-eq0.false c.if-flag-eq255.false)
    (record { written = c.put_number.ensures.written; upper_bound = omega (arith, c.put_number.ensures.upper_bound) })
