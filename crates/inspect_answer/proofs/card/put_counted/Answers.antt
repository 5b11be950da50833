-- `card::put_counted` meets its contract: four digits, or a decimal. Assumes nothing.
use borrow.Author.Rules.{rules}
use native.Mathlib.Omega.{arith}
use Rattle.inspect_answer.proofs.card.put_counted.Goals as goal

pub returns-then-version-clause-written : goal.returns-then-version-clause-written
returns-then-version-clause-written c =
    rw c.if-version.true (c.put_numbers.ensures.written)

pub returns-clause-written : goal.returns-clause-written
returns-clause-written c =
    rw c.if-version.false (c.put_number.ensures.written)
