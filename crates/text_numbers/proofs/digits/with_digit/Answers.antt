-- `digits::with_digit` meets its contract, by whether x is a digit. Assumes nothing.
use borrow.Author.Tests.{le-ltb, lt-ltb}
use Rattle.text_numbers.proofs.digits.with_digit.Goals as goal

pub returns-then-base-digit : goal.returns-then-base-digit
returns-then-base-digit c = rw (le-ltb _ _ (rw c.digit.ensures at c.if-base-digit.true))

pub returns : goal.returns
returns c = rw (lt-ltb _ _ (rw c.digit.ensures at c.if-base-digit.false))
