-- Only a write asks.
use borrow.Author.Rules.{rules}
use borrow.Author.Tests.{not-true, not-false}
use Rattle.request_check.proofs.Cases.{may_read, of_write}
use Rattle.request_check.proofs.check.attribute_check.Goals as goal

pub returns-then-not-write : goal.returns-then-not-write
returns-then-not-write c = may_read _ _ _ c.if-not-write.true

pub returns : goal.returns
returns c = of_write _ _ _ c.if-not-write.false c.write_check.ensures
