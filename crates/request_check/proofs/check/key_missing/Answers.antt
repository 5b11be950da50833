-- Only a request without a key asks.
use borrow.Author.Rules.{rules}
use Rattle.request_check.proofs.check.key_missing.Goals as goal

pub returns-then-open : goal.returns-then-open
returns-then-open c = search (c.if-open.true, c.requires_key.ensures)
