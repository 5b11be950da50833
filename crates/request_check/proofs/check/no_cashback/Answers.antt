-- Only mode 1 asks.
use borrow.Author.Rules.{rules}
use borrow.Author.Tests.{eq-eqb, ne_eqb}
use Rattle.request_check.proofs.check.no_cashback.Goals as goal

pub returns-else-mode-eq1 : goal.returns-else-mode-eq1
returns-else-mode-eq1 c = search (ne_eqb c.args.mode 1 c.if-mode-eq1.false)

pub returns-then-mode-eq1 : goal.returns-then-mode-eq1
returns-then-mode-eq1 c = search (eq-eqb c.args.mode 1 c.if-mode-eq1.true, c.allows_cashback.ensures)
