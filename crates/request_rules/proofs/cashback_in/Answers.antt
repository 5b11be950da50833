-- `rules::cashback_in` meets its contract: each way out is a case of the definition. Assumes nothing.
use borrow.Author.Tests.{eq-eqb, ne_eqb}
use Rattle.request_rules.specs.Rules.{cashback_in}
use Rattle.request_rules.proofs.cashback_in.Goals as goal

pub returns-then-mode-eq1 : goal.returns-then-mode-eq1
unfolding cashback_in
returns-then-mode-eq1 c = rw (eq-eqb _ 1 c.if-mode-eq1.true)

pub returns-else-mode-eq1 : goal.returns-else-mode-eq1
unfolding cashback_in
returns-else-mode-eq1 c = rw (ne_eqb _ 1 c.if-mode-eq1.false)
