-- `rules::cyclic_element` meets its contract: each way out is a case of the definition. Assumes nothing.
use borrow.Author.Tests.{eq-eqb, ne_eqb}
use Rattle.request_rules.specs.Rules.{cyclic_element}
use Rattle.request_rules.proofs.cyclic_element.Goals as goal

pub returns-then-number-eq0 : goal.returns-then-number-eq0
unfolding cyclic_element
returns-then-number-eq0 c = rw (eq-eqb _ 0 c.if-number-eq0.true)

pub returns-else-number-eq0 : goal.returns-else-number-eq0
unfolding cyclic_element
returns-else-number-eq0 c = rw (ne_eqb _ 0 c.if-number-eq0.false)
