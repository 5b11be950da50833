-- The code tests in the definition's order.
use mathlib.Core.Path.{sym, ◌∙◌}
use borrow.Author.Rules.{rules}
use Rattle.request_plan.specs.Plan.{read_judged}
use Rattle.request_plan.proofs.read_judged.Goals as goal

pub returns-then-too_short : goal.returns-then-too_short
unfolding read_judged
returns-then-too_short c = rw (sym c.too_short.ensures ∙ c.if-too_short.true)

pub returns : goal.returns
unfolding read_judged
returns c = rw (sym c.too_short.ensures ∙ c.if-too_short.false)
