-- The data are long enough, or not.
use mathlib.Core.Path.{sym, ◌∙◌}
use borrow.Author.Rules.{rules}
use Rattle.request_plan.proofs.data_judged.Goals as goal

pub returns-then-too_short : goal.returns-then-too_short
returns-then-too_short c = rw (sym c.too_short.ensures ∙ c.if-too_short.true)

pub returns : goal.returns
returns c = rw (sym c.too_short.ensures ∙ c.if-too_short.false)
