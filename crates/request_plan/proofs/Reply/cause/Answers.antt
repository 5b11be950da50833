-- By the reply's cases: a failed element has its fault's cause.
use borrow.Author.Rules.{rules}
use mathlib.Core.Path.{sym, ◌∙◌, ap}
use Rattle.request_plan.specs.Request.{cause_in}
use Rattle.request_plan.proofs.Reply.cause.Goals as goal

pub returns-in-Failed : goal.returns-in-Failed
returns-in-Failed c = c.cause.ensures ∙ ap cause_in (sym c.in-Failed.is)
