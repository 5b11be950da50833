-- By the reply's cases.
use borrow.Author.Rules.{rules}
use mathlib.Core.Path.{sym, ◌∙◌, ap}
use Rattle.request_plan.specs.Request.{flag2_in}
use Rattle.request_plan.proofs.Reply.flag2.Goals as goal

pub returns-in-Failed : goal.returns-in-Failed
returns-in-Failed c = c.status_flag2.ensures ∙ ap flag2_in (sym c.in-Failed.is)
