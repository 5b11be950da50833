-- By the reply's cases.
use borrow.Author.Rules.{rules}
use mathlib.Core.Path.{sym, ◌∙◌, ap}
use Rattle.request_plan.specs.Request.{flag1_in}
use Rattle.request_plan.proofs.Reply.flag1.Goals as goal

pub returns-in-Failed : goal.returns-in-Failed
returns-in-Failed c = c.list_error_index.ensures ∙ ap flag1_in (sym c.in-Failed.is)
