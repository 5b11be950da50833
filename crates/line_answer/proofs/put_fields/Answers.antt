-- `line_answer::put_fields` meets its contract: a refusal, or a status pair. Assumes nothing.
use borrow.Author.Rules.{rules}
use native.Mathlib.Omega.{arith}
use mathlib.Core.Path.{◌≡◌, sym, ◌∙◌}
use Rattle.request_plan.specs.declared.Response.{Response}
use Rattle.request_plan.specs.Request.{response_of}
use Rattle.line_answer.proofs.put_fields.Goals as goal

pub returns-in-Refusal : goal.returns-in-Refusal
returns-in-Refusal c =
    rw (sym c.response.ensures ∙ c.in-Refusal.is) (record { written = c.put_refusal.ensures.written; upper_bound = omega (arith, c.put_refusal.ensures.upper_bound) })

pub returns-in-Pair : goal.returns-in-Pair
returns-in-Pair c =
    rw (sym c.response.ensures ∙ c.in-Pair.is) (record { written = c.put_status.ensures.written; upper_bound = omega (arith, c.put_status.ensures.upper_bound) })
