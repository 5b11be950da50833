-- `line_answer::put_caused` meets its contract: a cause is one digit. Assumes nothing.
use borrow.Author.Rules.{rules}
use native.Mathlib.Omega.{arith}
use mathlib.Core.Path.{◌≡◌}
use Rattle.request_plan.specs.Request.{cause_in}
use Rattle.request_plan.proofs.Causes.{most_cause}
use Rattle.line_answer.proofs.put_caused.Goals as goal

pub put_cause-requires : goal.put_cause-requires
put_cause-requires c = (rw c.cause.ensures (omega (arith, most_cause c.args.reply)), omega arith)

pub returns : goal.returns
returns c =
    let e : c.cause.result ≡ cause_in c.args.reply = c.cause.ensures in
    rw (← e)
    (record { written = c.put_cause.ensures.written; upper_bound = c.put_cause.ensures.upper_bound })
