-- `card::put_told` meets its contract: the number, or the refusal. Assumes nothing.
use borrow.Author.Rules.{rules}
use native.Mathlib.Omega.{arith}
use mathlib.Core.Path.{◌≡◌, sym, ◌∙◌}
use Rattle.inspect_answer.specs.Fields.{told_answer}
use Rattle.inspect_answer.proofs.card.put_told.Goals as goal

pub returns-in-Ok-clause-written : goal.returns-in-Ok-clause-written
returns-in-Ok-clause-written c =
    rw (sym c.told_of.ensures ∙ c.in-Ok.is) (c.put_counted.ensures.written)

pub returns-in-Err-clause-written : goal.returns-in-Err-clause-written
returns-in-Err-clause-written c =
    rw (sym c.told_of.ensures ∙ c.in-Err.is) (c.put_refusal.ensures.written)
