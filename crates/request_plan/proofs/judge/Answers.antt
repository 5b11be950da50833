-- Whether the card is sound, then the bounds, then what is lent.
use borrow.Author.Rules.{rules}
use borrow.Author.Tests.{not-true, not-false}
use Rattle.request_plan.proofs.Plans.{not_built, no_bounds, to_lent}
use Rattle.request_plan.proofs.judge.Goals as goal

pub returns-then-not-sound : goal.returns-then-not-sound
returns-then-not-sound c = not_built _ _ _ _ c.if-not-sound.true

pub returns-in-Err : goal.returns-in-Err
returns-in-Err c =
    no_bounds _ _ _ _ c.if-not-sound.false c.bounds_judged.ensures c.in-Err.is

pub returns : goal.returns
returns c =
    to_lent _ _ _ _ c.if-not-sound.false c.bounds_judged.ensures c.in_default.is c.lent_judged.ensures
