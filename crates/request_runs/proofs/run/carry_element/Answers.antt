-- The element, with its own bytes, goes to the rule.
use borrow.Author.Rules.{rules}
use Rattle.request_runs.proofs.Carried.{element_passes, element_fails}
use Rattle.request_runs.proofs.run.carry_element.Goals as goal

pub returns-in-Err : goal.returns-in-Err
returns-in-Err c = element_fails _ _ _ _ _ (c.element_on.ensures.value, c.element_on.ensures.stage_after) c.in-Err.is

pub returns : goal.returns
returns c = element_passes _ _ _ _ _ (c.element_on.ensures.value, c.element_on.ensures.stage_after) c.in_default.is
