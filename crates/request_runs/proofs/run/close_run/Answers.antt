-- The run's own bytes go to the rule.
use borrow.Author.Rules.{rules}
use Rattle.request_runs.proofs.Carried.{run_passes_lem, run_ends-bad}
use Rattle.request_runs.proofs.run.close_run.Goals as goal

pub returns-in-Err : goal.returns-in-Err
returns-in-Err c = run_ends-bad _ _ _ _ _ (c.end_on.ensures.value, c.end_on.ensures.stage_after) c.in-Err.is

pub returns : goal.returns
returns c = run_passes_lem _ _ _ _ _ (c.end_on.ensures.value, c.end_on.ensures.stage_after) c.in_default.is
