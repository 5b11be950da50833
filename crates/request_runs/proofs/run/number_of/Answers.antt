-- The number of the row's code.
use borrow.Author.Rules.{rules}
use Rattle.request_runs.proofs.run.number_of.Goals as goal

pub returns : goal.returns
returns c = c.number.ensures
