-- `shell::inspect` meets its contract: where questions are asked it is inspection. Assumes nothing.
use borrow.Author.Rules.{rules}
use Rattle.shell.proofs.inspect.Goals as goal

pub returns : goal.returns
returns g c = c.whole.ensures
