-- `shell::replay` meets its contract: where no questions are asked replay's promise is kept. Assumes nothing.
use borrow.Author.Rules.{rules}
use Rattle.shell.proofs.Both.{ran-replay}
use Rattle.shell.proofs.replay.Goals as goal

pub returns : goal.returns
returns g c = ran-replay c.whole.ensures
