-- `salvage_shell::refuse` says what is told of a text that is refused. Assumes nothing.
use borrow.Author.Rules.{rules}
use Rattle.salvage_shell.proofs.Ends.{tells_none}
use Rattle.salvage_shell.proofs.refuse.Goals as goal

pub say-requires : goal.say-requires
say-requires c = tells_none c.args.text.now c.requires
