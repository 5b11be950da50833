-- A number from the count of blocks on has none.
use borrow.Author.Tests.{le-leb, lt-leb}
use Rattle.request_check.proofs.check.block_check.Goals as goal

pub returns-then-blocks-number : goal.returns-then-blocks-number
returns-then-blocks-number c = search (le-leb, lt-leb)

pub returns : goal.returns
returns c = search (le-leb, lt-leb)
