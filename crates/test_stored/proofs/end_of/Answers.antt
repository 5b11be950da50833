-- A line ends no earlier than it begins, and no later than the text.
use Rattle.std.proofs.Common.{arith}
use Rattle.test_stored.proofs.end_of.Goals as goal

pub returns : goal.returns
returns c = let e = c.find.ensures in omega arith
