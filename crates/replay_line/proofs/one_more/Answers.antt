-- `replay_line::one_more` meets its contract, below the greatest number and at it. Assumes nothing.
use borrow.Author.Rules.{rules}
use borrow.Author.Tests.{lt-ltb, le-ltb}
use Rattle.replay_state.specs.Phases.{one_more}
use Rattle.replay_line.proofs.one_more.Goals as goal

pub returns-then-n-lt18446744073709551615 : goal.returns-then-n-lt18446744073709551615
unfolding one_more
returns-then-n-lt18446744073709551615 c = search (lt-ltb, le-ltb)

pub returns-else-n-lt18446744073709551615 : goal.returns-else-n-lt18446744073709551615
unfolding one_more
returns-else-n-lt18446744073709551615 c = search (lt-ltb, le-ltb)
