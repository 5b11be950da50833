-- `card::told_of` meets its contract: the one, or the other. Assumes nothing.
use borrow.Author.Rules.{rules}
use Rattle.inspect_answer.proofs.card.told_of.Goals as goal

pub returns-then-version : goal.returns-then-version
returns-then-version c = rw c.if-version.true c.node_key_version.ensures

pub returns : goal.returns
returns c = rw c.if-version.false c.block_count_for_node.ensures
