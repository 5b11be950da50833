-- `bytes::take_over` meets its contract. Assumes nothing.
use Rattle.rule_purse.proofs.bytes.take_over.Goals as goal

pub returns : goal.returns
returns c = c.copy.ensures
