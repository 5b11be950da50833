-- `bytes::put_id` meets its contract. Assumes nothing.
use Rattle.rule_purse.proofs.bytes.put_id.Goals as goal

pub returns : goal.returns
returns c = c.take_over.ensures
