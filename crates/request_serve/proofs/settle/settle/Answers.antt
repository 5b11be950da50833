use borrow.Author.Rules.{rules}
use Rattle.request_serve.proofs.SettleLaws.{settled}
use Rattle.request_serve.proofs.settle.settle.Goals as goal

pub returns : goal.returns
returns c = settled c.args.sound c.args.write c.args.«open» _ _ c.args.list.now c.args.sizes (rw c.records-nodes.ensures at c.table_of-table.ensures) c.check_all-walked.ensures c.judge-judged.ensures
