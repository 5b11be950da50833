-- `fields::decrement` meets its contract: each way out is a case of the rule. Assumes nothing.
use Rattle.rule_purse.proofs.Rule.{decrement_same, decrement_other}
use Rattle.rule_purse.proofs.fields.decrement.Goals as goal

pub returns-then-command-stored : goal.returns-then-command-stored
returns-then-command-stored c = search decrement_same

pub returns : goal.returns
returns c = search decrement_other
