-- `fields::cashback` meets its contract: each way out is a case of the rule. Assumes nothing.
use Rattle.rule_purse.proofs.Rule.{cashback_same, cashback_exceeds, cashback_other}
use Rattle.rule_purse.proofs.fields.cashback.Goals as goal

pub returns-then-command-held : goal.returns-then-command-held
returns-then-command-held c = search cashback_same

pub returns-then-below : goal.returns-then-below
returns-then-below c = search cashback_exceeds

pub returns : goal.returns
returns c = search cashback_other
