-- `fields::not_raised` meets its contract: each way out is a case of the rule. Assumes nothing.
use Rattle.rule_purse.proofs.Rule.{cashback_raised, sum_large, direct_whole, direct_outside}
use Rattle.rule_purse.proofs.fields.not_raised.Goals as goal

pub returns-then-below : goal.returns-then-below
returns-then-below c = search cashback_raised

pub returns-then-over : goal.returns-then-over
returns-then-over c = search sum_large

pub returns-then-fits : goal.returns-then-fits
returns-then-fits c = search direct_whole

pub returns-else-fits : goal.returns-else-fits
returns-else-fits c = search direct_outside
