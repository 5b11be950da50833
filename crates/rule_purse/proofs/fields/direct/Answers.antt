-- `fields::direct` meets its contract: a purse that rises fails, any other is tested on. Assumes nothing.
use mathlib.Core.Path.{sym, ◌∙◌}
use Rattle.rule_purse.proofs.Rule.{purse_raised}
use Rattle.rule_purse.proofs.fields.direct.Goals as goal

pub returns-then-below : goal.returns-then-below
returns-then-below c = search purse_raised

pub not_raised-requires : goal.not_raised-requires
not_raised-requires c = sym c.below.ensures ∙ c.if-below.false

pub returns : goal.returns
returns c = c.not_raised.ensures
