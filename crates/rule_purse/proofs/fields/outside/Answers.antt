-- `fields::outside` meets its contract. Assumes nothing.
use mathlib.Core.Path.{refl}
use Rattle.rule_purse.specs.Purse.{outside_of}
use Rattle.rule_purse.proofs.fields.outside.Goals as goal

pub returns-in-None : goal.returns-in-None
unfolding outside_of
returns-in-None c = rw c.in-None.is refl

pub returns-in-Some : goal.returns-in-Some
unfolding outside_of
returns-in-Some c = rw c.in-Some.is refl
