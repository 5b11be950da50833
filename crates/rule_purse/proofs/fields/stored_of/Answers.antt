-- `fields::stored_of` meets its contract: each arm is a case of the definition. Assumes nothing.
use mathlib.Core.Path.{refl}
use Rattle.rule_purse.specs.Purse.{stored_of}
use Rattle.rule_purse.proofs.fields.stored_of.Goals as goal

pub returns-in-Some : goal.returns-in-Some
unfolding stored_of
returns-in-Some c = rw c.in-Some.is refl

pub returns-in-None : goal.returns-in-None
unfolding stored_of
returns-in-None c = rw (c.in-None.is, c.outside.ensures) refl
