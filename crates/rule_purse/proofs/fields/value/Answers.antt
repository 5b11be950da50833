-- `fields::value` meets its contract: a field is its bits or what they stand for. Assumes nothing.
use native.Mathlib.Omega.{arith}
use mathlib.Core.Path.{refl}
use mir.Syntax.{w64}
use Rattle.byte_parts.proofs.Laws.{as_pos, signed_mag, clean}
use Rattle.rule_purse.specs.Purse.{value_of}
use Rattle.rule_purse.proofs.fields.value.Goals as goal

pub returns-in-None : goal.returns-in-None
unfolding value_of
returns-in-None c = rw (c.in-None.is, as_pos c.args.raw (omega arith)) (refl, omega arith)

pub returns-in-Some : goal.returns-in-Some
unfolding value_of
returns-in-Some c = rw (c.in-Some.is, clean w64 c.signed.result c.signed.type_inv, c.signed.ensures) (refl, signed_mag _ (omega arith))
