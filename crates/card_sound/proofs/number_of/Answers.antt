-- A code has sixteen bits, and its number the upper ten.
use Rattle.std.proofs.Common.{arith}
use Rattle.service_code.specs.Code.{number_of}
use Rattle.card_sound.proofs.number_of.Goals as goal

pub returns : goal.returns
unfolding number_of
returns c = (c.number.ensures, omega (arith, c.number.ensures, c.well_formed.0.1.1.1.0.1))
