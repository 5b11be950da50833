-- There are as many places as ones.
use native.Mathlib.Omega.{arith}
use mathlib.Core.Path.{sym}
use Rattle.error_places.proofs.Places.{count}
use Rattle.error_places.proofs.count_places.Goals as goal

pub returns : goal.returns
returns c = sym (count c.args.value (omega arith))
