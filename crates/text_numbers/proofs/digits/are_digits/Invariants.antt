use Prim.Native.Nat.{◌-◌}
use mathlib.Core.Path.{◌≡◌}
use mathlib.Core.Bool.{◌&&◌}
use lib.ListN.{length, drop}
use Rattle.text_numbers.specs.Digit.{digits}
use Rattle.text_numbers.proofs.digits.are_digits.Given as goal

abbrev pub invariant-loop-x : goal.invariant-loop-x
invariant-loop-x l = digits l.base l.s ≡ (l.all && digits l.base (drop l.x-index l.s))
