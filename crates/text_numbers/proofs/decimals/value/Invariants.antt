use Prim.Native.Nat.{◌-◌, ◌≤◌}
use mathlib.Core.Path.{◌≡◌}
use lib.ListN.{length, drop}
use Rattle.text_numbers.specs.Digit.{spelt}
use Rattle.text_numbers.proofs.decimals.value.Given as goal

abbrev pub invariant-loop-x : goal.invariant-loop-x
invariant-loop-x l = (l.n ≤ l.most) × (spelt 10 0 l.s ≡ spelt 10 l.n (drop l.x-index l.s))
