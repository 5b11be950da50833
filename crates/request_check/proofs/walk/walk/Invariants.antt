-- The invariant: what the walk says of all elements is what it says of those that are left from `at`, the first of them number i.
use mathlib.Core.Path.{◌≡◌}
use Prim.Native.Nat.{◌-◌}
use Rattle.request_check.specs.Walk.{walked_from}
use Rattle.request_check.proofs.walk.walk.Given as goal

abbrev pub invariant-loop-i : goal.invariant-loop-i
invariant-loop-i l = walked_from l.bounds l.list l.count 0 0 ≡ walked_from l.bounds l.list (l.count - l.i) l.i l.at
