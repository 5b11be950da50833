use mathlib.Core.Path.{◌≡◌}
use Prim.Native.Nat.{min}
use lib.ListN.{length}
use Rattle.request_check.proofs.Bounds.{Filled, bound_in}
use Rattle.request_check.proofs.walk.bounds_of.Given as goal

abbrev pub invariant-loop-i : goal.invariant-loop-i
invariant-loop-i l =
    (l.n ≡ min l.table.count 16) × (length l.bounds ≡ 128) × Filled (bound_in l.table.rows l.table.count l.write l.open) l.i l.bounds
