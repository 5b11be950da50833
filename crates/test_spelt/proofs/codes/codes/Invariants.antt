use mathlib.Core.Path.{◌≡◌}
use lib.ListN.{length}
use Rattle.test_spelt.proofs.codes.codes.Given as goal

abbrev pub invariant-loop-i : goal.invariant-loop-i
invariant-loop-i l = length l.list ≡ length l.initial.list
