use mathlib.Core.Path.{◌≡◌}
use lib.ListN.{length}
use Rattle.test_leaves.proofs.lines.Given as goal

abbrev pub invariant-loop-read : goal.invariant-loop-read
invariant-loop-read g l = length l.text ≡ 65536
