use mathlib.Core.Path.{◌≡◌}
use lib.ListN.{length}
use Rattle.text_pull.proofs.Slurps.{Slurping}
use Rattle.text_pull.proofs.whole.slurp.Given as goal

abbrev pub invariant-loop-from : goal.invariant-loop-from
invariant-loop-from g l = Slurping (length l.buffer) l.flow × (length l.buffer ≡ length l.initial.buffer)

abbrev pub decreases-loop-from : goal.decreases-loop-from
decreases-loop-from g l = l.flow.turns
