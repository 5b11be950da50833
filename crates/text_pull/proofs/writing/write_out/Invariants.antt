use mathlib.Core.Path.{◌≡◌}
use Rattle.text_pull.proofs.Writes.{Writing}
use Rattle.text_pull.proofs.writing.write_out.Given as goal

abbrev pub invariant-loop-from : goal.invariant-loop-from
invariant-loop-from g l = Writing l.initial.after l.after × (l.end ≡ l.initial.after.made)

abbrev pub decreases-loop-from : goal.decreases-loop-from
decreases-loop-from g l = l.after.turns
