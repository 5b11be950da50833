-- The walk goes past each child, a child area by the same call; the sum so far is that of the nodes behind it.
use Rattle.std.proofs.Common.{length, ◌-◌, ◌+◌}
use Rattle.card_questions.proofs.TableLaws.{Walked, Summed}
use Rattle.card_questions.proofs.totals.+total_at.Given as goal

abbrev pub decreases-total_at : goal.decreases-total_at
decreases-total_at l = length l.depths.now - l.at

-- at i the walk has come there, and the sum is that of the nodes before i
abbrev pub invariant-loop-i : goal.invariant-loop-i
invariant-loop-i l = Walked l.depths l.at l.i × Summed l.seconds l.blocks (l.at + 1) l.i l.sum

abbrev pub decreases-loop-i : goal.decreases-loop-i
decreases-loop-i l = length l.depths - l.i
