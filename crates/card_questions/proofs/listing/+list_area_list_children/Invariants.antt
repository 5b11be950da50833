-- Listing an area lays its pair, then its children; their loop goes on past each child, a child area by the call for areas.
use Rattle.std.proofs.Common.{length, ◌-◌, ◌+◌, ◌*◌}
use Rattle.card_questions.proofs.TableLaws.{Walked, Laid}
use Rattle.card_questions.proofs.listing.+list_area_list_children.Given as goal

abbrev pub decreases-list_area : goal.decreases-list_area
decreases-list_area l = 2 * (length l.depths.now - l.at) + 1

abbrev pub decreases-list_children : goal.decreases-list_children
decreases-list_children l = 2 * (length l.depths.now - l.at)

-- at i the walk has come there, and the pairs of the children before i are laid
abbrev pub invariant-list_children-loop-i : goal.invariant-list_children-loop-i
invariant-list_children-loop-i l = Walked l.depths l.at l.i × Laid l.codes l.seconds l.initial.out (l.at + 1) l.i l.out

abbrev pub decreases-list_children-loop-i : goal.decreases-list_children-loop-i
decreases-list_children-loop-i l = length l.depths - l.i
