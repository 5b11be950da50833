-- Listing an area lays its pair, then its children; their loop goes on past each child, a child area by the call for areas.
use Rattle.std.proofs.Common.{arith}
use Rattle.card_questions.proofs.TableLaws.{begins, at-end, at_other, over-service, over-area, none_laid, one_laid, then_laid}
use Rattle.card_questions.proofs.listing.+list_area_list_children.Goals as goal

pub list_area-returns-clause-out_after : goal.list_area-returns-clause-out_after
list_area-returns-clause-out_after t c =
    let l = c.list_children.ensures in
    let first = one_laid c.args.at c.put_pair.ensures in
    (then_laid first (record { ordered = omega (arith, l.value); all = l.out_after })).all

pub list_children-loop-i-init : goal.list_children-loop-i-init
list_children-loop-i-init t c = (begins _ _ (omega arith), none_laid _)

pub list_children-loop-i-preserved-then-seconds-i : goal.list_children-loop-i-preserved-then-seconds-i
list_children-loop-i-preserved-then-seconds-i t c =
    (over-service c.loop-i.invariant.0 (omega arith) (omega arith), then_laid c.loop-i.invariant.1 (one_laid c.loop-i.i c.put_pair.ensures))

pub list_children-loop-i-preserved : goal.list_children-loop-i-preserved
list_children-loop-i-preserved t c =
    let r = c.list_area-i.ensures in (
      over-area c.loop-i.invariant.0 (omega arith) (omega arith) r.value,
      then_laid c.loop-i.invariant.1 (record { ordered = omega (arith, r.value); all = r.out_after }),
    )

pub list_children-returns-after-loop-i-clause-value : goal.list_children-returns-after-loop-i-clause-value
list_children-returns-after-loop-i-clause-value t c = at-end c.loop-i.invariant.0 (omega arith)

pub list_children-returns-then-depths-i-clause-value : goal.list_children-returns-then-depths-i-clause-value
list_children-returns-then-depths-i-clause-value t c = at_other c.loop-i.invariant.0 (omega arith) c.if-depths-i.true
