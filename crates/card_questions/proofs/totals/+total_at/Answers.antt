-- The walk goes past each child, a child area by the same call; the sum so far is that of the nodes behind it.
use Rattle.std.proofs.Common.{arith}
use Rattle.card_questions.proofs.TableLaws.{begins, at-end, at_other, over-service, over-area, past-most, none_summed, then_summed, of_service, of_area}
use Rattle.card_questions.proofs.totals.+total_at.Goals as goal

pub loop-i-init : goal.loop-i-init
loop-i-init t c = (begins _ _ (omega arith), none_summed _)

-- a service adds its own blocks
pub loop-i-preserved-then-seconds-i : goal.loop-i-preserved-then-seconds-i
loop-i-preserved-then-seconds-i t c = (
  over-service c.loop-i.invariant.0 (omega arith) (omega arith),
  then_summed c.loop-i.invariant.1 (of_service c.loop-i.i (omega arith) (omega (arith, c.type_inv.blocks c.loop-i.i))),
)

pub overflow_add-sum-else-seconds-i : goal.overflow_add-sum-else-seconds-i
overflow_add-sum-else-seconds-i t c =
    let r = c.total_at-child.ensures in
    omega (arith, r.next_value, r.blocks_bound, c.loop-i.invariant.1.small, past-most c.args.depths.now c.loop-i.i (omega arith))

-- a child area adds what the call for it gives
pub loop-i-preserved : goal.loop-i-preserved
loop-i-preserved t c =
    let r = c.total_at-child.ensures in (
      over-area c.loop-i.invariant.0 (omega arith) (omega arith) r.next_value,
      then_summed c.loop-i.invariant.1 (of_area (λ e. omega arith) (omega (arith, r.next_value)) r.blocks_value r.blocks_bound),
    )

pub returns-after-loop-i-clause-next_value : goal.returns-after-loop-i-clause-next_value
returns-after-loop-i-clause-next_value t c = at-end c.loop-i.invariant.0 (omega arith)

pub returns-then-depths-i-clause-next_value : goal.returns-then-depths-i-clause-next_value
returns-then-depths-i-clause-next_value t c = at_other c.loop-i.invariant.0 (omega arith) c.if-depths-i.true
