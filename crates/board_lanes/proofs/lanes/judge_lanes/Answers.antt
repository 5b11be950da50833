-- `lanes::judge_lanes` meets its contract: what was judged so far, then the lanes that are left. Assumes nothing.
use Rattle.std.proofs.Common.{Result}
use Prim.Native.Nat.{◌+◌, ◌-◌}
use native.Mathlib.Omega.{arith}
use mathlib.Core.Path.{refl, sym, ap, ◌∙◌}
use Rattle.board_lanes.specs.Board.{block_at, lane_judged, and_then, lanes_judged}
use Rattle.board_lanes.proofs.LaneLaws.{then-then, then_sound, lanes_here, lanes_end}
use Rattle.board_lanes.proofs.lanes.judge_lanes.Goals as goal
use Rattle.board_lanes.specs.declared.refusal.BoardRefusal.{BoardRefusal}

pub loop-k-preserved : goal.loop-k-preserved
loop-k-preserved c =
    let a = c.args in
    let j = c.judge_lane.ensures ∙ ap (lane_judged c.loop-k.k) c.block.ensures in
    let rest = lanes_judged a.bytes.now (8 - (c.loop-k.k + 1)) (c.loop-k.k + 1) in
    c.loop-k.invariant
    ∙ ap (and_then c.loop-k.judged) (lanes_here a.bytes.now c.loop-k.k (omega arith))
    ∙ sym (then-then c.loop-k.judged (lane_judged c.loop-k.k (block_at a.bytes.now c.loop-k.k)) rest)
    ∙ ap (λ (x : Result Unit BoardRefusal). and_then (and_then c.loop-k.judged x) rest) (sym j)
    ∙ ap (λ (x : Result Unit BoardRefusal). and_then x rest) (sym c.and_then-judged.ensures)

pub returns : goal.returns
returns c =
    let a = c.args in
    sym (c.loop-k.invariant ∙ ap (and_then c.loop-k.judged) (lanes_end a.bytes.now c.loop-k.k (omega arith)) ∙ then_sound c.loop-k.judged)

pub loop-k-init : goal.loop-k-init
loop-k-init c = refl
