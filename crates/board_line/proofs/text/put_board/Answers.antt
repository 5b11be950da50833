-- `text::put_board` meets its contract: the lines of the lanes so far. Assumes nothing.
use Prim.Native.Nat.{◌+◌}
use native.Mathlib.Omega.{arith}
use mathlib.Core.Path.{◌≡◌, refl}
use Rattle.text_stream.proofs.Prints.{written_none, written-more}
use Rattle.board_lanes.specs.Board.{block_at, lane_of, lanes_from}
use Rattle.board_line.specs.Text.{lane_text, lanes_text}
use Rattle.board_line.proofs.TextLaws.{text-more}
use Rattle.board_line.proofs.text.put_board.Goals as goal

pub loop-k-init : goal.loop-k-init
unfolding lanes_from lanes_text
loop-k-init c = (omega arith, refl, written_none c.args.out.now c.args.at)

pub loop-k-preserved : goal.loop-k-preserved
loop-k-preserved c =
    let a = c.args in
    let k = c.loop-k.k in
    let w = rw c.block.ensures at c.put_lane-last.ensures.written in
    let m = written-more (lanes_text 1 (lanes_from a.bytes.now k 0)) (lane_text (k + 1) (lane_of (block_at a.bytes.now k))) c.loop-k.invariant.2 w in
    (omega arith, omega arith, rw (text-more a.bytes.now k) m)

pub returns-clause-written : goal.returns-clause-written
returns-clause-written c =
    let e : c.loop-k.k ≡ 8 = omega arith in
    rw e at c.loop-k.invariant.2
