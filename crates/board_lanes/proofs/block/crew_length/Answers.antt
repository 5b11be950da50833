-- `block::crew_length` meets its contract: what the first i bytes say, the whole says. Assumes nothing.
use Prim.Native.Nat.{◌+◌, ◌-◌}
use mathlib.Core.Path.{◌≡◌, sym, ap, ◌∙◌}
use lib.ListN.{take}
use lib.Seq.{take-length}
use native.Mathlib.Omega.{arith}
use Rattle.board_lanes.specs.Board.{crew_length}
use Rattle.board_lanes.proofs.BlockLaws.{length_space, length_byte}
use Rattle.board_lanes.proofs.block.crew_length.Goals as goal

pub loop-i-init : goal.loop-i-init
loop-i-init c = (omega arith, ap crew_length (sym (take-length c.args.s.now)))

pub returns-then-s-i-ne32 : goal.returns-then-s-i-ne32
returns-then-s-i-ne32 c =
    let a = c.args in
    let i = c.loop-i.i in
    let e : i ≡ i - 1 + 1 = omega arith in
    (sym (c.loop-i.invariant.1 ∙ ap (λ m. crew_length (take m a.s.now)) e ∙ length_byte a.s.now (i - 1) (omega arith) c.if-s-i-ne32.true), omega arith)

pub loop-i-preserved : goal.loop-i-preserved
loop-i-preserved c =
    let a = c.args in
    let i = c.loop-i.i in
    let e : i ≡ i - 1 + 1 = omega arith in
    (omega arith, c.loop-i.invariant.1 ∙ ap (λ m. crew_length (take m a.s.now)) e ∙ length_space a.s.now (i - 1) (omega arith) c.if-s-i-ne32.false)

pub returns : goal.returns
unfolding crew_length
returns c =
    let a = c.args in
    let e : c.loop-i.i ≡ 0 = omega arith in
    (sym (c.loop-i.invariant.1 ∙ ap (λ m. crew_length (take m a.s.now)) e), omega arith)
