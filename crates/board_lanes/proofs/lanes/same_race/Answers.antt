-- `lanes::same_race` meets its contract: the lanes that are left say what all say. Assumes nothing.
use native.Mathlib.Omega.{arith}
use mathlib.Core.Path.{refl, sym, ap, ◌∙◌}
use Rattle.board_lanes.specs.Board.{of_race}
use Rattle.board_lanes.proofs.LaneLaws.{same_here, same_not, same_end}
use Rattle.board_lanes.proofs.lanes.same_race.Goals as goal

pub returns-then-not-is_of : goal.returns-then-not-is_of
returns-then-not-is_of c =
    let a = c.args in
    sym
    (c.loop-i.invariant
    ∙ same_not a.bytes.now c.loop-i.i a.number (omega arith) (sym (c.is_of.ensures ∙ ap (of_race a.number) c.block.ensures) ∙ c.if-not-is_of.true))

pub loop-i-preserved : goal.loop-i-preserved
loop-i-preserved c =
    let a = c.args in
    c.loop-i.invariant
    ∙ same_here a.bytes.now c.loop-i.i a.number (omega arith) (sym (c.is_of.ensures ∙ ap (of_race a.number) c.block.ensures) ∙ c.if-not-is_of.false)

pub returns : goal.returns
returns c =
    let a = c.args in
    sym (c.loop-i.invariant ∙ same_end a.bytes.now c.loop-i.i a.number (omega arith))

pub loop-i-init : goal.loop-i-init
loop-i-init c = refl
