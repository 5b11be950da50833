-- `lanes::one_race` meets its contract: the lanes that are left say what all say. Assumes nothing.
use native.Mathlib.Omega.{arith}
use Prim.Native.Nat.{◌+◌, ◌-◌}
use mathlib.Core.Path.{refl, sym, ap, ◌∙◌}
use Rattle.board_lanes.specs.Board.{is_empty, race_of, same_race}
use Rattle.board_lanes.proofs.LaneLaws.{one_empty_lem, one_filled, one_end}
use Rattle.board_lanes.proofs.lanes.one_race.Goals as goal

pub returns-then-not-is_empty : goal.returns-then-not-is_empty
returns-then-not-is_empty c =
    let a = c.args in
    let k = c.loop-first.first in
    let race = c.race.ensures.0 ∙ ap race_of c.block-then-not-is_empty.ensures in
    sym
    (c.loop-first.invariant
    ∙ one_filled a.bytes.now k (omega arith) (sym (c.is_empty.ensures ∙ ap is_empty c.block.ensures) ∙ c.if-not-is_empty.true)
    ∙ ap (λ x. same_race a.bytes.now x (8 - (k + 1)) (k + 1)) (sym race)
    ∙ sym c.same_race.ensures)

pub loop-first-preserved : goal.loop-first-preserved
loop-first-preserved c =
    let a = c.args in
    c.loop-first.invariant
    ∙ one_empty_lem a.bytes.now c.loop-first.first (omega arith) (sym (c.is_empty.ensures ∙ ap is_empty c.block.ensures) ∙ c.if-not-is_empty.false)

pub returns : goal.returns
returns c =
    let a = c.args in
    sym (c.loop-first.invariant ∙ one_end a.bytes.now c.loop-first.first (omega arith))

pub loop-first-init : goal.loop-first-init
loop-first-init c = refl
