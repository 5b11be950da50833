-- `block::part_of` meets its contract: past the end, near it, or well before it. Assumes nothing.
use native.Mathlib.Omega.{arith}
use mathlib.Core.Path.{◌≡◌, sym}
use Prim.Native.Nat.{◌+◌, ◌-◌}
use Rattle.byte_parts.specs.Part.{part}
use Rattle.board_lanes.proofs.BlockLaws.{part-past, part-rest}
use Rattle.board_lanes.proofs.block.part_of.Goals as goal

pub returns-then-s-at : goal.returns-then-s-at
returns-then-s-at c =
    let a = c.args in
    sym (part-past a.s.now a.at a.n (omega arith))

pub returns-then-s-at-2 : goal.returns-then-s-at-2
returns-then-s-at-2 c =
    let a = c.args in
    sym (part-rest a.s.now a.at a.n (omega arith))

pub returns : goal.returns
unfolding part
returns c =
    let a = c.args in
    let e : a.at + a.n - a.at ≡ a.n = omega arith in
    rw e
