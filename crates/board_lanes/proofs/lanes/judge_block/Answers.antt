-- `lanes::judge_block` meets its contract, by the first test that fails. Assumes nothing.
use Prim.Native.Nat.{ℕ, ◌+◌}
use mathlib.Core.Path.{◌≡◌, sym, ap, ◌∙◌}
use mathlib.Core.Bool.{true, false}
use lib.Dec.{eqb}
use borrow.Author.Tests.{eq-eqb, ne_eqb}
use Rattle.board_lanes.specs.Board.{are_crew}
use Rattle.board_lanes.proofs.LaneLaws.{block-lane, block_crew, block_tail, block_sound}
use Rattle.board_lanes.proofs.lanes.judge_block.Goals as goal

-- a test of a byte, as it was found
is : {x y : ℕ} (n : ℕ) → x ≡ y → x ≡ n → eqb y n ≡ true
is {x} {y} n p e = eq-eqb y n (sym p ∙ e)

is_not : {x y : ℕ} (n : ℕ) → x ≡ y → (x ≡ n → ⊥) → eqb y n ≡ false
is_not {x} {y} n p e = ne_eqb y n (λ q. e (p ∙ q))

pub returns-then-not-lane : goal.returns-then-not-lane
returns-then-not-lane c =
    let a = c.args in
    sym (block-lane a.k a.b.now (is_not (a.k + 1) c.byte.ensures.0 c.if-not-lane.true))

pub returns-then-not-printed : goal.returns-then-not-printed
returns-then-not-printed c =
    let a = c.args in
    sym
    (block_crew a.k a.b.now (is (a.k + 1) c.byte.ensures.0 c.if-not-lane.false)
    (sym (c.are_crew-printed.ensures ∙ ap are_crew c.crew.ensures) ∙ c.if-not-printed.true))

pub returns-then-not-ended : goal.returns-then-not-ended
returns-then-not-ended c =
    let a = c.args in
    sym
    (block_tail a.k a.b.now (is (a.k + 1) c.byte.ensures.0 c.if-not-lane.false)
    (sym (c.are_crew-printed.ensures ∙ ap are_crew c.crew.ensures) ∙ c.if-not-printed.false)
    (is_not 0 c.byte-ended.ensures.0 c.if-not-ended.true))

pub returns : goal.returns
returns c =
    let a = c.args in
    sym
    (block_sound a.k a.b.now (is (a.k + 1) c.byte.ensures.0 c.if-not-lane.false)
    (sym (c.are_crew-printed.ensures ∙ ap are_crew c.crew.ensures) ∙ c.if-not-printed.false)
    (is 0 c.byte-ended.ensures.0 c.if-not-ended.false))
