-- `board_read::refresh` meets its contract, by the card's answer. Assumes nothing.
use borrow.Author.Rules.{rules}
use native.Mathlib.Omega.{arith}
use mathlib.Core.Path.{◌≡◌, sym, ap, ◌∙◌}
use mathlib.Core.List.{List}
use Prim.Native.Nat.{ℕ}
use lib.ListN.{length, take}
use Rattle.board_lanes.specs.Board.{board_judged}
use Rattle.board_read.specs.Refresh.{board_served, refreshed_by, blocks_after}
use Rattle.board_read.proofs.Refreshing.{by_refusal, by_short, by_fault, by_blocks, read-room, blocks_front}
use Rattle.board_read.proofs.refresh.Goals as goal

pub returns-in-Refused : goal.returns-in-Refused
unfolding blocks_after
returns-in-Refused c =
    let a = c.args in
    record {
      value = by_refusal a.card a.arena.now a.code (length a.bytes.now) c.read_blocks-reply.ensures.0 c.in-Refused.is;
      bytes_after = c.read_blocks-reply.ensures.1;
    }

pub slice_bounds-made-end : goal.slice_bounds-made-end
slice_bounds-made-end c =
    let a = c.args in
    let h : length a.card.nodes ≡ 64 = search rules in
    omega (arith, read-room a.card a.arena.now a.code (length a.bytes.now) h (sym c.read_blocks-reply.ensures.0 ∙ c.in-Done.is), c.read_blocks-reply.auto)

pub returns-in-Done : goal.returns-in-Done
unfolding blocks_after
returns-in-Done c =
    let a = c.args in
    let h : length a.card.nodes ≡ 64 = search rules in
    let done = sym c.read_blocks-reply.ensures.0 ∙ c.in-Done.is in
    let front = ap (take 128) c.read_blocks-reply.ensures.1 ∙ blocks_front a.card a.arena.now a.code a.bytes.now h done in
    record {
      value = c.made.ensures ∙ ap (λ (x : List ℕ). refreshed_by (board_judged x)) front ∙ sym (by_blocks a.card a.arena.now a.code (length a.bytes.now) done);
      bytes_after = c.read_blocks-reply.ensures.1;
    }

pub returns-in-ShortData : goal.returns-in-ShortData
unfolding blocks_after
returns-in-ShortData c =
    let a = c.args in
    record {
      value = by_short a.card a.arena.now a.code (length a.bytes.now) c.read_blocks-reply.ensures.0 c.in-ShortData.is;
      bytes_after = c.read_blocks-reply.ensures.1;
    }

pub returns-in-Failed : goal.returns-in-Failed
unfolding blocks_after
returns-in-Failed c =
    let a = c.args in
    record {
      value = by_fault a.card a.arena.now a.code (length a.bytes.now) c.read_blocks-reply.ensures.0 c.in-Failed.is;
      bytes_after = c.read_blocks-reply.ensures.1;
    }
