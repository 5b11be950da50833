-- By what the refresh comes to: the records of the blocks that were read, or a number and the lanes as they were.
use Prim.Native.Nat.{ℕ, ◌≤◌}
use native.Mathlib.Omega.{arith}
use mathlib.Core.Path.{◌≡◌, sym, ap, ◌∙◌}
use mathlib.Core.List.{List}
use lib.ListN.{length, take}
use borrow.Author.Rules.{rules}
use Rattle.byte_parts.specs.Part.{put}
use Rattle.board_lanes.specs.Board.{lanes_of}
use Rattle.board_lanes.specs.Records.{lanes_records}
use Rattle.board_read.specs.declared.Refreshed.TheVariants.{Board}
use Rattle.board_read.specs.Refresh.{refreshed}
use Rattle.board_read.proofs.Refreshing.{read-room, blocks_front, board-done}
use Rattle.card_build.specs.declared.card.Card.{Card}
use Rattle.handset.proofs.board.filled.Goals as goal

-- a board comes of 128 bytes
has_room : (card : Card) (arena : List ℕ) (code room : ℕ) → length card.nodes ≡ 64 → refreshed card arena code room ≡ Board → 128 ≤ room
has_room card arena code room h e = read-room card arena code room h (board-done card arena code room e)

pub slice_bounds-put_records-end : goal.slice_bounds-put_records-end
slice_bounds-put_records-end c =
    let a = c.args in
    let h : length a.card.nodes ≡ 64 = search rules in
    omega (arith, has_room a.card a.arena.now a.code (length a.bytes.now) h (sym c.refresh.ensures.value ∙ c.in-Board.is), c.refresh.auto)

pub put_records-requires : goal.put_records-requires
put_records-requires c =
    let a = c.args in
    let h : length a.card.nodes ≡ 64 = search rules in
    omega (arith, has_room a.card a.arena.now a.code (length a.bytes.now) h (sym c.refresh.ensures.value ∙ c.in-Board.is), c.requires)

pub returns-in-Board-clause-lanes_after : goal.returns-in-Board-clause-lanes_after
returns-in-Board-clause-lanes_after c =
    let a = c.args in
    let n = length a.bytes.now in
    let h : length a.card.nodes ≡ 64 = search rules in
    let e : refreshed a.card a.arena.now a.code n ≡ Board = sym c.refresh.ensures.value ∙ c.in-Board.is in
    let read = blocks_front a.card a.arena.now a.code a.bytes.now h (board-done a.card a.arena.now a.code n e) in
    let bytes = ap (take 128) c.refresh.ensures.bytes_after ∙ read in
    rw e (c.put_records.ensures ∙ ap (λ (x : List ℕ). put a.lanes.now 0 128 (lanes_records (lanes_of x))) bytes)
