-- The card that the bytes encode, and as many bytes for the read as there are for the records, up to 128.
use native.Mathlib.Omega.{arith}
use Prim.Native.Nat.{ℕ, ◌-◌}
use mathlib.Core.Path.{◌≡◌, ◌∙◌}
use mathlib.Core.List.{List}
use lib.ListN.{length, take, replicate}
use lib.Seq.{length-take-le}
use borrow.Author.Rules.{rules}
use Rattle.card_build.specs.declared.card.Card.{Card}
use Rattle.board_read.specs.Refresh.{board_served, refreshed}
use Rattle.handset_bytes.specs.Card.{card_decoded}
use Rattle.handset_words.specs.Board.{refreshed_as, board_room, board_made, records_by, records_after}
use Rattle.handset.proofs.board.uluvoli_board.Goals as goal

-- what the read of the card's own value is lent, and what comes of it
board-is
    : (own c : Card) (arena old bytes : List ℕ) (code : ℕ) {r : ℕ} {after : List ℕ} → own ≡ c → length bytes ≡ board_room (length old)
    → r ≡ refreshed_as (refreshed own arena code (length bytes))
    → after ≡ records_by old (board_served own arena code (length bytes)).read (refreshed own arena code (length bytes))
    → (r ≡ refreshed_as (board_made c arena code old)) × (after ≡ records_after c arena code old)
unfolding records_after
board-is own c arena old bytes code e l p q = rw (← e, ← l) (p, q)

pub returns : goal.returns
returns c =
    let a = c.args in
    let n = c.room-lent.result in
    let z : n - 0 ≡ n = omega arith in
    let l = length-take-le {A = ℕ} (n - 0) (replicate 128 0) (omega (arith, c.room-lent.ensures.1)) ∙ z in
    let w = board-is c.decode-own.result (card_decoded a.card.now) a.arena.now a.lanes.now (take (n - 0) (replicate 128 0)) a.code c.decode-own.ensures (l ∙ c.room-lent.ensures.0) c.filled.ensures.value c.filled.ensures.lanes_after in
    record { value = w.0; lanes_after = w.1 }
