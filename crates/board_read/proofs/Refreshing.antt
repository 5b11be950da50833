-- What a refresh comes to, by the card's answer. Assumes nothing.
use Prim.Native.Nat.{ℕ, ◌≤◌}
use native.Mathlib.Omega.{arith}
use mathlib.Core.Path.{◌≡◌, refl, sym, ap, ◌∙◌}
use mathlib.Core.Bool.{false}
use mathlib.Core.List.{List, [], ◌∷◌}
use lib.ListN.{length, take}
use lib.Seq.{take_all}
use Rattle.answers.specs.declared.refusal.Refusal.{Refusal}
use Rattle.answers.specs.declared.status.Fault.{Fault}
use Rattle.byte_parts.specs.Part.{part, put}
use Rattle.byte_parts.proofs.Part.{part-put, length-put}
use Rattle.card_build.specs.declared.card.Card.{Card}
use Rattle.request_plan.specs.declared.Reply.{Reply}
use Rattle.request_plan.specs.declared.Reply.TheVariants as replies
use Rattle.request_plan.specs.Serve.{Served, length_read, output_after}
use Rattle.request_plan.proofs.ReadLaws.{ReadSaid, read-said}
use Rattle.board_lanes.specs.Board.{board_judged}
use Rattle.board_read.specs.declared.Refreshed.TheVariants.{Board, Card as ByCard}
use Rattle.board_read.specs.Refresh.{eight_blocks, board_request, board_served, refreshed_by, refreshed_after, refreshed, blocks_after}

module _ (card : Card) (arena : List ℕ) (code room : ℕ) where
  -- the reply of the read
  abbrev replied : Reply
  replied = (board_served card arena code room).reply

  module _ {r : Reply} (e : r ≡ replied) where
    -- The card has refused.
    pub by_refusal : {x : Refusal} → r ≡ replies.Refused x → ByCard r ≡ refreshed card arena code room
    unfolding refreshed
    by_refusal d = rw (sym e ∙ d, d)

    -- A read has no data that could be short; this case is never met.
    pub by_short : r ≡ replies.ShortData → ByCard r ≡ refreshed card arena code room
    unfolding refreshed
    by_short d = rw (sym e ∙ d, d)

    -- An element has failed.
    pub by_fault : {i : ℕ} {f : Fault} → r ≡ replies.Failed i f → ByCard r ≡ refreshed card arena code room
    unfolding refreshed
    by_fault d = rw (sym e ∙ d, d)

  -- The blocks were read.
  pub by_blocks : replied ≡ replies.Done → refreshed card arena code room ≡ refreshed_by (board_judged (board_served card arena code room).read)
  unfolding refreshed
  by_blocks e = rw e

  module _ (h : length card.nodes ≡ 64) (e : (board_served card arena code room).reply ≡ replies.Done) where
    -- what the read says
    said : ReadSaid arena (board_request code room) (board_served card arena code room)
    said = read-said card arena false (code ∷ []) 8 eight_blocks room h

    -- The eight blocks are 128 bytes.
    pub read-bytes : length (board_served card arena code room).read ≡ 128
    read-bytes = said.long ∙ ap (λ (x : Reply). length_read x 8) e

    -- The bytes lent have room for them.
    pub read-room : 128 ≤ room
    read-room = omega (arith, said.room, read-bytes)

-- The blocks stand in front of the bytes lent.
pub blocks_front
    : (card : Card) (arena : List ℕ) (code : ℕ) (bytes : List ℕ) → length card.nodes ≡ 64
    → (board_served card arena code (length bytes)).reply ≡ replies.Done
    → take 128 (blocks_after card arena code bytes) ≡ (board_served card arena code (length bytes)).read
unfolding blocks_after part
blocks_front card arena code bytes h e =
    let x = (board_served card arena code (length bytes)).read in
    let n = read-bytes card arena code (length bytes) h e in
    let r = read-room card arena code (length bytes) h e in
    ap (λ (k : ℕ). take k (put bytes 0 (length x) x)) (sym n)
    ∙ part-put bytes 0 (length x) x (omega (arith, n, r)) (omega arith)
    ∙ take_all (length x) x (omega arith)

-- A board comes of blocks that were read alone.
done_alone : (served : Served) (r : Reply) → refreshed_after served r ≡ Board → r ≡ replies.Done
done_alone served (replies.Refused x) e = absurd (let z : ◌≡◌ {A = ℕ} 0 1 = cc in omega arith)
done_alone served replies.Done e = refl
done_alone served replies.ShortData e = absurd (let z : ◌≡◌ {A = ℕ} 0 1 = cc in omega arith)
done_alone served (replies.Failed i f) e = absurd (let z : ◌≡◌ {A = ℕ} 0 1 = cc in omega arith)

pub board-done : (card : Card) (arena : List ℕ) (code room : ℕ) → refreshed card arena code room ≡ Board → (board_served card arena code room).reply ≡ replies.Done
unfolding refreshed
board-done card arena code room e = done_alone (board_served card arena code room) (board_served card arena code room).reply e

-- A board's blocks are all of the 128 bytes lent.
pub board-bytes
    : (card : Card) (arena : List ℕ) (code : ℕ) (bytes : List ℕ) → length card.nodes ≡ 64 → length bytes ≡ 128
    → refreshed card arena code (length bytes) ≡ Board
    → blocks_after card arena code bytes ≡ (board_served card arena code (length bytes)).read
unfolding blocks_after
board-bytes card arena code bytes h n e =
    let x = (board_served card arena code (length bytes)).read in
    sym (take_all 128 (put bytes 0 (length x) x) (omega (arith, length-put bytes 0 (length x) x)))
    ∙ blocks_front card arena code bytes h (board-done card arena code (length bytes) e)
