-- The library's board: the statements.
use Rattle.std.specs.Prelude.{ℕ, ◌*◌, ◌<◌, List, [], ◌∷◌, ◌≡◌, length}
use Rattle.byte_parts.specs.Sizes.{block_size}
use Rattle.service_code.specs.Code.{number_of}
use Rattle.byte_parts.specs.Part.{part, put}
use Rattle.card_build.specs.declared.card.Card.{Card}
use Rattle.board_lanes.specs.Board.{lane_of, lanes, lanes_of, board_of}
use Rattle.board_lanes.specs.Records.{lane_record, lanes_records}
use Rattle.handset_words.specs.Outcome.{answer_as}
use Rattle.handset_words.specs.Reply.{reply_as}
use Rattle.handset_words.specs.Block.{set_answer, set_after}
use Rattle.handset_words.specs.Board.{refreshed_as, board_made, records_after}
use Rattle.law_terminals.specs.Two.{answer_of, arena_after, All}
use Rattle.law_terminals.specs.Runs.{Exchange, Call, request_of, Left, left_by}
use Rattle.law_blocks.specs.Deed.{Deed, requested, block_set, neither, DeedNames, DeedBrings}
use Rattle.law_lines.specs.Shown.{eight_of}

-- What a call returns, r, and what it makes of the bytes lent for the records, from `old` to `new`. 0 for a board, and then its
-- records stand in front, worked out from the first eight blocks of the code's store as the arena has them; else all is left as it was.
-- RULES 16.5
pub record BoardCall (c : Card) (a : List ℕ) (code : ℕ) (old : List ℕ) (r : ℕ) (new : List ℕ) : Type 0 where
  pub board
      : let ls = lanes_of (eight_of c a code) in
      r ≡ 0 → (board_of (eight_of c a code) ≡ lanes ls) × (new ≡ put old 0 128 (lanes_records ls))
  pub left : (r ≡ 0 → ⊥) → new ≡ old

-- A call of the library on a card and an arena: a read or a write, a board with the bytes lent for its records, or a block that is set.
pub data LibraryCall : Type 0 where
  requests : Call → LibraryCall
  boards : (code : ℕ) (records : List ℕ) → LibraryCall
  sets : (code number : ℕ) (bytes : List ℕ) → LibraryCall

-- what it leaves its caller: the number that it returns, and the bytes lent as they then are
abbrev pub call_left : Card → List ℕ → LibraryCall → Left ℕ
call_left c a (requests k) = left_by reply_as c k (answer_of c a (request_of k))
call_left c a (boards code old) = record { reply = refreshed_as (board_made c a code old); buffer = records_after c a code old }
call_left c a (sets code number bytes) = record { reply = answer_as (set_answer c (length a) code number bytes); buffer = [] }

-- the arena after it
abbrev pub call_arena : Card → List ℕ → LibraryCall → List ℕ
call_arena c a (requests k) = arena_after c a (request_of k)
call_arena c a (boards code old) = a
call_arena c a (sets code number bytes) = set_after c a code number bytes

-- what it does to blocks
abbrev pub call_deed : LibraryCall → Deed
call_deed (requests k) = requested (request_of k)
call_deed (boards code old) = neither
call_deed (sets code number bytes) = block_set code number bytes

-- on the arena a it leaves its caller x, and the arena b
abbrev pub CallLeaves : Card → List ℕ → LibraryCall → Left ℕ → List ℕ → Type 0
CallLeaves c a k x b = (x ≡ call_left c a k) × (b ≡ call_arena c a k)

-- calls one after another, each on the arena that the one before it left; the last leaves e
abbrev pub CallsRan : Card → List ℕ → List (Exchange LibraryCall (Left ℕ)) → List ℕ → Type 0
CallsRan c a [] e = e ≡ a
CallsRan c a (x ∷ xs) e = (b : List ℕ) × CallLeaves c a x.call x.left b × CallsRan c b xs e

-- A call of the library that returned 0, and calls after it, run from the arena a to the arena m.
pub record Drawn (c : Card) (n k : ℕ) (d a : List ℕ) (w : Exchange LibraryCall (Left ℕ)) (xs : List (Exchange LibraryCall (Left ℕ))) (m : List ℕ) : Type 0 where
  pub ran : CallsRan c a (w ∷ xs) m
  -- a write or a set block, which brings the bytes d to block k of the random store of number n
  pub done : w.left.reply ≡ 0
  pub brings : DeedBrings n k d (call_deed w.call)
  -- of the calls after it no write and no set block that returned 0 names that block
  pub quiet : All (λ x. x.left.reply ≡ 0 → DeedNames n k (call_deed x.call) → ⊥) xs

-- At the card c: a board with any code of that number, that returns 0, has in the record of lane k + 1 what was brought.
-- RULES 16.5
abbrev pub LibraryShows : Card → Type 0
LibraryShows c =
    (n k : ℕ) (d a : List ℕ) (w : Exchange LibraryCall (Left ℕ)) (xs : List (Exchange LibraryCall (Left ℕ))) (m : List ℕ) (code : ℕ) (old : List ℕ)
    → Drawn c n k d a w xs m
    → k < 8 → number_of code ≡ n
    → refreshed_as (board_made c m code old) ≡ 0
    → part (records_after c m code old) (block_size * k) 16 ≡ lane_record (lane_of d)
