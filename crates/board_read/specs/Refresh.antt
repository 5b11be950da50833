-- A refresh: one session read of the first eight blocks of a service's store, and the board that they make. Nothing of an earlier refresh
-- has a part in it: it goes by the card, the arena and the code alone.
use Rattle.std.specs.Prelude.{ℕ, false, List, [], ◌∷◌, length, Result, Err, Ok}
use Rattle.card_build.specs.declared.card.Card.{Card}
use Rattle.request_plan.specs.declared.Reply.{Reply}
use Rattle.request_plan.specs.declared.Reply.TheVariants as replies
use Rattle.request_plan.specs.Request.{Request, read_request}
use Rattle.request_plan.specs.Serve.{Served, serve, output_after}
use Rattle.board_lanes.specs.Board.{board_judged}
use Rattle.board_read.specs.declared.Refreshed.{Refreshed}
use Rattle.board_read.specs.declared.Refreshed.TheVariants.{Board, NoBoard, Card as ByCard}
use Rattle.board_lanes.specs.declared.refusal.BoardRefusal.{BoardRefusal}

-- the list of blocks 0 to 7 of the first code: two bytes an element
abbrev pub eight_blocks : List ℕ
eight_blocks = 0x80 ∷ 0 ∷ 0x80 ∷ 1 ∷ 0x80 ∷ 2 ∷ 0x80 ∷ 3 ∷ 0x80 ∷ 4 ∷ 0x80 ∷ 5 ∷ 0x80 ∷ 6 ∷ 0x80 ∷ 7 ∷ []

-- the read of a refresh, in a session, with an output of `room` bytes
-- RULES 17.2
abbrev pub board_request : ℕ → ℕ → Request
board_request code room = read_request false (code ∷ []) 8 eight_blocks room

-- RULES 17.2
abbrev pub board_served : Card → List ℕ → ℕ → ℕ → Served
board_served card arena code room = serve card arena (board_request code room)

-- the eight blocks read make a board, or the board's own refusal
abbrev pub refreshed_by : Result Unit BoardRefusal → Refreshed
refreshed_by (Ok tt) = Board
refreshed_by (Err x) = NoBoard x

-- the card's own answer comes first
abbrev pub refreshed_after : Served → Reply → Refreshed
refreshed_after served (replies.Refused r) = ByCard (replies.Refused r)
refreshed_after served replies.Done = refreshed_by (board_judged served.read)
refreshed_after served replies.ShortData = ByCard replies.ShortData
refreshed_after served (replies.Failed i f) = ByCard (replies.Failed i f)

-- RULES 17.2
unfoldable pub refreshed : Card → List ℕ → ℕ → ℕ → Refreshed
refreshed card arena code room = refreshed_after (board_served card arena code room) (board_served card arena code room).reply

-- the bytes lent: the blocks, where the card has given them
unfoldable pub blocks_after : Card → List ℕ → ℕ → List ℕ → List ℕ
blocks_after card arena code bytes = output_after bytes (board_served card arena code (length bytes))
