-- A board for a program: what a refresh returns, and the records of its lanes.
use Rattle.std.specs.Prelude.{ℕ, List, cond, ltb, length}
use Rattle.byte_parts.specs.Part.{put}
use Rattle.card_build.specs.declared.card.Card.{Card}
use Rattle.board_lanes.specs.Board.{board_number, lanes_of}
use Rattle.board_lanes.specs.Records.{lanes_records}
use Rattle.board_read.specs.declared.Refreshed.{Refreshed}
use Rattle.board_read.specs.declared.Refreshed.TheVariants.{Board, NoBoard, Card as ByCard}
use Rattle.board_read.specs.Refresh.{board_served, refreshed}
use Rattle.handset_words.specs.Outcome.{refusal_as}
use Rattle.handset_words.specs.Reply.{reply_as}

-- 0 for a board, the board's refusal, or what any request returns
-- RULES 15.5
abbrev pub refreshed_as : Refreshed → ℕ
refreshed_as Board = 0
refreshed_as (NoBoard x) = refusal_as (board_number x)
refreshed_as (ByCard reply) = reply_as reply

-- how many bytes the read is lent: as many as there are for the records, and no more than 128; so refusal 5 comes in its place
unfoldable pub board_room : ℕ → ℕ
board_room n = cond (ltb n 128) n 128

abbrev pub board_made : Card → List ℕ → ℕ → List ℕ → Refreshed
board_made c arena code old = refreshed c arena code (board_room (length old))

-- eight records where there is a board; else as it was
abbrev pub records_by : List ℕ → List ℕ → Refreshed → List ℕ
records_by old bytes Board = put old 0 128 (lanes_records (lanes_of bytes))
records_by old bytes (NoBoard x) = old
records_by old bytes (ByCard reply) = old

-- RULES 15.5
unfoldable pub records_after : Card → List ℕ → ℕ → List ℕ → List ℕ
records_after c arena code old = records_by old (board_served c arena code (board_room (length old))).read (board_made c arena code old)
