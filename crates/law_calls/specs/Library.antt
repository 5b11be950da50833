-- The library's calls that make requests: the request that each makes, and what its answer leaves its caller.
use Rattle.std.specs.Prelude.{ℕ, List, [], length}
use Rattle.card_build.specs.declared.card.Card.{Card}
use Rattle.request_plan.specs.Request.{Request}
use Rattle.board_read.specs.declared.Refreshed.{Refreshed}
use Rattle.board_read.specs.Refresh.{board_request, refreshed_after}
use Rattle.handset_words.specs.Reply.{reply_as}
use Rattle.handset_words.specs.Board.{refreshed_as, board_room, records_by}
use Rattle.law_terminals.specs.Two.{Answer}
use Rattle.law_terminals.specs.Runs.{Call, request_of, Left, left_by}

-- a read or a write, with the buffer lent to it, or a board, with the bytes lent for its records
pub data HandsetCall : Type 0 where
  request : Call → HandsetCall
  board : (code : ℕ) (records : List ℕ) → HandsetCall

-- a board asks the read of its eight blocks
abbrev pub handset_request : HandsetCall → Request
handset_request (request k) = request_of k
handset_request (board code records) = board_request code (board_room (length records))

-- what a board comes to, by the answer to its read
abbrev pub made_by : Answer → Refreshed
made_by x = refreshed_after (record { reply = x.reply; read = x.read; arena = [] }) x.reply

-- the number that is returned, and the output, the staging or the records as they then are
abbrev pub library_left : Card → HandsetCall → Answer → Left ℕ
library_left c (request k) x = left_by reply_as c k x
library_left c (board code records) x = record { reply = refreshed_as (made_by x); buffer = records_by records x.read (made_by x) }
