-- An `L` line of a replay shows what was written last: the statement.
use Rattle.std.specs.Prelude.{ℕ, ◌<◌, true, cond, List, [], ◌∷◌, map, ◌≡◌, Option, Some, None}
use Rattle.service_code.specs.Code.{number_of}
use Rattle.request_plan.specs.Request.{Request, read_request}
use Rattle.line_request.specs.Ask.{ask_of}
use Rattle.law_terminals.specs.Last.{Redrawn}
use Rattle.board_lanes.specs.Board.{board_of}
use Rattle.board_read.specs.Refresh.{board_request, board_served}
use Rattle.board_line.specs.Line.{board_line, board_code}
use Rattle.replay_state.specs.Phases.{one_more}
use Rattle.replay_line.specs.Replay.{Held, lent_bytes, line_text}
use Rattle.law_calls.specs.Lines.{request_by}
use Rattle.law_blocks.specs.Lane.{Shows}
use Rattle.law_lines.specs.Shown.{board_text}
use Rattle.law_lines.specs.Lines.{Taken, held_after}

-- the request that a line makes: the read of a refresh, or that of a request line; a malformed `L` line counts as a read of nothing
abbrev pub refresh_by : Option ℕ → Request
refresh_by None = read_request true [] 0 [] 0
refresh_by (Some code) = board_request code 128

unfoldable pub request_in : List ℕ → Request
request_in line = cond (board_line line) (refresh_by (board_code line)) (request_by lent_bytes line (ask_of line))

-- what an `L` line prints then, at a state: the board of the blocks read, of which block k is d
pub record Prints (s : Held) (line : List ℕ) (code k : ℕ) (d : List ℕ) : Type 0 where
  pub shows : Shows s.replay.card s.arena code k d
  pub text
      : line_text s line
      ≡ board_text (one_more s.replay.asked) (board_of (board_served s.replay.card s.arena code 128).read)

-- A `W` line that is taken for a request, whatever lines after it, of which no accepted write names the block, and an `L` line
-- that the card answers 00 00: it shows in lane k + 1 what the `W` line brought.
-- RULES 16.5
abbrev pub LineShows : Held → Type 0
LineShows s =
    (n k : ℕ) (d w : List ℕ) (ls : List (List ℕ)) (line : List ℕ) (code : ℕ)
    → Taken s.replay.phase (w ∷ ls)
    → board_code line ≡ Some code → k < 8 → number_of code ≡ n
    → Redrawn s.replay.card n k d s.arena (request_in w) (map request_in ls) (board_request code 128)
    → Prints (held_after s (w ∷ ls)) line code k d
