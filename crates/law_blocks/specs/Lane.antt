-- A refresh shows what was written last, with the tower's theorem: the statement.
use Rattle.std.specs.Prelude.{ℕ, ◌<◌, List, ◌≡◌, get_or}
use Rattle.service_code.specs.Code.{number_of}
use Rattle.card_build.specs.declared.card.Card.{Card}
use Rattle.request_plan.specs.Request.{Request}
use Rattle.law_terminals.specs.Last.{arena_then, Redrawn}
use Rattle.board_lanes.specs.Board.{block_at, Lane, empty, lane_of, lanes, board_of}
use Rattle.board_read.specs.Refresh.{board_request, board_served}

-- A refresh with a code shows the bytes d in lane k + 1: they are block k of what it reads, and where that is a board, its lane there is
-- the one that they make.
pub record Shows (c : Card) (a : List ℕ) (code k : ℕ) (d : List ℕ) : Type 0 where
  pub block : block_at (board_served c a code 128).read k ≡ d
  pub lane : (ls : List Lane) → board_of (board_served c a code 128).read ≡ lanes ls → get_or ls k empty ≡ lane_of d

-- At the card c: after an accepted write whose last element for block k of the random store of number n brings the bytes d, and
-- requests of which no accepted write names that block, a refresh with any code of the number that the card answers 00 00 shows d in
-- lane k + 1.
-- RULES 16.5
abbrev pub BoardShows : Card → Type 0
BoardShows c =
    (n k : ℕ) (d a : List ℕ) (w : Request) (rs : List Request) (code : ℕ)
    → k < 8 → number_of code ≡ n
    → Redrawn c n k d a w rs (board_request code 128)
    → Shows c (arena_then c a w rs) code k d
