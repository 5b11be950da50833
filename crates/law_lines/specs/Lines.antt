-- Refreshes among the lines of a replay: each leaves everything as it was, and none has a part in a later one. The statements.
use Rattle.std.specs.Prelude.{ℕ, Bool, true, ◌||◌, List, [], ◌∷◌, ◌≡◌, Some}
use Rattle.line_request.specs.Ask.{request_line}
use Rattle.board_lanes.specs.Board.{board_of}
use Rattle.board_read.specs.declared.Refreshed.TheVariants.{Board}
use Rattle.board_read.specs.Refresh.{board_served, refreshed}
use Rattle.board_line.specs.Line.{board_line, board_code, board_line_text}
use Rattle.replay_state.specs.declared.Phase.{Phase}
use Rattle.replay_state.specs.declared.Phase.TheVariants.{First, Image, Requests, Ended}
use Rattle.replay_state.specs.Phases.{one_more}
use Rattle.replay_line.specs.Replay.{Held, line_held, line_text, work_held, bytes_held}
use Rattle.law_lines.specs.Shown.{eight_of, shown_text}

-- a line that is a request by its first field: `R`, `W` or `L`
abbrev pub asks : List ℕ → Bool
asks line = request_line line || board_line line

-- Where a replay takes these lines for requests: after the first request whatever they say; after the image where the first of them is
-- one by its first field, since every line after it is one then.
abbrev pub Taken : Phase → List (List ℕ) → Type 0
Taken First ls = ⊥
Taken Image [] = Unit {0}
Taken Image (line ∷ ls) = asks line ≡ true
Taken Requests ls = Unit {0}
Taken Ended ls = ⊥

-- At whatever state such an `L` line comes, it prints the board of the store as the arena has it there, or the refusal.
-- RULES 16.5
abbrev pub LinePrints : Type 0
LinePrints =
    (s : Held) (line : List ℕ) (code : ℕ) → Taken s.replay.phase [] → board_code line ≡ Some code
    → line_text s line
    ≡ shown_text (one_more s.replay.asked) (board_served s.replay.card s.arena code 128).reply
    (board_of (eight_of s.replay.card s.arena code))

-- what an `L` line leaves as it was: card, arena, and the buffers that requests are lent
pub record Untouched (s : Held) (line : List ℕ) : Type 0 where
  pub card : (line_held s line).replay.card ≡ s.replay.card
  pub arena : (line_held s line).arena ≡ s.arena
  pub work : (lent : List ℕ) → work_held s lent line ≡ lent
  pub bytes : (lent : List ℕ) → bytes_held s lent line ≡ lent

-- RULES 16.5
abbrev pub LeavesAll : Type 0
LeavesAll = (s : Held) (line : List ℕ) → Taken s.replay.phase [] → board_line line ≡ true → Untouched s line

-- lines, and the same lines with any of the `L` lines left out
pub data Without : List (List ℕ) → List (List ℕ) → Type 0 where
  none : Without [] []
  kept : {ls ms : List (List ℕ)} (line : List ℕ) → Without ls ms → Without (line ∷ ls) (line ∷ ms)
  dropped : {ls ms : List (List ℕ)} (line : List ℕ) → board_line line ≡ true → Without ls ms → Without (line ∷ ls) ms

-- the state after lines
unfoldable pub held_after : Held → List (List ℕ) → Held
held_after s [] = s
held_after s (line ∷ ls) = held_after (line_held s line) ls

-- an `L` line at two states shows the same board
pub record SameBoard (s t : Held) (line : List ℕ) : Type 0 where
  -- the card answers the same, with the same bytes, and the same comes of them
  pub served : (code : ℕ) → board_served s.replay.card s.arena code 128 ≡ board_served t.replay.card t.arena code 128
  pub shown : (code : ℕ) → refreshed s.replay.card s.arena code 128 ≡ refreshed t.replay.card t.arena code 128
  -- both print what is printed at the first of the states, each with its own ordinal
  pub first : line_text s line ≡ board_line_text s.replay.card s.arena line (one_more s.replay.asked)
  pub second : line_text t line ≡ board_line_text s.replay.card s.arena line (one_more t.replay.asked)
  -- a board has no ordinal: its text is the same
  pub board
      : (code : ℕ) → board_code line ≡ Some code → refreshed s.replay.card s.arena code 128 ≡ Board
      → line_text s line ≡ line_text t line

-- Two states that lines left: card and arena are equal, and so is the next board.
pub record NoPart (s t : Held) : Type 0 where
  pub card : s.replay.card ≡ t.replay.card
  pub arena : s.arena ≡ t.arena
  pub next : (line : List ℕ) → board_line line ≡ true → SameBoard s t line

-- Lines, and the same lines without any of the `L` lines, both taken for requests. An `L` line ends the image, so where it is
-- the first request of all, the line that comes first without it is one too.
-- RULES 16.5
abbrev pub NoEarlierPart : Type 0
NoEarlierPart =
    (s : Held) (ls ms : List (List ℕ)) → Taken s.replay.phase ls → Taken s.replay.phase ms → Without ls ms
    → NoPart (held_after s ls) (held_after s ms)
