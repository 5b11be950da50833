-- Refreshes among the lines of an inspection: each shows the board as it stands, in which a lane is as it was brought last; and what
-- neither builds nor requests writes nothing. The statements.
use Rattle.std.specs.Prelude.{ℕ, ◌<◌, false, List, [], ◌∷◌, ◌≡◌, get_or, Some, Option, None}
use Rattle.byte_parts.specs.Letters.{tab}
use Rattle.service_code.specs.Code.{number_of}
use Rattle.text_fields.specs.Field.{split}
use Rattle.text_numbers.specs.Hex.{unhex}
use Rattle.request_plan.specs.declared.Reply.TheVariants.{Done}
use Rattle.line_image.specs.declared.line.Line.{Line}
use Rattle.line_image.specs.declared.line.Line.TheVariants.{Card as New, Area, Service, Limit, Block}
use Rattle.line_image.specs.Line.{image_named, image_line}
use Rattle.line_request.specs.Ask.{request_line, ask_of}
use Rattle.board_lanes.specs.Board.{board_of}
use Rattle.board_read.specs.Refresh.{board_served}
use Rattle.board_line.specs.Line.{board_code}
use Rattle.replay_state.specs.declared.Phase.{Phase}
use Rattle.replay_state.specs.declared.Phase.TheVariants.{First, Image, Requests, Ended}
use Rattle.replay_state.specs.Phases.{one_more}
use Rattle.replay_kind.specs.declared.Kind.{Kind}
use Rattle.replay_kind.specs.declared.Kind.TheVariants as kinds
use Rattle.replay_line.specs.Replay.{lent_bytes}
use Rattle.inspect_sort.specs.declared.Sort.{Sort}
use Rattle.inspect_sort.specs.declared.Sort.TheVariants as sorts
use Rattle.inspect_sort.specs.Sort.{sort_of}
use Rattle.inspect_line.specs.Inspect.{Seen, line_seen, line_said, work_seen, bytes_seen}
use Rattle.law_calls.specs.Lines.{request_by}
use Rattle.law_lines.specs.Shown.{eight_of, board_text, shown_text}
use Rattle.law_blocks.specs.Deed.{Deed, requested, block_set, neither, DeedDone, DeedNames, DeedBrings}
use Rattle.law_blocks.specs.Lane.{Shows}

-- where line 1 was accepted, and no image line was refused since
abbrev pub GoesOn : Phase → Type 0
GoesOn First = ⊥
GoesOn Image = Unit {0}
GoesOn Requests = Unit {0}
GoesOn Ended = ⊥

-- There an `L` line prints the board of the store as the arena has it at that line, or the refusal.
-- RULES 16.5
abbrev pub InspectPrints : Type 0
InspectPrints =
    (s : Seen) (line : List ℕ) (code : ℕ) → GoesOn s.inspect.replay.phase → board_code line ≡ Some code
    → let p = s.inspect.replay in
    line_said s line
    ≡ shown_text (one_more p.asked) (board_served p.card s.arena code 128).reply (board_of (eight_of p.card s.arena code))

-- what a line leaves as it was: card, arena, and the buffers that requests are lent
pub record LooksOnly (s : Seen) (line : List ℕ) : Type 0 where
  pub card : (line_seen s line).inspect.replay.card ≡ s.inspect.replay.card
  pub arena : (line_seen s line).arena ≡ s.arena
  pub work : (lent : List ℕ) → work_seen s lent line ≡ lent
  pub bytes : (lent : List ℕ) → bytes_seen s lent line ≡ lent

-- There every line that by its first field is neither an image line nor `R` or `W`, `L` lines and questions of any form, writes
-- nothing.
-- RULES 16.5
abbrev pub InspectLeaves : Type 0
InspectLeaves =
    (s : Seen) (line : List ℕ) → GoesOn s.inspect.replay.phase → image_named (split tab line) ≡ false → request_line line ≡ false
    → LooksOnly s line

-- what a line does to blocks, by what it is taken for: a `blk` line sets one, a request line makes a request
abbrev pub image_deed : List ℕ → Option Line → Deed
image_deed line None = neither
image_deed line (Some (New system)) = neither
image_deed line (Some (Area depth code end version)) = neither
image_deed line (Some (Service depth code blocks version)) = neither
image_deed line (Some (Limit upper lower generation)) = neither
image_deed line (Some (Block code number)) = block_set code number (unhex (get_or (split tab line) 3 []))

abbrev pub kind_deed : Option Kind → List ℕ → Deed
kind_deed (Some (kinds.Image first)) line = image_deed line (image_line first line)
kind_deed (Some kinds.Request) line = requested (request_by lent_bytes line (ask_of line))
kind_deed (Some kinds.Board) line = neither
kind_deed None line = neither

abbrev pub sort_deed : Option Sort → List ℕ → Deed
sort_deed (Some (sorts.Replayed kind)) line = kind_deed (Some kind) line
sort_deed (Some (sorts.Asked q)) line = neither
sort_deed None line = neither

unfoldable pub line_deed : Seen → List ℕ → Deed
line_deed s line = sort_deed (sort_of s.inspect.replay.phase line) line

-- at a state it is done
abbrev pub LineDone : Seen → List ℕ → Type 0
LineDone s line = DeedDone s.inspect.replay.card s.arena (line_deed s line)

-- the state after lines
unfoldable pub seen_after : Seen → List (List ℕ) → Seen
seen_after s [] = s
seen_after s (line ∷ ls) = seen_after (line_seen s line) ls

-- from a state on, no accepted write and no `blk` line names block k of number n
abbrev pub QuietLines : ℕ → ℕ → Seen → List (List ℕ) → Type 0
QuietLines n k s [] = Unit {0}
QuietLines n k s (line ∷ ls) = (LineDone s line → DeedNames n k (line_deed s line) → ⊥) × QuietLines n k (line_seen s line) ls

-- what an `L` line prints at a state: the board of the blocks read, of which block k is d
pub record LaneSaid (s : Seen) (line : List ℕ) (code k : ℕ) (d : List ℕ) : Type 0 where
  pub shows : Shows s.inspect.replay.card s.arena code k d
  pub text
      : line_said s line
      ≡ board_text (one_more s.inspect.replay.asked) (board_of (board_served s.inspect.replay.card s.arena code 128).read)

-- A `W` line or a `blk` line that is done and brings sixteen bytes d to block k of the random store of number n; whatever lines
-- after it, image lines, requests, refreshes and questions mixed, of which none that is done names that block; and, where no image line
-- was refused, an `L` line with any code of the number that the card answers 00 00: it shows d in lane k + 1.
-- RULES 16.5
abbrev pub InspectShows : Seen → Type 0
InspectShows s =
    (n k : ℕ) (d w : List ℕ) (ls : List (List ℕ)) (line : List ℕ) (code : ℕ)
    → GoesOn s.inspect.replay.phase
    → LineDone s w → DeedBrings n k d (line_deed s w)
    → QuietLines n k (line_seen s w) ls
    → board_code line ≡ Some code → k < 8 → number_of code ≡ n
    → let t = seen_after s (w ∷ ls) in
    GoesOn t.inspect.replay.phase
    → (board_served t.inspect.replay.card t.arena code 128).reply ≡ Done
    → LaneSaid t line code k d
