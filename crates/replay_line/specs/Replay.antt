-- Replay: from the bytes of a text to the bytes printed, by way of the state between two lines.
use Rattle.std.specs.Prelude.{ℕ, List, [], replicate, Result, Err, Ok, Option, Some, None}
use Rattle.text_stream.specs.Stream.{Machine, says_of}
use Rattle.line_build.specs.Image.{Imaged, image_step}
use Rattle.line_serve.specs.Line.{line_served, work_after, spelled_after}
use Rattle.line_serve.specs.Text.{request_text}
use Rattle.board_line.specs.Line.{board_line_text}
use Rattle.replay_state.specs.declared.Phase.{Phase}
use Rattle.replay_state.specs.declared.Phase.TheVariants.{Image, Requests, Ended}
use Rattle.replay_state.specs.declared.Replay.{Replay}
use Rattle.replay_state.specs.Phases.{replay_start, one_more, refusal_text, finish_text}
use Rattle.replay_kind.specs.declared.Kind.{Kind}
use Rattle.replay_kind.specs.declared.Kind.TheVariants as kinds
use Rattle.replay_kind.specs.Kind.{taken_for}
use Rattle.answers.specs.declared.refusal.Refusal.{Refusal}

-- the bytes lent: an arena, and as many for the output of a read and the staging of a write
-- RULES 11.9
abbrev pub lent_bytes : ℕ
lent_bytes = 65536

-- the state between two lines
pub record Held : Type 0 where
  pub replay : Replay
  pub arena : List ℕ

abbrev pub held : Replay → List ℕ → Held
held p arena = record { replay = p; arena = arena }

-- an image line builds the card; a refused one ends the run
abbrev pub phase_by : Result Unit Refusal → Phase
phase_by (Ok tt) = Image
phase_by (Err refusal) = Ended

-- RULES 11.11
abbrev pub image_held : Replay → Imaged → Held
image_held p x =
    held (record { card = x.added.card; phase = phase_by x.added.answer; lines = one_more p.lines; asked = p.asked }) x.arena

-- an accepted one prints nothing, a refused one its line number and why
-- RULES 11.11
abbrev pub image_text : ℕ → Result Unit Refusal → List ℕ
image_text line (Ok tt) = []
image_text line (Err refusal) = refusal_text line refusal

-- a request takes an ordinal; the card stays as built
abbrev pub request_held : Held → List ℕ → Held
request_held s line =
    held (record { card = s.replay.card; phase = Requests; lines = s.replay.lines; asked = one_more s.replay.asked })
    (line_served s.replay.card s.arena lent_bytes line).arena

-- a refresh of the board takes an ordinal too; card and arena stay
-- RULES 17.4
abbrev pub board_held : Held → Held
board_held s =
    held (record { card = s.replay.card; phase = Requests; lines = s.replay.lines; asked = one_more s.replay.asked }) s.arena

-- the state after a line, by what it is taken for, and what the line prints
abbrev pub held_by : Option Kind → Held → List ℕ → Held
held_by (Some (kinds.Image first)) s line = image_held s.replay (image_step first s.replay.card s.arena line)
held_by (Some kinds.Request) s line = request_held s line
held_by (Some kinds.Board) s line = board_held s
held_by None s line = s

abbrev pub text_by : Option Kind → Held → List ℕ → List ℕ
text_by (Some (kinds.Image first)) s line =
    image_text (one_more s.replay.lines) (image_step first s.replay.card s.arena line).added.answer
text_by (Some kinds.Request) s line = request_text s.replay.card s.arena lent_bytes line (one_more s.replay.asked)
text_by (Some kinds.Board) s line = board_line_text s.replay.card s.arena line (one_more s.replay.asked)
text_by None s line = []

unfoldable pub line_held : Held → List ℕ → Held
line_held s line = held_by (taken_for s.replay.phase line) s line

unfoldable pub line_text : Held → List ℕ → List ℕ
line_text s line = text_by (taken_for s.replay.phase line) s line

abbrev pub end_text : Held → List ℕ
end_text s = finish_text s.replay.phase

-- replay as a machine that takes lines
abbrev pub replay_machine : Machine Held
replay_machine = record { line = line_held; text = line_text; end = end_text }

-- ahead of the first line the arena is zero
-- RULES 11.9
abbrev pub held_at_start : Held
held_at_start = held replay_start (replicate lent_bytes 0)

-- what is printed of a text
-- RULES 16.4
unfoldable pub replay_of : List ℕ → List ℕ
replay_of text = says_of replay_machine held_at_start text

-- the buffers lent to a request, after a line
abbrev pub work_taken : Option Kind → Held → List ℕ → List ℕ → List ℕ
work_taken (Some (kinds.Image first)) s work line = work
work_taken (Some kinds.Request) s work line = work_after s.replay.card s.arena work line
work_taken (Some kinds.Board) s work line = work
work_taken None s work line = work

abbrev pub bytes_by : Option Kind → List ℕ → List ℕ → List ℕ
bytes_by (Some (kinds.Image first)) bytes line = bytes
bytes_by (Some kinds.Request) bytes line = spelled_after bytes line
bytes_by (Some kinds.Board) bytes line = bytes
bytes_by None bytes line = bytes

unfoldable pub work_held : Held → List ℕ → List ℕ → List ℕ
work_held s work line = work_taken (taken_for s.replay.phase line) s work line

unfoldable pub bytes_held : Held → List ℕ → List ℕ → List ℕ
bytes_held s bytes line = bytes_by (taken_for s.replay.phase line) bytes line
