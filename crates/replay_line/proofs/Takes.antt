-- What a line comes to, by what it is taken for. Assumes nothing.
use Rattle.std.specs.Prelude.{Err, Ok, Option, Some, None}
use Rattle.std.proofs.Common.{Result}
use Prim.Native.Nat.{ℕ, ◌+◌, ◌≤◌}
use native.Mathlib.Omega.{arith}
use mathlib.Core.Path.{◌≡◌, refl, sym, ap, ◌∙◌}
use mathlib.Core.Bool.{Bool}
use mathlib.Core.List.{List}
use lib.ListN.{length}
use Rattle.byte_parts.specs.Sizes.{most_printed}
use Rattle.answers.specs.declared.refusal.Refusal.{Refusal}
use Rattle.card_build.specs.declared.card.Added.{Added}
use Rattle.text_stream.specs.Stream.{Written}
use Rattle.text_stream.proofs.Prints.{written_none}
use Rattle.line_build.specs.Image.{Imaged, image_step}
use Rattle.line_serve.specs.Line.{line_served, work_after, spelled_after}
use Rattle.line_serve.specs.Text.{request_text}
use Rattle.board_line.specs.Line.{board_line_text}
use Rattle.replay_state.specs.declared.Phase.TheVariants.{Image, Requests, Ended}
use Rattle.replay_state.specs.declared.Replay.{Replay}
use Rattle.replay_state.specs.Phases.{one_more, refusal_text}
use Rattle.replay_kind.specs.declared.Kind.{Kind}
use Rattle.replay_kind.specs.declared.Kind.TheVariants as kinds
use Rattle.replay_line.specs.Replay.{lent_bytes, Held, held, image_held, image_text, request_held, board_held, held_by, text_by, work_taken, bytes_by}

module _ (p : Replay) (t : Imaged) {added : Added} {arena : List ℕ} {n : ℕ} (e : added ≡ t.added) (a : arena ≡ t.arena) (l : n ≡ one_more p.lines) where
  -- what the image line was answered
  answer_of_lem : {x : Result Unit Refusal} → added.answer ≡ x → t.added.answer ≡ x
  answer_of_lem d = ap (λ (y : Added). y.answer) (sym e) ∙ d

  -- An image line is accepted.
  pub image-done
      : added.answer ≡ (Ok tt) → (out : List ℕ) (at : ℕ)
      → (held (record { card = added.card; phase = Image; lines = n; asked = p.asked }) arena ≡ image_held p t)
      × (Written out at (image_text (one_more p.lines) t.added.answer) at out × (at ≤ at + 48))
  image-done d out at = rw (answer_of_lem d, e, l, a) (refl, (written_none out at, omega arith))

  -- Or refused.
  pub image-refused
      : {refusal : Refusal} {out out' : List ℕ} {at k : ℕ} → added.answer ≡ Err refusal
      → Written out at (refusal_text n refusal) k out' × (k ≤ at + 48)
      → (held (record { card = added.card; phase = Ended; lines = n; asked = p.asked }) arena ≡ image_held p t)
      × (Written out at (image_text (one_more p.lines) t.added.answer) k out' × (k ≤ at + 48))
  image-refused d w = rw (answer_of_lem d, e, a, ← l) (refl, w)

-- A request takes the next ordinal.
pub request-held
    : (p : Replay) (arena work line : List ℕ) {n : ℕ} {arena' : List ℕ} → n ≡ one_more p.asked → length work ≡ lent_bytes
    → arena' ≡ (line_served p.card arena (length work) line).arena
    → held (record { card = p.card; phase = Requests; lines = p.lines; asked = n }) arena' ≡ request_held (held p arena) line
request-held p arena work line e h a = rw (e, a, h)

-- So does a refresh of the board.
pub board-held
    : (p : Replay) (arena : List ℕ) {n : ℕ} → n ≡ one_more p.asked
    → held (record { card = p.card; phase = Requests; lines = p.lines; asked = n }) arena ≡ board_held (held p arena)
board-held p arena e = rw e

-- what is promised of a line, by what it is taken for
abbrev Promised : Option Kind → Held → List ℕ → Held → List ℕ → List ℕ → ℕ → ℕ → List ℕ → List ℕ → List ℕ → List ℕ → Type 0
Promised kind s line r out out' at k work bytes work' bytes' =
    (r ≡ held_by kind s line) × ((Written out at (text_by kind s line) k out' × (k ≤ at + most_printed))
    × ((work' ≡ work_taken kind s work line) × (bytes' ≡ bytes_by kind bytes line)))

module _ (s : Held) (line work bytes : List ℕ) {kind : Option Kind} {r : Held} {out out' : List ℕ} {at k : ℕ} where
  -- A line that is taken for an image line.
  pub image-taken
      : {first : Bool} → kind ≡ Some (kinds.Image first)
      → let x = image_step first s.replay.card s.arena line in
      (r ≡ image_held s.replay x) × (Written out at (image_text (one_more s.replay.lines) x.added.answer) k out' × (k ≤ at + 48))
      → Promised kind s line r out out' at k work bytes work bytes
  image-taken e w = rw e (w.0, ((w.1.0, omega (arith, w.1.1)), (refl, refl)))

  -- For a request.
  pub request-taken
      : {work' bytes' : List ℕ} → kind ≡ Some kinds.Request
      → (r ≡ request_held s line)
      × ((Written out at (request_text s.replay.card s.arena lent_bytes line (one_more s.replay.asked)) k out' × (k ≤ at + most_printed))
      × ((work' ≡ work_after s.replay.card s.arena work line) × (bytes' ≡ spelled_after bytes line)))
      → Promised kind s line r out out' at k work bytes work' bytes'
  request-taken e w = rw e w

  -- For a refresh of the board.
  pub board-taken
      : kind ≡ Some kinds.Board
      → (r ≡ board_held s)
      × (Written out at (board_line_text s.replay.card s.arena line (one_more s.replay.asked)) k out' × (k ≤ at + most_printed))
      → Promised kind s line r out out' at k work bytes work bytes
  board-taken e w = rw e (w.0, (w.1, (refl, refl)))

-- For nothing.
pub nothing_taken
    : (s : Held) (line work bytes out : List ℕ) (at : ℕ) {kind : Option Kind} → kind ≡ None
    → Promised kind s line s out out at at work bytes work bytes
nothing_taken s line work bytes out at e = rw e (refl, ((written_none out at, omega arith), (refl, refl)))
