-- Replay tells no more of a line than its first 32,769 bytes: one over the longest line. Assumes nothing.
use Rattle.std.specs.Prelude.{None, Option, Some}
use Prim.Native.Nat.{ℕ, ◌<◌}
use native.Mathlib.Omega.{arith}
use native.Mathlib.Decide.{dec_lt}
use mathlib.Core.Path.{◌≡◌, refl, ap, ◌∙◌}
use mathlib.Core.Bool.{Bool}
use mathlib.Core.List.{List}
use lib.ListN.{length, take}
use lib.Seq.{take_all}
use borrow.Author.Tests.{lt-ltb}
use Rattle.card_build.specs.declared.card.Card.{Card}
use Rattle.text_stream.specs.Stream.{Blind}
use Rattle.line_image.specs.declared.line.Line.TheVariants as image
use Rattle.line_image.specs.Line.{image_line}
use Rattle.line_build.specs.Image.{image_step}
use Rattle.line_request.specs.declared.Ask.TheVariants as asks
use Rattle.line_request.specs.Ask.{ask_of}
use Rattle.line_serve.specs.Line.{line_served}
use Rattle.line_serve.specs.Text.{request_text}
use Rattle.board_line.specs.Line.{board_code, board_line_text}
use Rattle.replay_state.specs.Phases.{one_more}
use Rattle.replay_kind.specs.declared.Kind.{Kind}
use Rattle.replay_kind.specs.declared.Kind.TheVariants as kinds
use Rattle.replay_kind.specs.Kind.{taken_for}
use Rattle.replay_kind.proofs.Blind.{kind_blind, cut_long_lem}
use Rattle.replay_line.specs.Replay.{Held, held_by, text_by, line_held, line_text, replay_machine}

-- A line that is too long is malformed, whatever it says.
long-image : (first : Bool) (l : List ℕ) → 32768 < length l → image_line first l ≡ None
unfolding image_line
long-image first l h = rw (lt-ltb 32768 (length l) h)

long_ask : (l : List ℕ) → 32768 < length l → ask_of l ≡ None
unfolding ask_of
long_ask l h = rw (lt-ltb 32768 (length l) h)

long-code : (l : List ℕ) → 32768 < length l → board_code l ≡ None
unfolding board_code
long-code l h = rw (lt-ltb 32768 (length l) h)

image_blind : (first : Bool) (card : Card) (arena l : List ℕ) → image_step first card arena (take 32769 l) ≡ image_step first card arena l
unfolding image_step
image_blind first card arena l =
    elim (dec_lt 32768 (length l)) [
      | yes h ↦ rw (long-image first (take 32769 l) (cut_long_lem l h), long-image first l h)
      | no h ↦ rw (take_all 32769 l (omega arith))
    ]

served_blind : (card : Card) (arena : List ℕ) (room : ℕ) (l : List ℕ) → line_served card arena room (take 32769 l) ≡ line_served card arena room l
unfolding line_served
served_blind card arena room l =
    elim (dec_lt 32768 (length l)) [
      | yes h ↦ rw (long_ask (take 32769 l) (cut_long_lem l h), long_ask l h)
      | no h ↦ rw (take_all 32769 l (omega arith))
    ]

refresh_blind : (card : Card) (arena l : List ℕ) (n : ℕ) → board_line_text card arena (take 32769 l) n ≡ board_line_text card arena l n
unfolding board_line_text
refresh_blind card arena l n =
    elim (dec_lt 32768 (length l)) [
      | yes h ↦ rw (long-code (take 32769 l) (cut_long_lem l h), long-code l h)
      | no h ↦ rw (take_all 32769 l (omega arith))
    ]

-- By what the line is taken for.
pub held_blind : (k : Option Kind) (s : Held) (l : List ℕ) → held_by k s (take 32769 l) ≡ held_by k s l
held_blind (Some (kinds.Image first)) s l = rw (image_blind first s.replay.card s.arena l)
held_blind (Some kinds.Request) s l = rw (served_blind s.replay.card s.arena 65536 l)
held_blind (Some kinds.Board) s l = refl
held_blind None s l = refl

pub text_blind : (k : Option Kind) (s : Held) (l : List ℕ) → text_by k s (take 32769 l) ≡ text_by k s l
unfolding request_text
text_blind (Some (kinds.Image first)) s l = rw (image_blind first s.replay.card s.arena l)
text_blind (Some kinds.Request) s l = rw (served_blind s.replay.card s.arena 65536 l)
text_blind (Some kinds.Board) s l = refresh_blind s.replay.card s.arena l (one_more s.replay.asked)
text_blind None s l = refl

pub replay_blind : Blind replay_machine (take 32769)
unfolding line_held line_text
replay_blind = record {
  line = λ s l. ap (λ (k : Option Kind). held_by k s (take 32769 l)) (kind_blind s.replay.phase l) ∙ held_blind (taken_for s.replay.phase l) s l;
  text = λ s l. ap (λ (k : Option Kind). text_by k s (take 32769 l)) (kind_blind s.replay.phase l) ∙ text_blind (taken_for s.replay.phase l) s l;
}
