-- Inspection tells no more of a line than its first 32,769 bytes: one over the longest line. Assumes nothing.
use Rattle.std.proofs.Common.{Option, Some, None}
use Prim.Native.Nat.{ℕ, ◌<◌}
use native.Mathlib.Omega.{arith}
use native.Mathlib.Decide.{dec_lt}
use mathlib.Core.Path.{◌≡◌, refl, ap, ◌∙◌}
use mathlib.Core.Bool.{Bool, true, false, cond}
use mathlib.Core.List.{List}
use lib.ListN.{length, take}
use lib.Seq.{take_all}
use Rattle.text_fields.specs.Field.{split}
use Rattle.text_stream.specs.Stream.{Blind}
use Rattle.line_image.specs.Line.{image_named}
use Rattle.line_request.specs.Ask.{request_line}
use Rattle.board_line.specs.Line.{board_line}
use Rattle.replay_state.specs.declared.Phase.{Phase}
use Rattle.replay_state.specs.declared.Phase.TheVariants.{First, Image, Requests, Ended}
use Rattle.replay_kind.specs.declared.Kind.{Kind}
use Rattle.replay_kind.specs.declared.Kind.TheVariants as kinds
use Rattle.replay_line.specs.Replay.{Held, held}
use Rattle.replay_line.proofs.Blind.{held_blind, text_blind}
use Rattle.inspect_sort.specs.declared.Sort.{Sort}
use Rattle.inspect_sort.specs.declared.Sort.TheVariants as sorts
use Rattle.inspect_sort.specs.Sort.{later_sort, sort_of}
use Rattle.inspect_sort.proofs.Blind.{long_question, sort_blind}
use Rattle.inspect_line.specs.Inspect.{Seen, replayed_seen, seen_by, said_by, line_seen, line_said, inspect_machine}

-- By what the line is taken for.
seen_blind : (k : Option Sort) (s : Seen) (l : List ℕ) → seen_by k s (take 32769 l) ≡ seen_by k s l
seen_blind (Some (sorts.Replayed kind)) s l = ap (λ (h : Held). replayed_seen s.inspect h) (held_blind (Some kind) (held s.inspect.replay s.arena) l)
seen_blind (Some (sorts.Asked q)) s l = refl
seen_blind None s l = refl

-- What a question prints goes by its line, so the answer to a known one is blind only because its line is not too long.
abbrev SaidBlind : Option Sort → Seen → List ℕ → Type 0
SaidBlind k s l = said_by k s (take 32769 l) ≡ said_by k s l

replayed_said : (kind : Kind) (s : Seen) (l : List ℕ) → SaidBlind (Some (sorts.Replayed kind)) s l
replayed_said kind s l = text_blind (Some kind) (held s.inspect.replay s.arena) l

either : (b : Bool) (x y : Sort) (s : Seen) (l : List ℕ) → SaidBlind (Some x) s l → SaidBlind (Some y) s l → SaidBlind (Some (cond b x y)) s l
either true x y s l p q = p
either false x y s l p q = q

long-said : (s : Seen) (l : List ℕ) → 32768 < length l → SaidBlind (Some (later_sort l)) s l
unfolding later_sort
long-said s l h =
    rw (long_question l h)
    (either (image_named (split 9 l)) (sorts.Replayed (kinds.Image false)) _ s l (replayed_said (kinds.Image false) s l)
    (either (request_line l) (sorts.Replayed kinds.Request) _ s l (replayed_said kinds.Request s l)
    (either (board_line l) (sorts.Replayed kinds.Board) (sorts.Asked None) s l (replayed_said kinds.Board s l) refl)))

later_said : (s : Seen) (l : List ℕ) → SaidBlind (Some (later_sort l)) s l
later_said s l =
    elim (dec_lt 32768 (length l)) [
      | yes h ↦ long-said s l h
      | no h ↦ ap (said_by (Some (later_sort l)) s) (take_all 32769 l (omega arith))
    ]

said_blind : (x : Phase) (s : Seen) (l : List ℕ) → SaidBlind (sort_of x l) s l
unfolding sort_of
said_blind First s l = replayed_said (kinds.Image true) s l
said_blind Image s l = later_said s l
said_blind Requests s l = later_said s l
said_blind Ended s l = refl

pub inspect_blind : Blind inspect_machine (take 32769)
unfolding line_seen line_said
inspect_blind = record {
  line = λ s l.
      ap (λ (k : Option Sort). seen_by k s (take 32769 l)) (sort_blind s.inspect.replay.phase l)
      ∙ seen_blind (sort_of s.inspect.replay.phase l) s l;
  text = λ s l.
      ap (λ (k : Option Sort). said_by k s (take 32769 l)) (sort_blind s.inspect.replay.phase l) ∙ said_blind s.inspect.replay.phase s l;
}
