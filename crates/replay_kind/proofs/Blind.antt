-- What a line is taken for goes by its first 32,769 bytes: one over the longest line. Assumes nothing.
use Prim.Native.Nat.{ℕ, zero, suc, ◌<◌}
use native.Mathlib.Omega.{arith}
use native.Mathlib.Decide.{ℕ_discrete, dec_lt}
use mathlib.Core.Path.{◌≡◌, refl, sym, ap, ◌∙◌}
use mathlib.Core.List.{List, [], ◌∷◌}
use lib.ListN.{length, take, get_or, length-take}
use lib.Seq.{take_all}
use borrow.Author.Tests.{eq-eqb, ne_eqb}
use Rattle.text_fields.specs.Field.{onto, split}
use Rattle.line_request.specs.Ask.{is_letter, is_either, request_line}
use Rattle.line_request.proofs.Asking.{no_letter_lem}
use Rattle.board_line.specs.Line.{board_line}
use Rattle.replay_state.specs.declared.Phase.{Phase}
use Rattle.replay_state.specs.declared.Phase.TheVariants.{First, Image, Requests, Ended}
use Rattle.replay_kind.specs.Kind.{image_kind, request_kind, taken_for}

-- The first field of the first bytes is the first bytes of the first field.
onto-first : (x : ℕ) (fs : List (List ℕ)) → get_or (onto x fs) 0 [] ≡ x ∷ get_or fs 0 []
onto-first x [] = refl
onto-first x (f ∷ fs) = refl

pub first_cut : (n : ℕ) (s : List ℕ) → get_or (split 9 (take n s)) 0 [] ≡ take n (get_or (split 9 s) 0 [])
unfolding split
first_cut zero s = refl
first_cut (suc n) [] = refl
first_cut (suc n) (x ∷ s) =
    elim (ℕ_discrete x 9) [
      | yes e ↦ rw (eq-eqb x 9 e)
      | no e ↦
          rw (ne_eqb x 9 e, onto-first x (split 9 (take n s)), onto-first x (split 9 s)) (ap (λ (r : List ℕ). x ∷ r) (first_cut n s))
    ]

-- A letter is one byte.
letter_cut : (x : ℕ) (f : List ℕ) → is_letter x (take 32769 f) ≡ is_letter x f
letter_cut x f =
    elim (dec_lt 1 (length f)) [
      | yes h ↦ sym (no_letter_lem x (take 32769 f) (λ e. omega (arith, length-take 32769 f))) ∙ no_letter_lem x f (λ e. omega arith)
      | no h ↦ rw (take_all 32769 f (omega arith))
    ]

pub request_blind : (l : List ℕ) → request_line (take 32769 l) ≡ request_line l
unfolding request_line is_either
request_blind l = rw (first_cut 32769 l, letter_cut 82 (get_or (split 9 l) 0 []), letter_cut 87 (get_or (split 9 l) 0 []))

pub board_blind : (l : List ℕ) → board_line (take 32769 l) ≡ board_line l
unfolding board_line
board_blind l = rw (first_cut 32769 l, letter_cut 76 (get_or (split 9 l) 0 []))

pub kind_blind : (x : Phase) (l : List ℕ) → taken_for x (take 32769 l) ≡ taken_for x l
unfolding taken_for image_kind request_kind
kind_blind First l = refl
kind_blind Image l = rw (board_blind l, request_blind l)
kind_blind Requests l = rw (board_blind l)
kind_blind Ended l = refl

-- A line that is too long is so when it is cut.
pub cut_long_lem : (l : List ℕ) → 32768 < length l → 32768 < length (take 32769 l)
cut_long_lem l h = simp length-take (omega arith)
