-- What a line is taken for goes by its first 32,769 bytes: one over the longest line. Assumes nothing.
use Rattle.std.proofs.Common.{None, Some}
use Prim.Native.Nat.{ℕ, zero, suc, ◌<◌}
use native.Mathlib.Omega.{arith}
use native.Mathlib.Decide.{dec_lt}
use mathlib.Core.Path.{◌≡◌, refl, ap}
use mathlib.Core.Bool.{Bool, ◌&&◌}
use mathlib.Core.List.{List, [], ◌∷◌}
use lib.Dec.{eqb}
use lib.ListN.{length, take, get_or}
use lib.Seq.{take_all}
use borrow.Author.Tests.{lt-ltb}
use Rattle.byte_parts.specs.Part.{same_bytes}
use Rattle.text_fields.specs.Field.{split}
use Rattle.line_image.specs.Line.{card_word, area_word, svc_word, lim_word, blk_word, named, image_named}
use Rattle.replay_state.specs.declared.Phase.{Phase}
use Rattle.replay_state.specs.declared.Phase.TheVariants.{First, Image, Requests, Ended}
use Rattle.replay_kind.proofs.Blind.{first_cut, request_blind, board_blind, cut_long_lem}
use Rattle.inspect_ask.specs.Question.{question_of}
use Rattle.inspect_sort.specs.declared.Sort.{Sort}
use Rattle.inspect_sort.specs.Sort.{later_sort, sort_of}

-- A word is told from a field by fewer bytes than are kept.
same_cut_lem : (n : ℕ) (f word : List ℕ) → length word < n → same_bytes (take n f) word ≡ same_bytes f word
unfolding same_bytes
same_cut_lem zero f word h = absurd (omega arith)
same_cut_lem (suc n) [] word h = refl
same_cut_lem (suc n) (x ∷ f) [] h = refl
same_cut_lem (suc n) (x ∷ f) (y ∷ word) h = ap (λ (b : Bool). eqb x y && b) (same_cut_lem n f word (omega arith))

named_blind : (word l : List ℕ) → length word < 32769 → named word (split 9 (take 32769 l)) ≡ named word (split 9 l)
unfolding named
named_blind word l h = rw (first_cut 32769 l) (same_cut_lem 32769 (get_or (split 9 l) 0 []) word h)

image-named_blind : (l : List ℕ) → image_named (split 9 (take 32769 l)) ≡ image_named (split 9 l)
unfolding image_named
image-named_blind l =
    rw (
      named_blind card_word l (omega arith),
      named_blind area_word l (omega arith),
      named_blind svc_word l (omega arith),
      named_blind lim_word l (omega arith),
      named_blind blk_word l (omega arith),
    )

-- A line that is too long asks nothing that is known, whatever it says.
pub long_question : (l : List ℕ) → 32768 < length l → question_of l ≡ None
unfolding question_of
long_question l h = rw (lt-ltb 32768 (length l) h)

question_blind : (l : List ℕ) → question_of (take 32769 l) ≡ question_of l
question_blind l =
    elim (dec_lt 32768 (length l)) [
      | yes h ↦ rw (long_question (take 32769 l) (cut_long_lem l h), long_question l h)
      | no h ↦ rw (take_all 32769 l (omega arith))
    ]

later_blind : (l : List ℕ) → later_sort (take 32769 l) ≡ later_sort l
unfolding later_sort
later_blind l = rw (image-named_blind l, request_blind l, board_blind l, question_blind l)

pub sort_blind : (x : Phase) (l : List ℕ) → sort_of x (take 32769 l) ≡ sort_of x l
unfolding sort_of
sort_blind First l = refl
sort_blind Image l = ap (λ (k : Sort). Some k) (later_blind l)
sort_blind Requests l = ap (λ (k : Sort). Some k) (later_blind l)
sort_blind Ended l = refl
