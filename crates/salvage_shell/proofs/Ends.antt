-- What becomes of a text, and where its image and report then stand. Assumes nothing.
use Rattle.std.proofs.Common.{Option, Some, None, Result, Ok, Err}
use Prim.Native.Nat.{ℕ, ◌≤◌, ◌<◌}
use native.Mathlib.Omega.{arith}
use native.Mathlib.Decide.{dec_lt}
use mathlib.Core.Path.{◌≡◌, refl, sym, ap, ◌∙◌}
use mathlib.Core.Bool.{Bool, true, false, false≢true}
use mathlib.Core.List.{List, [], ◌∷◌, ◌++◌}
use lib.ListN.{length, take}
use lib.Seq.{take_all}
use borrow.Author.Tests.{lt-ltb, le-ltb}
use Rattle.byte_parts.specs.Part.{part, put}
use Rattle.byte_parts.proofs.Part.{part-put}
use Rattle.text_numbers.specs.Decimal.{dec_text, digits_of}
use Rattle.answers.specs.declared.refusal.Refusal.{Refusal}
use Rattle.answers.specs.declared.refusal.Refusal.TheVariants.{OutputTooShort}
use Rattle.salvage_walk.specs.declared.Extent.{Extent}
use Rattle.salvage_walk.specs.Extent as lengths
use Rattle.salvage_walk.specs.Walk.{extent_by}
use Rattle.salvage_walk.proofs.Extents.{extent_first, extent_second, extent_fit}
use Rattle.salvage_text.specs.Text.{salvaged_text, reported_text, extent_of, salvage_answer, salvaged_by, landed_by, image_after, report_after}
use Rattle.salvage_shell.specs.Ran.{most_salvaged, salvage_end, prints_by, tells_by, salvage_prints, salvage_tells}
use Rattle.salvage_text.specs.Salvaged.{salvaged_to}

is_done : Result Extent Refusal → Bool
is_done (Ok extent) = true
is_done (Err r) = false

image_in : Result Extent Refusal → ℕ
image_in (Ok extent) = extent.image
image_in (Err r) = 0

report_in : Result Extent Refusal → ℕ
report_in (Ok extent) = extent.report
report_in (Err r) = 0

done_no : {A : Type 0} (a b : ℕ) (r : Refusal) → salvaged_to a b ≡ Err r → A
unfolding is_done
done_no a b r e = absurd (false≢true (sym (ap is_done e)))

-- Both lengths are told where there is room, else 48.
answer-fits : (x : Option Extent) (a b : ℕ) → salvaged_to a b ≡ salvage_answer x → x ≡ lengths.both_fit a b
unfolding image_in report_in
answer-fits None a b e = done_no a b OutputTooShort e
answer-fits (Some extent) a b e = let q : lengths.both_fit a b ≡ lengths.both_fit extent.image extent.report = λ i. lengths.both_fit (ap image_in e i) (ap report_in e i) in sym q

pub answer_short : (x : Option Extent) (r : Refusal) → Err r ≡ salvage_answer x → salvage_answer x ≡ Err OutputTooShort
answer_short None r e = refl
answer_short (Some extent) r e = done_no extent.image extent.report r (sym e)

-- What fits is as long as it is, and lies in its room.
is_fit : Option Extent → Bool
is_fit None = false
is_fit (Some extent) = true

first_in : Option Extent → ℕ
first_in None = 0
first_in (Some extent) = extent.image

second_in : Option Extent → ℕ
second_in None = 0
second_in (Some extent) = extent.report

fits-room : (r1 r2 x y a b : ℕ) → extent_by r1 r2 x y ≡ lengths.both_fit a b → (a ≡ x) × (b ≡ y) × (x ≤ r1) × (y ≤ r2)
unfolding is_fit first_in second_in
fits-room r1 r2 x y a b e =
    elim (dec_lt r1 x) [
      | yes h ↦ absurd (false≢true (ap is_fit (extent_first r1 r2 x y h ∙ e)))
      | no h ↦
          elim (dec_lt r2 y) [
            | yes g ↦ absurd (false≢true (ap is_fit (extent_second r1 r2 x y g ∙ e)))
            | no g ↦
                let m : x ≤ r1 = omega (arith, h) in
                let n : y ≤ r2 = omega (arith, g) in
                let q = extent_fit r1 r2 x y m n ∙ e in
                (sym (ap first_in q), sym (ap second_in q), m, n)
          ]
    ]

-- What was put in front stands there.
front : (d t : List ℕ) (n : ℕ) → n ≡ length t → length t ≤ length d → take n (put d 0 (length t) t) ≡ t
unfolding part
front d t n e h = rw e (part-put d 0 (length t) t (omega arith) (omega arith) ∙ take_all (length t) t (omega arith))

-- The end of a text that is longer than is held, and of one that is not.
pub end-over : (t : List ℕ) → most_salvaged < length t → salvage_end t ≡ Err OutputTooShort
unfolding salvage_end
end-over t h = rw (lt-ltb most_salvaged (length t) h)

end-held : (t : List ℕ) → length t ≤ most_salvaged → salvage_end t ≡ salvaged_by most_salvaged most_salvaged t
unfolding salvage_end
end-held t h = rw (le-ltb most_salvaged (length t) h)

-- Refused, it prints nothing, and is told by `!` and 48.
pub prints_none : (t : List ℕ) → salvage_end t ≡ Err OutputTooShort → salvage_prints t ≡ []
unfolding salvage_prints
prints_none t e = ap (λ (x : Result Extent Refusal). prints_by x t) e

pub tells_none : (t : List ℕ) → salvage_end t ≡ Err OutputTooShort → (33 ∷ 9 ∷ 52 ∷ 56 ∷ 10 ∷ []) ≡ salvage_tells t
unfolding salvage_tells dec_text digits_of
tells_none t e = sym (ap (λ (x : Result Extent Refusal). tells_by x t) e)

-- a text that is held, in rooms of that size
module _ (t out words : List ℕ) (held : length t ≤ most_salvaged) (room : length out ≡ most_salvaged) (space : length words ≡ most_salvaged) where
  rooms : extent_of (length out) (length words) t ≡ extent_of most_salvaged most_salvaged t
  rooms = ap (λ (n : ℕ). extent_of n (length words) t) room ∙ ap (λ (n : ℕ). extent_of most_salvaged n t) space

  pub take-refused : (r : Refusal) → Err r ≡ salvaged_by (length out) (length words) t → salvage_end t ≡ Err OutputTooShort
  take-refused r e =
      end-held t held ∙ answer_short (extent_of most_salvaged most_salvaged t) r (e ∙ ap salvage_answer rooms)

  -- image and report are in their buffers, whole
  pub record Landed (a b : ℕ) (out' words' : List ℕ) : Type 0 where
    pub image : take a out' ≡ salvage_prints t
    pub report : take b words' ≡ salvage_tells t
    pub first : a ≤ length out
    pub second : b ≤ length words

  pub take_done
      : (a b : ℕ) (out' words' : List ℕ) → salvaged_to a b ≡ salvaged_by (length out) (length words) t
      → out' ≡ image_after out (length words) t → words' ≡ report_after (length out) words t → Landed a b out' words'
  unfolding salvage_prints salvage_tells
  take_done a b out' words' e p q =
      let x : extent_of (length out) (length words) t ≡ lengths.both_fit a b = answer-fits (extent_of (length out) (length words) t) a b e in
      let y = fits-room (length out) (length words) (length (salvaged_text t)) (length (reported_text t)) a b x in
      let s : salvage_end t ≡ salvaged_to a b = end-held t held ∙ ap salvage_answer (sym rooms ∙ x) in
      let m : out' ≡ put out 0 (length (salvaged_text t)) (salvaged_text t) = p ∙ ap (λ (z : Option Extent). landed_by z out (salvaged_text t)) x in
      let n : words' ≡ put words 0 (length (reported_text t)) (reported_text t) = q ∙ ap (λ (z : Option Extent). landed_by z words (reported_text t)) x in
      record {
        image = ap (take a) m ∙ front out (salvaged_text t) a y.0 y.2 ∙ sym (ap (λ (z : Result Extent Refusal). prints_by z t) s);
        report = ap (take b) n ∙ front words (reported_text t) b y.1 y.3 ∙ sym (ap (λ (z : Result Extent Refusal). tells_by z t) s);
        first = omega (arith, y.0, y.2);
        second = omega (arith, y.1, y.3);
      }
