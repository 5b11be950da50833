-- One line of a walk: what is left is what the line gives, and what is left behind it. Assumes nothing.
use Prim.Native.Nat.{ℕ, suc, ◌+◌, ◌≤◌, ◌<◌}
use native.Mathlib.Omega.{arith}
use native.Mathlib.Numerals.{add-one}
use native.Mathlib.Decide.{ℕ_discrete}
use mathlib.Core.Path.{◌≡◌, refl, sym, ap, ◌∙◌}
use mathlib.Core.Bool.{Bool, true, false}
use mathlib.Core.List.{List, [], ◌∷◌, ◌++◌}
use lib.ListN.{length, take, drop, drop_of_length-le}
use lib.Seq.{take_all}
use borrow.Author.Tests.{eq-eqb, ne_eqb}
use Rattle.byte_scan.specs.Bytes.{index_of, index_after}
use Rattle.byte_parts.proofs.Part.{put_zero}
use Rattle.byte_parts.proofs.Put.{put-append}
use Rattle.text_pieces.specs.Piece.{Piece, full, bare, line_of, bytes_of, pieces_of, text_of}
use Rattle.text_pieces.proofs.Pieces.{piece_lf, piece_end}
use Rattle.salvage_rule.specs.declared.Fate.{Fate}
use Rattle.salvage_rule.specs.declared.Fate.TheVariants.{Kept, Parent, Number}
use Rattle.salvage_rule.specs.Salvage.{Builder, Between, Notice, noted, listed, chosen, chosen_by, fates_from, fate_of, stepped}
use Rattle.salvage_print.specs.Print.{said_of, report_text, gain_of, image_left, report_left, put_if}

-- the first piece of a text: k bytes of a line, n bytes in all
pub record Turn (t : List ℕ) (k n : ℕ) : Type 0 where
  pub piece : Piece
  pub pieces : pieces_of t ≡ piece ∷ pieces_of (drop n t)
  pub line : line_of piece ≡ take k t
  pub bytes : bytes_of piece ≡ take n t

take_lf : (t : List ℕ) → index_of 10 t < length t → take (index_of 10 t) t ++ (10 ∷ []) ≡ take (index_of 10 t + 1) t
unfolding index_of index_after
take_lf [] h = absurd (omega arith)
take_lf (x ∷ t) h =
    elim (ℕ_discrete x 10) [
      | yes e ↦ rw (eq-eqb x 10 e, e)
      | no e ↦
          let k : index_of 10 t < length t = omega (arith, rw (ne_eqb x 10 e) at h) in
          rw (ne_eqb x 10 e, add-one (suc (index_of 10 t))) (ap (λ (l : List ℕ). x ∷ l) (rw (add-one (index_of 10 t)) at (take_lf t k)))
    ]

pub turn_lf : (t : List ℕ) (k : ℕ) → k ≡ index_of 10 t → k < length t → Turn t k (k + 1)
turn_lf t k e h =
    let g : index_of 10 t < length t = omega (arith, e, h) in
    rw e record { piece = full (take (index_of 10 t) t); pieces = piece_lf t g; line = refl; bytes = take_lf t g }

pub turn_end : (t : List ℕ) (k : ℕ) → k ≡ index_of 10 t → length t ≤ k → k ≤ length t → 1 ≤ length t → Turn t k k
unfolding pieces_of
turn_end t k e h f g =
    record {
      piece = bare t;
      pieces = piece_end t (omega (arith, e, h)) g ∙ ap (λ (l : List ℕ). bare t ∷ pieces_of l) (sym (drop_of_length-le t h));
      line = sym (take_all k t h);
      bytes = sym (take_all k t h);
    }

module _ {S : Type 0} (B : Builder S) (s : Between S) (t : List ℕ) (k n : ℕ) (w : Turn t k n) where
  chosen-text : (f : Fate) (p : Piece) (ps : List Piece) → text_of (chosen f p ps) ≡ gain_of f (bytes_of p) ++ text_of ps
  unfolding text_of
  chosen-text Kept p ps = refl
  chosen-text Parent p ps = refl
  chosen-text (Number m) p ps = refl

  noted-text : (m : ℕ) (f : Fate) (es : List Notice) → report_text (noted m f es) ≡ said_of m f ++ report_text es
  unfolding report_text
  noted-text m Kept es = refl
  noted-text m Parent es = refl
  noted-text m (Number x) es = refl

  pub image_turn
      : image_left B s (pieces_of t) ≡ gain_of (fate_of B s (take k t)) (take n t) ++ image_left B (stepped B s (take k t)) (pieces_of (drop n t))
  unfolding image_left fates_from chosen_by
  image_turn =
      rw (w.pieces, ← w.line, ← w.bytes)
      (chosen-text (fate_of B s (line_of w.piece)) w.piece
      (chosen_by (fates_from B (stepped B s (line_of w.piece)) (pieces_of (drop n t))) (pieces_of (drop n t))))

  pub report_turn
      : (m : ℕ)
      → report_left B m s (pieces_of t) ≡ said_of (m + 1) (fate_of B s (take k t)) ++ report_left B (m + 1) (stepped B s (take k t)) (pieces_of (drop n t))
  unfolding report_left fates_from listed
  report_turn m =
      rw (w.pieces, ← w.line)
      (noted-text (m + 1) (fate_of B s (line_of w.piece))
      (listed (m + 1 + 1) (fates_from B (stepped B s (line_of w.piece)) (pieces_of (drop n t)))))

-- at the end nothing is left
pub image-none : {S : Type 0} (B : Builder S) (s : Between S) (t : List ℕ) → length t ≡ 0 → image_left B s (pieces_of t) ≡ []
unfolding image_left pieces_of fates_from chosen_by text_of
image-none B s [] e = refl
image-none B s (x ∷ t) e = absurd (omega arith)

pub report-none : {S : Type 0} (B : Builder S) (m : ℕ) (s : Between S) (t : List ℕ) → length t ≡ 0 → report_left B m s (pieces_of t) ≡ []
unfolding report_left pieces_of fates_from listed report_text
report-none B m s [] e = refl
report-none B m s (x ∷ t) e = absurd (omega arith)

-- one put, then what is left
pub put_turn
    : (w : Bool) (d : List ℕ) (at : ℕ) (g rest : List ℕ)
    → put_if w d at (g ++ rest) ≡ put_if w (put_if w d at g) (at + length g) rest
put_turn true d at g rest = sym (put-append d at g rest)
put_turn false d at g rest = refl

pub put-none : (w : Bool) (d : List ℕ) (at : ℕ) (t : List ℕ) → t ≡ [] → put_if w d at t ≡ d
put-none true d at t e = rw e (put_zero d at [])
put-none false d at t e = refl
