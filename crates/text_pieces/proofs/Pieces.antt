-- Pieces of a text give it back; their lines are the text's lines; pieces as a text has them are the pieces of their text. Assumes nothing.
use Prim.Native.Nat.{ℕ, suc, ◌+◌, ◌≤◌, ◌<◌}
use native.Mathlib.Omega.{arith}
use native.Mathlib.Decide.{ℕ_discrete}
use mathlib.Core.Path.{◌≡◌, refl, sym, ap, subst, ◌∙◌}
use mathlib.Core.List.{List, [], ◌∷◌, ◌++◌, append-nil, append_assoc}
use lib.ListN.{length, take, drop}
use native.Mathlib.Numerals.{add-one}
use borrow.Author.Tests.{eq-eqb, ne_eqb}
use Rattle.byte_scan.specs.Bytes.{index_of, index_after}
use Rattle.text_stream.specs.Stream.{pushed, lines_of}
use Rattle.text_pieces.specs.Piece.{Piece, full, bare, pushed_on, pieces_of, text_of, lines_in, Plain, Whole, Sub, finish, keep, skip}

text-pushed : (x : ℕ) (ps : List Piece) → text_of (pushed_on x ps) ≡ x ∷ text_of ps
unfolding text_of pushed_on
text-pushed x [] = refl
text-pushed x (full l ∷ ps) = refl
text-pushed x (bare l ∷ ps) = refl

-- The pieces of a text give it back, byte for byte.
pub text_pieces_lem : (t : List ℕ) → text_of (pieces_of t) ≡ t
unfolding text_of pieces_of
text_pieces_lem [] = refl
text_pieces_lem (x ∷ t) =
    elim (ℕ_discrete x 10) [
      | yes e ↦ rw (eq-eqb x 10 e, text_pieces_lem t, e)
      | no e ↦ rw (ne_eqb x 10 e, text-pushed x (pieces_of t), text_pieces_lem t)
    ]

lines_pushed : (x : ℕ) (ps : List Piece) → lines_in (pushed_on x ps) ≡ pushed x (lines_in ps)
unfolding lines_in pushed_on pushed
lines_pushed x [] = refl
lines_pushed x (full l ∷ ps) = refl
lines_pushed x (bare l ∷ ps) = refl

-- Their lines are the text's lines.
pub lines_pieces : (t : List ℕ) → lines_in (pieces_of t) ≡ lines_of t
unfolding lines_in pieces_of lines_of
lines_pieces [] = refl
lines_pieces (x ∷ t) =
    elim (ℕ_discrete x 10) [
      | yes e ↦ rw (eq-eqb x 10 e, lines_pieces t)
      | no e ↦ rw (ne_eqb x 10 e, lines_pushed x (pieces_of t), lines_pieces t)
    ]

whole-pushed : (x : ℕ) (ps : List Piece) → (x ≡ 10 → ⊥) → Whole ps → Whole (pushed_on x ps)
unfolding Whole Plain pushed_on
whole-pushed x [] n w = ((n, tt), omega arith, refl)
whole-pushed x (full l ∷ ps) n w = ((n, w.0), w.1)
whole-pushed x (bare l ∷ ps) n w = ((n, w.0), omega arith, w.2)

-- A text's pieces are as a text has them.
pub whole_pieces : (t : List ℕ) → Whole (pieces_of t)
unfolding Whole Plain pieces_of
whole_pieces [] = tt
whole_pieces (x ∷ t) =
    elim (ℕ_discrete x 10) [
      | yes e ↦ rw (eq-eqb x 10 e) (tt, whole_pieces t)
      | no e ↦ rw (ne_eqb x 10 e) (whole-pushed x (pieces_of t) e (whole_pieces t))
    ]

pieces_ended : (l t : List ℕ) → Plain l → pieces_of (l ++ (10 ∷ t)) ≡ full l ∷ pieces_of t
unfolding Plain pieces_of pushed_on
pieces_ended [] t p = refl
pieces_ended (x ∷ l) t p = rw (ne_eqb x 10 p.0, pieces_ended l t p.1)

pieces_bare : (x : ℕ) (l : List ℕ) → Plain (x ∷ l) → pieces_of (x ∷ l) ≡ bare (x ∷ l) ∷ []
unfolding Plain pieces_of pushed_on
pieces_bare x [] p = rw (ne_eqb x 10 p.0)
pieces_bare x (y ∷ l) p = rw (ne_eqb x 10 p.0, pieces_bare y l p.1)

-- Pieces as a text has them are the pieces of their text.
pub pieces_text : (ps : List Piece) → Whole ps → pieces_of (text_of ps) ≡ ps
unfolding Whole text_of pieces_of
pieces_text [] w = refl
pieces_text (full l ∷ ps) w =
    rw (append_assoc l (10 ∷ []) (text_of ps), pieces_ended l (text_of ps) w.0, pieces_text ps w.1)
pieces_text (bare [] ∷ ps) w = absurd (omega (arith, w.1))
pieces_text (bare (x ∷ l) ∷ ps) w =
    rw (w.2, append-nil l, pieces_bare x l w.0)

-- Of nothing there is nothing.
pub sub_nil : {A : Type 0} {xs : List A} → Sub xs [] → xs ≡ []
sub_nil finish = refl

sub_none : {A : Type 0} {xs ys : List A} → Sub xs ys → ys ≡ [] → xs ≡ []
sub_none {A} {xs} s e = sub_nil (subst (λ (zs : List A). Sub xs zs) e s)

-- So are some of them, in order.
pub whole_sub : {ps qs : List Piece} → Sub ps qs → Whole qs → Whole ps
unfolding Whole
whole_sub finish w = tt
whole_sub (keep (full l) s) w = (w.0, whole_sub s w.1)
whole_sub (keep (bare l) s) w = (w.0, w.1, sub_none s w.2)
whole_sub (skip (full l) s) w = whole_sub s w.1
whole_sub (skip (bare l) s) w = rw (sub_none s w.2) tt

-- The lines of the text of such pieces are theirs.
pub lines-text : (ps : List Piece) → Whole ps → lines_of (text_of ps) ≡ lines_in ps
lines-text ps w = sym (lines_pieces (text_of ps)) ∙ ap lines_in (pieces_text ps w)

-- The first piece of a text, by where its first LF is found: a LF ends the line before it;
pub piece_lf
    : (t : List ℕ) → index_of 10 t < length t
    → pieces_of t ≡ full (take (index_of 10 t) t) ∷ pieces_of (drop (index_of 10 t + 1) t)
unfolding pieces_of pushed_on index_of index_after
piece_lf [] h = absurd (omega arith)
piece_lf (x ∷ t) h =
    elim (ℕ_discrete x 10) [
      | yes e ↦ rw (eq-eqb x 10 e)
      | no e ↦
          let k : index_of 10 t < length t = omega (arith, rw (ne_eqb x 10 e) at h) in
          rw (ne_eqb x 10 e, add-one (suc (index_of 10 t))) (ap (pushed_on x) (rw (add-one (index_of 10 t)) at (piece_lf t k)))
    ]

-- where there is none the text is one piece.
pub piece_end : (t : List ℕ) → length t ≤ index_of 10 t → 1 ≤ length t → pieces_of t ≡ bare t ∷ []
unfolding pieces_of pushed_on index_of index_after
piece_end [] h g = absurd (omega arith)
piece_end (x ∷ t) h g =
    elim (ℕ_discrete x 10) [
      | yes e ↦ absurd (omega (arith, rw (eq-eqb x 10 e) at h))
      | no e ↦ rw (ne_eqb x 10 e) (last x t (λ k. piece_end t (omega (arith, rw (ne_eqb x 10 e) at h)) k))
    ]
  where
    last : (x : ℕ) (t : List ℕ) → (1 ≤ length t → pieces_of t ≡ bare t ∷ []) → pushed_on x (pieces_of t) ≡ bare (x ∷ t) ∷ []
    last x [] more = refl
    last x (y ∷ t) more = ap (pushed_on x) (more (omega arith))
