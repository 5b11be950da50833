-- What holds of a salvage, for any builder: its image is accepted (E1), in order (E2), a sound text stays (E3), again changes nothing (E4), and
-- the report is exact (E5). Assumes nothing.
use Prim.Native.Nat.{ℕ, suc, ◌+◌}
use native.Mathlib.Omega.{arith}
use mathlib.Core.Path.{◌≡◌, refl, sym, ap, ◌∙◌}
use mathlib.Core.Bool.{Bool, true, false, false≢true}
use mathlib.Core.List.{List, [], ◌∷◌, ◌++◌}
use lib.ListN.{length}
use Rattle.text_stream.specs.Stream.{lines_of}
use Rattle.text_pieces.specs.Piece.{Piece, line_of, pieces_of, text_of, lines_in, Plain, Whole, Sub, finish, keep, skip}
use Rattle.text_pieces.proofs.Pieces.{text_pieces_lem, lines_pieces, whole_pieces, whole_sub, lines-text}
use Rattle.salvage_rule.specs.declared.Fate.{Fate}
use Rattle.salvage_rule.specs.declared.Fate.TheVariants.{Kept, Parent, Number}
use Rattle.salvage_rule.specs.Salvage.{Ruling, admits, denies, go_on, Builder, Between, fresh, listed, chosen, chosen_by, fate_by, built_by, takes_line, fate_of, stepped, stepped_all, fates_from, built_on, build_of, is_added, fates_by, fates_of, image_ahead, report_ahead, image_of, salvage_of, report_of}

-- Chosen pieces are some of the pieces, in order.
pub chosen_sub : (fs : List Fate) (ps : List Piece) → length fs ≡ length ps → Sub (chosen_by fs ps) ps
unfolding chosen_by
chosen_sub [] [] e = finish
chosen_sub [] (p ∷ ps) e = absurd (omega arith)
chosen_sub (f ∷ fs) [] e = absurd (omega arith)
chosen_sub (Kept ∷ fs) (p ∷ ps) e = keep p (chosen_sub fs ps (omega arith))
chosen_sub (Parent ∷ fs) (p ∷ ps) e = skip p (chosen_sub fs ps (omega arith))
chosen_sub (Number n ∷ fs) (p ∷ ps) e = skip p (chosen_sub fs ps (omega arith))

module _ {S : Type 0} (B : Builder S) where
  pub fates_length : (s : Between S) (ps : List Piece) → length (fates_from B s ps) ≡ length ps
  unfolding fates_from
  fates_length s [] = refl
  fates_length s (p ∷ ps) = ap suc (fates_length (stepped B s (line_of p)) ps)

  pub kept_sub : (s : Between S) (ps : List Piece) → Sub (chosen_by (fates_from B s ps) ps) ps
  kept_sub s ps = chosen_sub (fates_from B s ps) ps (fates_length s ps)

  -- one line: what is built goes on exactly over a kept one
  chosen-built
      : (t : Bool) (j : Ruling S) (s : S) (p : Piece) (ps : List Piece) (s'' : S)
      → j ≡ B.next s (line_of p)
      → built_on B (built_by t s j) (lines_in ps) ≡ admits s''
      → built_on B s (lines_in (chosen (fate_by t j) p ps)) ≡ admits s''
  unfolding built_on lines_in go_on
  chosen-built true j s p ps s'' e h = h
  chosen-built false (admits s') s p ps s'' e h = rw (sym e) h
  chosen-built false (denies n) s p ps s'' e h = h

  -- The kept lines are accepted one after the other, and what is built of them is what the walk has built.
  pub kept-built
      : (s : Between S) (ps : List Piece)
      → built_on B s.built (lines_in (chosen_by (fates_from B s ps) ps)) ≡ admits (stepped_all B s ps).built
  unfolding fates_from chosen_by stepped_all fate_of stepped built_on lines_in
  kept-built s [] = refl
  kept-built s (p ∷ ps) =
      chosen-built (takes_line B s (line_of p)) (B.next s.built (line_of p)) s.built p
      (chosen_by (fates_from B (stepped B s (line_of p)) ps) ps) (stepped_all B (stepped B s (line_of p)) ps).built refl
      (kept-built (stepped B s (line_of p)) ps)

  -- Where every line is accepted, none is dropped: the rules never begin.
  is_accepted : Ruling S → Bool
  is_accepted (admits s) = true
  is_accepted (denies n) = false

  pub no_refusal_lem : (n : ℕ) (s : S) → denies n ≡ admits s → ⊥
  unfolding is_accepted
  no_refusal_lem n s e = false≢true (ap is_accepted e)

  abbrev all-kept : ℕ → S → List Piece → Type 0
  all-kept n s ps = (chosen_by (fates_from B (fresh s) ps) ps ≡ ps) × (listed n (fates_from B (fresh s) ps) ≡ [])

  next-kept
      : (n : ℕ) (s s' : S) (p : Piece) (ps : List Piece) (j : Ruling S)
      → B.next s (line_of p) ≡ j
      → ((s'' : S) → built_on B s'' (lines_in ps) ≡ admits s' → all-kept (n + 1) s'' ps)
      → go_on j (λ s''. built_on B s'' (lines_in ps)) ≡ admits s'
      → all-kept n s (p ∷ ps)
  unfolding chosen_by fates_from listed go_on fate_of stepped takes_line
  next-kept n s s' p ps (admits s'') e more h =
      let ih = more s'' h in
      rw e (ap (λ (qs : List Piece). p ∷ qs) ih.0, ih.1)
  next-kept n s s' p ps (denies m) e more h = absurd (no_refusal_lem m s' h)

  sound_on : (n : ℕ) (s s' : S) (ps : List Piece) → built_on B s (lines_in ps) ≡ admits s' → all-kept n s ps
  unfolding built_on lines_in chosen_by fates_from listed
  sound_on n s s' [] h = (refl, refl)
  sound_on n s s' (p ∷ ps) h =
      next-kept n s s' p ps (B.next s (line_of p)) refl (λ s'' k. sound_on (n + 1) s'' s' ps k) h

  module _ (line : List ℕ) (start : S) where
    fates_by_sub : (j : Ruling S) (p : Piece) (ps : List Piece) → Sub (chosen_by (fates_by B line start j p ps) (p ∷ ps)) (p ∷ ps)
    unfolding chosen_by
    fates_by_sub (admits s) p ps = keep p (kept_sub s' ps)
      where
        s' : Between S
        s' = fresh s
    fates_by_sub (denies n) p ps = kept_sub (fresh start) (p ∷ ps)

    fates_sub : (ps : List Piece) → Sub (chosen_by (fates_of B line start ps) ps) ps
    unfolding fates_of chosen_by
    fates_sub [] = finish
    fates_sub (p ∷ ps) = fates_by_sub (B.first (line_of p)) p ps

    -- E2: the image is some of the text's pieces, in order, each with the bytes that ended it, behind the added line where there is one.
    pub kept_in_order
        : (t : List ℕ)
        → (salvage_of B line start t ≡ text_of (image_ahead B line start (is_added B line start (pieces_of t)) ++ chosen_by (fates_of B line start (pieces_of t)) (pieces_of t)))
        × Sub (chosen_by (fates_of B line start (pieces_of t)) (pieces_of t)) (pieces_of t)
    unfolding salvage_of image_of
    kept_in_order t = (refl, fates_sub (pieces_of t))

    -- The line is added exactly where the first line is not accepted as such, or there is none.
    pub added_none : is_added B line start [] ≡ true
    unfolding is_added
    added_none = refl

    pub added-first : (p : Piece) (ps : List Piece) (s : S) → B.first (line_of p) ≡ admits s → is_added B line start (p ∷ ps) ≡ false
    unfolding is_added
    added-first p ps s e = rw e

    pub added-refused : (p : Piece) (ps : List Piece) (n : ℕ) → B.first (line_of p) ≡ denies n → is_added B line start (p ∷ ps) ≡ true
    unfolding is_added
    added-refused p ps n e = rw e

    -- E3: a text whose every line is accepted stays, and nothing is reported.
    first-kept
        : (s' : S) (p : Piece) (ps : List Piece) (j : Ruling S)
        → B.first (line_of p) ≡ j
        → go_on j (λ s. built_on B s (lines_in ps)) ≡ admits s'
        → (image_of B line start (p ∷ ps) ≡ p ∷ ps)
        × (report_ahead B line start (is_added B line start (p ∷ ps)) ++ listed 1 (fates_of B line start (p ∷ ps)) ≡ [])
    unfolding image_of is_added fates_of chosen_by listed go_on
    first-kept s' p ps (admits s) e h =
        let k = sound_on 2 s s' ps h in
        rw e (ap (λ (qs : List Piece). p ∷ qs) k.0, k.1)
    first-kept s' p ps (denies n) e h = absurd (no_refusal_lem n s' h)

    sound_pieces
        : (s' : S) (ps : List Piece) → build_of B (lines_in ps) ≡ admits s'
        → (image_of B line start ps ≡ ps)
        × (report_ahead B line start (is_added B line start ps) ++ listed 1 (fates_of B line start ps) ≡ [])
    unfolding build_of lines_in
    sound_pieces s' [] h = absurd (no_refusal_lem 30 s' h)
    sound_pieces s' (p ∷ ps) h = first-kept s' p ps (B.first (line_of p)) refl h

    pub sound_stays
        : (t : List ℕ) (s' : S) → build_of B (lines_of t) ≡ admits s'
        → (salvage_of B line start t ≡ t) × (report_of B line start t ≡ [])
    unfolding salvage_of report_of
    sound_stays t s' h =
        let k = sound_pieces s' (pieces_of t) (ap (build_of B) (lines_pieces t) ∙ h) in
        (ap text_of k.0 ∙ text_pieces_lem t, k.1)

    -- the builder accepts the added line as line 1, and it is a line
    module _ (begins : B.first line ≡ admits start) (plain : Plain line) where
      whole-ahead : (b : Bool) (ps : List Piece) → Whole ps → Whole (image_ahead B line start b ++ ps)
      unfolding Whole
      whole-ahead true ps w = (plain, w)
      whole-ahead false ps w = w

      whole-image : (ps : List Piece) → Whole ps → Whole (image_of B line start ps)
      unfolding image_of
      whole-image ps w = whole-ahead (is_added B line start ps) (chosen_by (fates_of B line start ps) ps) (whole_sub (fates_sub ps) w)

      -- what the image builds
      abbrev Builds : List Piece → Type 0
      Builds ps = (s : S) × (build_of B (lines_in ps) ≡ admits s)

      first_builds : (p : Piece) (ps : List Piece) (j : Ruling S) → B.first (line_of p) ≡ j → Builds (image_of B line start (p ∷ ps))
      unfolding image_of is_added fates_of chosen_by build_of lines_in go_on
      first_builds p ps (admits s) e = ((stepped_all B (fresh s) ps).built, rw e (rw e (kept-built (fresh s) ps)))
      first_builds p ps (denies n) e =
          ((stepped_all B (fresh start) (p ∷ ps)).built, rw e (rw begins (kept-built (fresh start) (p ∷ ps))))

      image_builds : (ps : List Piece) → Builds (image_of B line start ps)
      unfolding image_of is_added fates_of chosen_by build_of lines_in go_on built_on
      image_builds [] = (start, rw begins)
      image_builds (p ∷ ps) = first_builds p ps (B.first (line_of p)) refl

      -- E1: the lines of the image are accepted one after the other, from nothing.
      pub accepted-whole : (t : List ℕ) → (s : S) × (build_of B (lines_of (salvage_of B line start t)) ≡ admits s)
      unfolding salvage_of
      accepted-whole t =
          let k = image_builds (pieces_of t) in
          (k.0, ap (build_of B) (lines-text (image_of B line start (pieces_of t)) (whole-image (pieces_of t) (whole_pieces t))) ∙ k.1)

      -- E4: a second salvage changes nothing, and reports nothing.
      pub again
          : (t : List ℕ)
          → (salvage_of B line start (salvage_of B line start t) ≡ salvage_of B line start t)
          × (report_of B line start (salvage_of B line start t) ≡ [])
      again t = let k = accepted-whole t in sound_stays (salvage_of B line start t) k.0 k.1
