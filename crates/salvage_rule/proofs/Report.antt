-- The report is exact (E5): one entry for each line that is gone and none for any other, in rising order; `parent` exactly where one of the two
-- rules takes the line, else the builder's number, said after the kept lines before it. Assumes nothing.
use Prim.Native.Nat.{ℕ, zero, suc, ◌+◌, ◌≤◌, ◌<◌}
use native.Mathlib.Omega.{arith}
use native.Mathlib.Nat.{add-zero}
use mathlib.Core.Path.{◌≡◌, refl, sym, ap, subst, ◌∙◌}
use mathlib.Core.Bool.{Bool, true, false}
use mathlib.Core.List.{List, [], ◌∷◌, ◌++◌}
use lib.ListN.{length, take, get_or}
use borrow.Author.Tests.{eq-eqb, ne_eqb}
use Rattle.text_pieces.specs.Piece.{Piece, bare, line_of, pieces_of}
use Rattle.salvage_rule.specs.declared.Fate.{Fate}
use Rattle.salvage_rule.specs.declared.Fate.TheVariants.{Kept, Parent, Number}
use Rattle.salvage_rule.specs.Salvage.{Ruling, admits, denies, Builder, Between, fresh, Notice, added, lost, noted, listed, takes_line, fate_of, stepped, stepped_all, fates_from, is_added, fates_by, fates_of, report_ahead, report_of, about, Rising}
use Rattle.salvage_rule.proofs.Laws.{fates_length}

-- Of a line before the first number there is no entry.
about_before : (m n : ℕ) (fs : List Fate) → m < n → about m (listed n fs) ≡ []
unfolding about listed
about_before m n [] h = refl
about_before m n (Kept ∷ fs) h = about_before m (n + 1) fs (omega arith)
about_before m n (Parent ∷ fs) h = rw (ne_eqb n m (λ e. omega arith)) (about_before m (n + 1) fs (omega arith))
about_before m n (Number k ∷ fs) h = rw (ne_eqb n m (λ e. omega arith)) (about_before m (n + 1) fs (omega arith))

-- Of a line past the last there is none.
about-past : (m n : ℕ) (fs : List Fate) → n + length fs ≤ m → about m (listed n fs) ≡ []
unfolding about listed
about-past m n [] h = refl
about-past m n (Kept ∷ fs) h = about-past m (n + 1) fs (omega arith)
about-past m n (Parent ∷ fs) h = rw (ne_eqb n m (λ e. omega arith)) (about-past m (n + 1) fs (omega arith))
about-past m n (Number k ∷ fs) h = rw (ne_eqb n m (λ e. omega arith)) (about-past m (n + 1) fs (omega arith))

-- Of any other there is the one that its fate says, or none if it is kept.
about_here : (m : ℕ) (f : Fate) (fs : List Fate) → about m (noted m f (listed (m + 1) fs)) ≡ noted m f []
unfolding about
about_here m Kept fs = about_before m (m + 1) fs (omega arith)
about_here m Parent fs = rw (eq-eqb m m refl) (ap (λ (es : List Notice). lost m Parent ∷ es) (about_before m (m + 1) fs (omega arith)))
about_here m (Number k) fs = rw (eq-eqb m m refl) (ap (λ (es : List Notice). lost m (Number k) ∷ es) (about_before m (m + 1) fs (omega arith)))

about-told : (m n : ℕ) (f : Fate) (es : List Notice) → n < m → about m (noted n f es) ≡ about m es
unfolding about
about-told m n Kept es h = refl
about-told m n Parent es h = rw (ne_eqb n m (λ e. omega arith))
about-told m n (Number k) es h = rw (ne_eqb n m (λ e. omega arith))

pub about-line : (n i : ℕ) (fs : List Fate) → i < length fs → about (n + i) (listed n fs) ≡ noted (n + i) (get_or fs i Kept) []
unfolding listed
about-line n i [] h = absurd (omega arith)
about-line n zero (f ∷ fs) h = rw (add-zero n) (about_here n f fs)
about-line n (suc i) (f ∷ fs) h =
    let e : n + suc i ≡ n + 1 + i = omega arith in
    about-told (n + suc i) n f (listed (n + 1) fs) (omega arith) ∙ rw e (about-line (n + 1) i fs (omega arith))

-- Entries stand in rising order.
rising_told : (n : ℕ) (f : Fate) (es : List Notice) → Rising (n + 1) es → Rising n es → Rising n (noted n f es)
unfolding Rising
rising_told n Kept es h k = k
rising_told n Parent es h k = (omega arith, h)
rising_told n (Number m) es h k = (omega arith, h)

rising_less : (n : ℕ) (es : List Notice) → Rising (n + 1) es → Rising n es
unfolding Rising
rising_less n [] h = tt
rising_less n (added ∷ es) h = h
rising_less n (lost k f ∷ es) h = (omega (arith, h.0), h.1)

pub listed_rising : (n : ℕ) (fs : List Fate) → Rising n (listed n fs)
unfolding listed Rising
listed_rising n [] = tt
listed_rising n (f ∷ fs) =
    let k = listed_rising (n + 1) fs in rising_told n f (listed (n + 1) fs) k (rising_less n (listed (n + 1) fs) k)

module _ {S : Type 0} (B : Builder S) where
  -- `parent` exactly where one of the two rules takes the line.
  pub parent_taken : (s : Between S) (l : List ℕ) → takes_line B s l ≡ true → fate_of B s l ≡ Parent
  unfolding fate_of
  parent_taken s l e = rw e

  -- Else the builder's verdict on what is built of the kept lines before it.
  pub kept-accepted : (s : Between S) (l : List ℕ) (s' : S) → takes_line B s l ≡ false → B.next s.built l ≡ admits s' → fate_of B s l ≡ Kept
  unfolding fate_of
  kept-accepted s l s' e h = rw (e, h)

  pub number-refused : (s : Between S) (l : List ℕ) (n : ℕ) → takes_line B s l ≡ false → B.next s.built l ≡ denies n → fate_of B s l ≡ Number n
  unfolding fate_of
  number-refused s l n e h = rw (e, h)

  -- What comes of the line at i is what comes of it after the lines before it.
  pub fate_at
      : (s : Between S) (ps : List Piece) (i : ℕ) → i < length ps
      → get_or (fates_from B s ps) i Kept ≡ fate_of B (stepped_all B s (take i ps)) (line_of (get_or ps i (bare [])))
  unfolding fates_from stepped_all
  fate_at s [] i h = absurd (omega arith)
  fate_at s (p ∷ ps) zero h = refl
  fate_at s (p ∷ ps) (suc i) h = fate_at (stepped B s (line_of p)) ps i (omega arith)

  module _ (line : List ℕ) (start : S) where
    pub fates_of_length : (ps : List Piece) → length (fates_of B line start ps) ≡ length ps
    unfolding fates_of
    fates_of_length [] = refl
    fates_of_length (p ∷ ps) = by_first (B.first (line_of p))
      where
        by_first : (j : Ruling S) → length (fates_by B line start j p ps) ≡ suc (length ps)
        by_first (admits s) = ap suc (fates_length B (fresh s) ps)
        by_first (denies n) = fates_length B (fresh start) (p ∷ ps)

    about-ahead : (m : ℕ) (b : Bool) (es : List Notice) → about m (report_ahead B line start b ++ es) ≡ about m es
    unfolding about
    about-ahead m true es = refl
    about-ahead m false es = refl

    -- E5: of line i + 1 of the text the report has the one entry that its fate says, and none if it is kept;
    pub report-line
        : (t : List ℕ) (i : ℕ) → i < length (pieces_of t)
        → about (1 + i) (report_of B line start t) ≡ noted (1 + i) (get_or (fates_of B line start (pieces_of t)) i Kept) []
    unfolding report_of
    report-line t i h =
        let ps : List Piece = pieces_of t in
        about-ahead (1 + i) (is_added B line start ps) (listed 1 (fates_of B line start ps))
        ∙ about-line 1 i (fates_of B line start ps) (subst (λ (n : ℕ). i < n) (sym (fates_of_length ps)) h)

    -- of no other number it has any;
    pub report_zero : (t : List ℕ) → about 0 (report_of B line start t) ≡ []
    unfolding report_of
    report_zero t =
        let ps : List Piece = pieces_of t in
        about-ahead 0 (is_added B line start ps) (listed 1 (fates_of B line start ps)) ∙ about_before 0 1 (fates_of B line start ps) (omega arith)

    pub report-past : (t : List ℕ) (m : ℕ) → 1 + length (pieces_of t) ≤ m → about m (report_of B line start t) ≡ []
    unfolding report_of
    report-past t m h =
        let ps : List Piece = pieces_of t in
        about-ahead m (is_added B line start ps) (listed 1 (fates_of B line start ps))
        ∙ about-past m 1 (fates_of B line start ps) (subst (λ (n : ℕ). 1 + n ≤ m) (sym (fates_of_length ps)) h)

    -- entries of lines rise, and the added line's stands ahead of them where there is one.
    pub report_rising
        : (t : List ℕ)
        → (es : List Notice) × (report_of B line start t ≡ report_ahead B line start (is_added B line start (pieces_of t)) ++ es) × Rising 1 es
    unfolding report_of
    report_rising t = (listed 1 (fates_of B line start (pieces_of t)), refl, listed_rising 1 (fates_of B line start (pieces_of t)))

    -- What comes of a line, where line 1 is accepted as such, and where the line is added.
    pub fate_first
        : (p : Piece) (ps : List Piece) (s : S) (i : ℕ) → B.first (line_of p) ≡ admits s → i < length ps
        → (get_or (fates_of B line start (p ∷ ps)) 0 Kept ≡ Kept)
        × (get_or (fates_of B line start (p ∷ ps)) (suc i) Kept ≡ fate_of B (stepped_all B (fresh s) (take i ps)) (line_of (get_or ps i (bare []))))
    unfolding fates_of
    fate_first p ps s i e h = rw e (refl, fate_at (fresh s) ps i h)

    pub fate_added
        : (p : Piece) (ps : List Piece) (n i : ℕ) → B.first (line_of p) ≡ denies n → i < length (p ∷ ps)
        → get_or (fates_of B line start (p ∷ ps)) i Kept ≡ fate_of B (stepped_all B (fresh start) (take i (p ∷ ps))) (line_of (get_or (p ∷ ps) i (bare [])))
    unfolding fates_of
    fate_added p ps n i e h = rw e (fate_at (fresh start) (p ∷ ps) i h)
