-- Where one may read document 02 otherwise: what the definitions say, as antt computes it, with a small builder. Assumes nothing.
-- A line of this builder is a kind (99 `card`, 97 `area`, 115 `svc`, 108 `lim`, 98 `blk`), a depth, and a byte more where it is to be refused with 13;
-- `area` and `svc` without a depth are malformed (30), and so are a later `card` and an empty line.
use Prim.Native.Nat.{ℕ, ◌+◌}
use mathlib.Core.Path.{◌≡◌, refl}
use mathlib.Core.Bool.{Bool, false, cond, ◌||◌}
use mathlib.Core.List.{List, [], ◌∷◌}
use lib.Dec.{eqb}
use Rattle.text_pieces.specs.Piece.{Piece, full, pushed_on, pieces_of, text_of}
use Rattle.salvage_rule.specs.declared.Depth.{Depth}
use Rattle.salvage_rule.specs.declared.Depth.TheVariants.{Flat, Area, Service}
use Rattle.salvage_rule.specs.declared.Fate.{Fate}
use Rattle.salvage_rule.specs.declared.Fate.TheVariants.{Kept, Parent, Number}
use Rattle.salvage_rule.specs.Salvage.{Ruling, admits, denies, Builder, added, lost, listed, chosen_by, takes_line, fate_of, stepped, fates_from, is_added, fates_of, image_of, salvage_of, report_of}

first_of : List ℕ → Ruling ℕ
first_of [] = denies 30
first_of (k ∷ l) = cond (eqb k 99) (admits 0) (denies 30)

next_of : ℕ → List ℕ → Ruling ℕ
next_of s [] = denies 30
next_of s (k ∷ []) = cond (eqb k 99 || (eqb k 97 || eqb k 115)) (denies 30) (admits (s + 1))
next_of s (k ∷ d ∷ []) = admits (s + 1)
next_of s (k ∷ d ∷ x ∷ l) = denies 13

depth_of : List ℕ → Depth
depth_of [] = Flat
depth_of (k ∷ []) = Flat
depth_of (k ∷ d ∷ l) = cond (eqb k 97) (Area d) (cond (eqb k 115) (Service d) Flat)

is_kind : ℕ → List ℕ → Bool
is_kind k [] = false
is_kind k (x ∷ l) = eqb x k

small : Builder ℕ
small = record { first = first_of; next = next_of; depth = depth_of; svc = is_kind 115; lim = is_kind 108 }

fates : List Piece → List Fate
fates ps = fates_of small (99 ∷ []) 0 ps

-- 1. a kept `blk` does not end a stretch.
-- 2. nor does a kept `lim`.
-- 3. an area within does not narrow it.
-- 4. nor is one within that the builder would refuse told by its number.
-- 5. it begins at depth 0.
-- 6. and at depth 9.
-- 7. at depth 9 it takes depth 10.
-- 8. the line that ends it is judged, and kept if it is accepted; what is deeper then stays.
-- 9. a refused `svc` that is not deeper ends it and begins none.
-- 10. a refused area that is not deeper begins its own.
-- 11. a dropped `svc` begins none.
-- 12. a malformed line has no depth: it is 30 within a stretch, and ends nothing.
-- 13. a malformed area begins none.
-- 14. a second `card` is 30, and a stretch goes on over it.
-- 15. a malformed `svc` takes its limits.
-- 16. a `svc` that a stretch took does too.
-- 17. a malformed `lim` is `parent` there.
-- 18. and has the builder's number elsewhere.
-- 19. any kept line ends that: an area.
-- 20. or a block.
-- 21. no dropped line does.
-- 22. a dropped area takes no limits.
-- 23. line 1 is judged again behind the added line.
-- 24. and may be dropped, with what it takes.
reading_rows
    : (fates (full (99 ∷ []) ∷ full (97 ∷ 1 ∷ 1 ∷ []) ∷ full (98 ∷ []) ∷ full (115 ∷ 2 ∷ []) ∷ []) ≡ Kept ∷ Number 13 ∷ Kept ∷ Parent ∷ [])
    × (fates (full (99 ∷ []) ∷ full (97 ∷ 1 ∷ 1 ∷ []) ∷ full (108 ∷ []) ∷ full (115 ∷ 2 ∷ []) ∷ []) ≡ Kept ∷ Number 13 ∷ Kept ∷ Parent ∷ [])
    × (fates (full (99 ∷ []) ∷ full (97 ∷ 1 ∷ 1 ∷ []) ∷ full (97 ∷ 3 ∷ []) ∷ full (115 ∷ 2 ∷ []) ∷ []) ≡ Kept ∷ Number 13 ∷ Parent ∷ Parent ∷ [])
    × (fates (full (99 ∷ []) ∷ full (97 ∷ 1 ∷ 1 ∷ []) ∷ full (97 ∷ 2 ∷ 1 ∷ []) ∷ full (97 ∷ 2 ∷ []) ∷ []) ≡ Kept ∷ Number 13 ∷ Parent ∷ Parent ∷ [])
    × (fates (full (99 ∷ []) ∷ full (97 ∷ 0 ∷ 1 ∷ []) ∷ full (115 ∷ 1 ∷ []) ∷ full (97 ∷ 5 ∷ []) ∷ []) ≡ Kept ∷ Number 13 ∷ Parent ∷ Parent ∷ [])
    × (fates (full (99 ∷ []) ∷ full (97 ∷ 9 ∷ 1 ∷ []) ∷ full (115 ∷ 9 ∷ []) ∷ full (115 ∷ 10 ∷ []) ∷ []) ≡ Kept ∷ Number 13 ∷ Kept ∷ Kept ∷ [])
    × (fates (full (99 ∷ []) ∷ full (97 ∷ 9 ∷ 1 ∷ []) ∷ full (115 ∷ 10 ∷ []) ∷ full (115 ∷ 9 ∷ []) ∷ []) ≡ Kept ∷ Number 13 ∷ Parent ∷ Kept ∷ [])
    × (fates (full (99 ∷ []) ∷ full (97 ∷ 1 ∷ 1 ∷ []) ∷ full (115 ∷ 2 ∷ []) ∷ full (115 ∷ 1 ∷ []) ∷ full (115 ∷ 2 ∷ []) ∷ []) ≡ Kept ∷ Number 13 ∷ Parent ∷ Kept ∷ Kept ∷ [])
    × (fates (full (99 ∷ []) ∷ full (97 ∷ 1 ∷ 1 ∷ []) ∷ full (115 ∷ 1 ∷ 1 ∷ []) ∷ full (115 ∷ 2 ∷ []) ∷ []) ≡ Kept ∷ Number 13 ∷ Number 13 ∷ Kept ∷ [])
    × (fates (full (99 ∷ []) ∷ full (97 ∷ 2 ∷ 1 ∷ []) ∷ full (97 ∷ 1 ∷ 1 ∷ []) ∷ full (115 ∷ 2 ∷ []) ∷ []) ≡ Kept ∷ Number 13 ∷ Number 13 ∷ Parent ∷ [])
    × (fates (full (99 ∷ []) ∷ full (115 ∷ 1 ∷ 1 ∷ []) ∷ full (115 ∷ 2 ∷ []) ∷ full (97 ∷ 3 ∷ []) ∷ []) ≡ Kept ∷ Number 13 ∷ Kept ∷ Kept ∷ [])
    × (fates (full (99 ∷ []) ∷ full (97 ∷ 1 ∷ 1 ∷ []) ∷ full (97 ∷ []) ∷ full (115 ∷ []) ∷ full (115 ∷ 2 ∷ []) ∷ []) ≡ Kept ∷ Number 13 ∷ Number 30 ∷ Number 30 ∷ Parent ∷ [])
    × (fates (full (99 ∷ []) ∷ full (97 ∷ []) ∷ full (115 ∷ 2 ∷ []) ∷ []) ≡ Kept ∷ Number 30 ∷ Kept ∷ [])
    × (fates (full (99 ∷ []) ∷ full (97 ∷ 1 ∷ 1 ∷ []) ∷ full (99 ∷ []) ∷ full (115 ∷ 2 ∷ []) ∷ []) ≡ Kept ∷ Number 13 ∷ Number 30 ∷ Parent ∷ [])
    × (fates (full (99 ∷ []) ∷ full (115 ∷ []) ∷ full (108 ∷ []) ∷ full (108 ∷ []) ∷ []) ≡ Kept ∷ Number 30 ∷ Parent ∷ Parent ∷ [])
    × (fates (full (99 ∷ []) ∷ full (97 ∷ 1 ∷ 1 ∷ []) ∷ full (115 ∷ 2 ∷ []) ∷ full (108 ∷ []) ∷ []) ≡ Kept ∷ Number 13 ∷ Parent ∷ Parent ∷ [])
    × (fates (full (99 ∷ []) ∷ full (115 ∷ 1 ∷ 1 ∷ []) ∷ full (108 ∷ 0 ∷ 1 ∷ []) ∷ []) ≡ Kept ∷ Number 13 ∷ Parent ∷ [])
    × (fates (full (99 ∷ []) ∷ full (115 ∷ 1 ∷ []) ∷ full (108 ∷ 0 ∷ 1 ∷ []) ∷ []) ≡ Kept ∷ Kept ∷ Number 13 ∷ [])
    × (fates (full (99 ∷ []) ∷ full (115 ∷ 1 ∷ 1 ∷ []) ∷ full (97 ∷ 1 ∷ []) ∷ full (108 ∷ []) ∷ []) ≡ Kept ∷ Number 13 ∷ Kept ∷ Kept ∷ [])
    × (fates (full (99 ∷ []) ∷ full (115 ∷ 1 ∷ 1 ∷ []) ∷ full (98 ∷ []) ∷ full (108 ∷ []) ∷ []) ≡ Kept ∷ Number 13 ∷ Kept ∷ Kept ∷ [])
    × (fates (full (99 ∷ []) ∷ full (115 ∷ 1 ∷ 1 ∷ []) ∷ full (98 ∷ 0 ∷ 1 ∷ []) ∷ full (99 ∷ []) ∷ full (97 ∷ 1 ∷ 1 ∷ []) ∷ full (108 ∷ []) ∷ []) ≡ Kept ∷ Number 13 ∷ Number 13 ∷ Number 30 ∷ Number 13 ∷ Parent ∷ [])
    × (fates (full (99 ∷ []) ∷ full (97 ∷ 1 ∷ 1 ∷ []) ∷ full (108 ∷ []) ∷ []) ≡ Kept ∷ Number 13 ∷ Kept ∷ [])
    × (fates (full (115 ∷ 1 ∷ []) ∷ full (108 ∷ []) ∷ []) ≡ Kept ∷ Kept ∷ [])
    × (fates (full (97 ∷ 1 ∷ 1 ∷ []) ∷ full (115 ∷ 2 ∷ []) ∷ full (99 ∷ []) ∷ []) ≡ Number 13 ∷ Parent ∷ Number 30 ∷ [])
unfolding fates small first_of next_of depth_of is_kind fates_of fates_from fate_of takes_line stepped
reading_rows = (refl, refl, refl, refl, refl, refl, refl, refl, refl, refl, refl, refl, refl, refl, refl, refl, refl, refl, refl, refl, refl, refl, refl, refl)

-- Whole texts: nothing gets the added line; a missing last LF stays missing and none is added; a dropped last line takes its own end with it; a
-- text of one LF is an empty line 1; line numbers are the input's, dropped lines counted.
text_rows_lem
    : (salvage_of small (99 ∷ []) 0 [] ≡ 99 ∷ 10 ∷ [])
    × (report_of small (99 ∷ []) 0 [] ≡ added ∷ [])
    × (salvage_of small (99 ∷ []) 0 (99 ∷ 10 ∷ 98 ∷ []) ≡ 99 ∷ 10 ∷ 98 ∷ [])
    × (salvage_of small (99 ∷ []) 0 (99 ∷ []) ≡ 99 ∷ [])
    × (salvage_of small (99 ∷ []) 0 (99 ∷ 10 ∷ 98 ∷ 10 ∷ 97 ∷ []) ≡ 99 ∷ 10 ∷ 98 ∷ 10 ∷ [])
    × (report_of small (99 ∷ []) 0 (99 ∷ 10 ∷ 98 ∷ 10 ∷ 97 ∷ []) ≡ lost 3 (Number 30) ∷ [])
    × (salvage_of small (99 ∷ []) 0 (10 ∷ []) ≡ 99 ∷ 10 ∷ [])
    × (report_of small (99 ∷ []) 0 (10 ∷ []) ≡ added ∷ lost 1 (Number 30) ∷ [])
    × (salvage_of small (99 ∷ []) 0 (98 ∷ []) ≡ 99 ∷ 10 ∷ 98 ∷ [])
    × (report_of small (99 ∷ []) 0 (97 ∷ 10 ∷ 97 ∷ 1 ∷ 1 ∷ 10 ∷ 98 ∷ 10 ∷ 115 ∷ 2 ∷ []) ≡ added ∷ lost 1 (Number 30) ∷ lost 2 (Number 13) ∷ lost 4 Parent ∷ [])
unfolding small first_of next_of depth_of is_kind fates_of fates_from fate_of takes_line stepped salvage_of report_of image_of is_added listed chosen_by text_of pieces_of pushed_on
text_rows_lem = (refl, refl, refl, refl, refl, refl, refl, refl, refl, refl)
