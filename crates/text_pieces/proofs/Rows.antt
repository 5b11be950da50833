-- Examples of texts cut into pieces, as antt computes them. Assumes nothing.
use mathlib.Core.Path.{◌≡◌, refl}
use mathlib.Core.List.{[], ◌∷◌}
use Rattle.text_pieces.specs.Piece.{full, bare, pushed_on, pieces_of}

-- Nothing; LF; `a`; `a` LF; `a` LF LF `b`; LF LF.
pub piece_rows
    : (pieces_of [] ≡ [])
    × (pieces_of (10 ∷ []) ≡ full [] ∷ [])
    × (pieces_of (97 ∷ []) ≡ bare (97 ∷ []) ∷ [])
    × (pieces_of (97 ∷ 10 ∷ []) ≡ full (97 ∷ []) ∷ [])
    × (pieces_of (97 ∷ 10 ∷ 10 ∷ 98 ∷ []) ≡ full (97 ∷ []) ∷ full [] ∷ bare (98 ∷ []) ∷ [])
    × (pieces_of (10 ∷ 10 ∷ []) ≡ full [] ∷ full [] ∷ [])
unfolding pushed_on pieces_of
piece_rows = (refl, refl, refl, refl, refl, refl)
