-- Examples of texts cut into lines, as antt computes them. Assumes nothing.
use mathlib.Core.Path.{◌≡◌, refl}
use mathlib.Core.List.{[], ◌∷◌}
use Rattle.text_stream.specs.Stream.{pushed, lines_of}

-- Nothing; LF; `a`; `a` LF; `a` LF LF `b`; `a` CR LF; LF `b`.
pub line_rows
    : (lines_of [] ≡ [])
    × (lines_of (10 ∷ []) ≡ [] ∷ [])
    × (lines_of (97 ∷ []) ≡ (97 ∷ []) ∷ [])
    × (lines_of (97 ∷ 10 ∷ []) ≡ (97 ∷ []) ∷ [])
    × (lines_of (97 ∷ 10 ∷ 10 ∷ 98 ∷ []) ≡ (97 ∷ []) ∷ [] ∷ (98 ∷ []) ∷ [])
    × (lines_of (97 ∷ 13 ∷ 10 ∷ []) ≡ (97 ∷ 13 ∷ []) ∷ [])
    × (lines_of (10 ∷ 98 ∷ []) ≡ [] ∷ (98 ∷ []) ∷ [])
unfolding pushed lines_of
line_rows = (refl, refl, refl, refl, refl, refl, refl)
