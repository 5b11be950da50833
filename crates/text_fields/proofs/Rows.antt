-- Examples of fields, as antt computes them. Assumes nothing.
use mathlib.Core.Path.{◌≡◌, refl}
use mathlib.Core.List.{[], ◌∷◌}
use lib.ListN.{length, get_or}
use Rattle.text_fields.specs.Field.{split}

-- Fields of `R`, tab, tab, `-`: there are three, the second is empty. Nothing is one empty field.
pub field_rows
    : (split 9 (82 ∷ 9 ∷ 9 ∷ 45 ∷ []) ≡ (82 ∷ []) ∷ [] ∷ (45 ∷ []) ∷ [])
    × (length (split 9 (82 ∷ 9 ∷ 9 ∷ 45 ∷ [])) ≡ 3)
    × (get_or (split 9 (82 ∷ 9 ∷ 9 ∷ 45 ∷ [])) 2 [] ≡ 45 ∷ [])
    × (get_or (split 9 (82 ∷ 9 ∷ 9 ∷ 45 ∷ [])) 3 [] ≡ [])
    × (split 9 (9 ∷ []) ≡ [] ∷ [] ∷ [])
    × (split 9 [] ≡ [] ∷ [])
unfolding split
field_rows = (refl, refl, refl, refl, refl, refl)
