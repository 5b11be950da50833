-- The fields of a line. Assumes nothing.
use Rattle.std.specs.Prelude.{ℕ, ◌+◌, cond, List, [], ◌∷◌, eqb, ltb, length}
use Rattle.byte_scan.specs.Bytes.{index_of, slice}
use Rattle.text_fields.specs.declared.Ends.{Ends}

-- a byte ahead of the first field
abbrev pub onto : ℕ → List (List ℕ) → List (List ℕ)
onto x [] = (x ∷ []) ∷ []
onto x (f ∷ fs) = (x ∷ f) ∷ fs

-- what stands between separators: one field more than there are separators
-- RULES 11.2
unfoldable pub split : ℕ → List ℕ → List (List ℕ)
split separator [] = [] ∷ []
split separator (x ∷ s) = cond (eqb x separator) ([] ∷ split separator s) (onto x (split separator s))

-- where the field that starts at a place ends: at the next separator, or with the text
unfoldable pub field_end : ℕ → ℕ → List ℕ → ℕ
field_end separator from s = cond (ltb (length s) from) (length s) (from + index_of separator (slice from (length s) s))

-- where the first six fields end
unfoldable pub ends_of : ℕ → List ℕ → Ends
ends_of separator s =
    let first = field_end separator 0 s in
    let second = field_end separator (first + 1) s in
    let third = field_end separator (second + 1) s in
    let fourth = field_end separator (third + 1) s in
    let fifth = field_end separator (fourth + 1) s in
    record { first = first; second = second; third = third; fourth = fourth; fifth = fifth; sixth = field_end separator (fifth + 1) s }
