-- The places that the bits of a status flag 1 denote. Manual, section 4.5.1.
use Rattle.std.specs.Prelude.{ℕ, zero, suc, ◌+◌, ◌/◌, ◌%◌, List, [], ◌∷◌, ◌++◌, length}
use Rattle.byte_parts.specs.Part.{padded}
use Rattle.error_places.specs.declared.Positions.{Positions}

-- a place, if its bit is set
abbrev pub place_if : ℕ → ℕ → List ℕ → List ℕ
place_if zero p ps = ps
place_if (suc b) p ps = p ∷ ps

-- the places of the set bits among a number's d lowest, the lowest bit's place being p
unfoldable pub places_from : ℕ → ℕ → ℕ → List ℕ
places_from zero p v = []
places_from (suc d) p v = place_if (v % 2) p (places_from d (p + 1) (v / 2))

-- the encoding by bits: k + 1 for each set bit k of the eight, and k + 9 if k is at most 6, ascending
-- RULES 4.1
unfoldable pub places_of : ℕ → List ℕ
places_of v = places_from 8 1 v ++ places_from 7 9 v

-- up to 15 places, unused entries 0
-- RULES 4.2
unfoldable pub bitmap_of : ℕ → Positions
bitmap_of v = record { places = padded 15 (places_of v); count = length (places_of v) }
