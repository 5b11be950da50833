-- Numbers of 16 bits as two bytes, low byte first.
use Rattle.std.specs.Prelude.{ℕ, ◌+◌, ◌*◌, ◌/◌, ◌%◌, List, [], ◌∷◌, get_or}

-- a number of 16 bits as two bytes
unfoldable pub half_bytes : ℕ → List ℕ
half_bytes v = (v % 256) ∷ (v / 256 % 256) ∷ []

-- the number that two bytes make
unfoldable pub half_at : List ℕ → ℕ → ℕ
half_at s at = get_or s at 0 + 256 * get_or s (at + 1) 0
