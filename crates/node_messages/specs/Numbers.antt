-- Numbers of 16 bits one after the other, two bytes each, low byte first.
use Rattle.std.specs.Prelude.{ℕ, zero, suc, List, [], ◌∷◌, ◌++◌, drop}
use Rattle.byte_parts.specs.Half.{half_bytes, half_at}

-- numbers as bytes
unfoldable pub numbers_bytes : List ℕ → List ℕ
numbers_bytes [] = []
numbers_bytes (v ∷ vs) = half_bytes v ++ numbers_bytes vs

-- the first n numbers that bytes make
unfoldable pub numbers_in : ℕ → List ℕ → List ℕ
numbers_in zero s = []
numbers_in (suc n) s = half_at s 0 ∷ numbers_in n (drop 2 s)
