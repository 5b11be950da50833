-- Numbers of 32 bits: as four bytes, low byte first, and with a sign, in two's complement.
use Rattle.std.specs.Prelude.{ℕ, ◌+◌, ◌-◌, ◌*◌, ◌/◌, ◌%◌, List, [], ◌∷◌, cond, get_or, ltb, ℤ, pos, negsuc}

-- the number that the four bytes from a place on make
unfoldable pub word_at : List ℕ → ℕ → ℕ
word_at s at = get_or s at 0 + 256 * get_or s (at + 1) 0 + 65536 * get_or s (at + 2) 0 + 16777216 * get_or s (at + 3) 0

-- a number as its four bytes
unfoldable pub word_bytes : ℕ → List ℕ
word_bytes v = (v % 256) ∷ (v / 256 % 256) ∷ (v / 65536 % 256) ∷ (v / 16777216 % 256) ∷ []

-- from 2 ^ 31 on a number stands for itself less 2 ^ 32; `negsuc n` is - (n + 1)
unfoldable pub signed_of : ℕ → ℤ
signed_of n = cond (ltb n 2147483648) (pos n) (negsuc (4294967295 - n))

-- and back: the 32 bits of a number of either sign
unfoldable pub word_of : ℤ → ℕ
word_of (pos n) = n
word_of (negsuc n) = 4294967295 - n
