-- Hex, read in either case and printed in capitals. Assumes nothing.
use Rattle.std.specs.Prelude.{ℕ, ◌+◌, ◌*◌, ◌-◌, ◌/◌, ◌%◌, Bool, false, cond, ◌&&◌, List, [], ◌∷◌, ltb, eqb, length, get_or}
use Rattle.text_numbers.specs.Digit.{digit_of, digits}

-- whether a field is hex in groups of n digits: `-` (45) for none, or whole groups
unfoldable pub grouped : ℕ → List ℕ → Bool
grouped n s =
    cond (eqb (length s) 0) false
    (cond (eqb (length s) 1) (eqb (get_or s 0 0) 45)
    (eqb (length s % n) 0 && digits 16 s))

-- whether a field is hex: `-` for empty, or whole bytes of two digits
-- RULES 11.3
unfoldable pub hex_field : List ℕ → Bool
hex_field s = grouped 2 s

-- one number for each two
unfoldable pub pairs : (ℕ → ℕ → ℕ) → List ℕ → List ℕ
pairs f [] = []
pairs f (x ∷ []) = []
pairs f (x ∷ y ∷ s) = f x y ∷ pairs f s

-- the bytes that a hex field spells: two digits a byte, and none for `-`
-- RULES 11.3
unfoldable pub unhex : List ℕ → List ℕ
unhex s = pairs (λ x y. digit_of x * 16 + digit_of y) s

-- the capital hex digit of a number below 16: 0 to 9 (48 on), then A to F (65 on)
unfoldable pub capital : ℕ → ℕ
capital d = cond (ltb d 10) (48 + d) (65 + (d - 10))

-- bytes as hex, two digits each
unfoldable pub to_hex : List ℕ → List ℕ
to_hex [] = []
to_hex (x ∷ s) = capital (x / 16) ∷ capital (x % 16) ∷ to_hex s

-- bytes as a hex field, `-` if there are none
-- RULES 11.3
unfoldable pub hex_text : List ℕ → List ℕ
hex_text [] = 45 ∷ []
hex_text (x ∷ s) = to_hex (x ∷ s)
