-- Fields as they are printed: the byte that ends one, and numbers of 16 bits as four hex digits each.
use Rattle.std.specs.Prelude.{ℕ, ◌/◌, ◌%◌, List, [], ◌∷◌, ◌++◌}
use Rattle.text_numbers.specs.Hex.{hex_text}

-- a field and the byte that ends it
abbrev pub closed : ℕ → List ℕ → List ℕ
closed end t = t ++ (end ∷ [])

-- numbers of 16 bits as bytes, high byte first
unfoldable pub high_first : List ℕ → List ℕ
high_first [] = []
high_first (n ∷ ns) = (n / 256) ∷ (n % 256) ∷ high_first ns

-- so they are four hex digits each, joined; `-` if there are none
abbrev pub four_digits : List ℕ → List ℕ
four_digits ns = hex_text (high_first ns)
