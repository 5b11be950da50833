-- What the fields of a line say. They are parted by tabs (9). Assumes nothing.
use Rattle.std.specs.Prelude.{ℕ, Bool, ◌&&◌, List, [], eqb, ℤ, length, get_or, Option, None, Some}
use Rattle.byte_parts.specs.Letters.{tab}
use Rattle.byte_parts.specs.Part.{same_bytes}
use Rattle.text_fields.specs.Field.{split}
use Rattle.text_numbers.specs.Codes.{hex16}
use Rattle.text_numbers.specs.Decimal.{decimal, signed}

-- field k of a line, from 0; nothing where it has no such field
abbrev pub field_in : List ℕ → ℕ → List ℕ
field_in line k = get_or (split tab line) k []

-- codes and versions are four hex digits; decimals are at most what their field's width holds; bounds have a sign
abbrev pub code_at : List (List ℕ) → ℕ → Option ℕ
code_at fs k = hex16 (get_or fs k [])

abbrev pub number_at : List (List ℕ) → ℕ → ℕ → Option ℕ
number_at fs k most = decimal most (get_or fs k [])

abbrev pub bound_at : List (List ℕ) → ℕ → Option ℤ
bound_at fs k = signed (get_or fs k [])

-- a line goes on with what a field says; where that is malformed, it says `none`
abbrev pub with_code : {A : Type 0} → A → Option ℕ → (ℕ → A) → A
with_code none (Some n) more = more n
with_code none None more = none

abbrev pub with_number : {A : Type 0} → A → Option ℕ → (ℕ → A) → A
with_number none (Some n) more = more n
with_number none None more = none

abbrev pub with_bound : {A : Type 0} → A → Option ℤ → (ℤ → A) → A
with_bound none (Some z) more = more z
with_bound none None more = none

-- whether the first field is this word
unfoldable pub named : List ℕ → List (List ℕ) → Bool
named word fs = same_bytes (get_or fs 0 []) word

-- and there are so many fields in all
unfoldable pub form : List ℕ → ℕ → List (List ℕ) → Bool
form word n fs = named word fs && eqb (length fs) n
