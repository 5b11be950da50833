-- What a request line asks. Its fields, from 0: `R` (82) or `W` (87), `O` (79) open or `S` (83) session, codes, element count, list, and
-- for `W` data; exactly so many, and no more than 32,768 bytes in all.
use Rattle.std.specs.Prelude.{ℕ, Bool, cond, ◌&&◌, ◌||◌, List, ltb, eqb, length, get_or, Option, Some, None}
use Rattle.byte_parts.specs.Letters.{tab}
use Rattle.byte_parts.specs.Sizes.{longest_line}
use Rattle.text_fields.specs.Field.{split}
use Rattle.text_numbers.specs.Hex.{hex_field}
use Rattle.text_numbers.specs.Codes.{codes_field}
use Rattle.line_fields.specs.Fields.{number_at}
pub use Rattle.line_fields.specs.Fields.{field_in}
use Rattle.line_request.specs.declared.Ask.{Ask}
use Rattle.line_request.specs.declared.Ask.TheVariants.{Read, Write}

-- whether a field is one letter
unfoldable pub is_letter : ℕ → List ℕ → Bool
is_letter x s = eqb (length s) 1 && eqb (get_or s 0 0) x

-- or one of two
unfoldable pub is_either : ℕ → ℕ → List ℕ → Bool
is_either x y s = is_letter x s || is_letter y s

-- a line whose first field is `R` or `W` is a request
-- RULES 11.5
unfoldable pub request_line : List ℕ → Bool
request_line line = is_either 82 87 (field_in line 0)

-- an open request, `O`, may use no service that needs a key
abbrev pub is_open : List ℕ → Bool
is_open line = is_letter 79 (field_in line 1)

-- whether a line has a first letter and n fields, and kind, codes and list are well formed
unfoldable pub shaped : ℕ → ℕ → List ℕ → Bool
shaped letter n line =
    is_letter letter (field_in line 0)
    && (eqb (length (split tab line)) n
    && (is_either 79 83 (field_in line 1)
    && (codes_field (field_in line 2) && hex_field (field_in line 4))))

-- a write has data too
unfoldable pub is_write : List ℕ → Bool
is_write line = shaped 87 6 line && hex_field (field_in line 5)

-- an element count has 32 bits
abbrev pub count_in : List ℕ → Option ℕ
count_in line = number_at (split tab line) 3 4294967295

abbrev pub counted_ask : List ℕ → Option ℕ → Option Ask
counted_ask line None = None
counted_ask line (Some count) =
    cond (shaped 82 5 line) (Some (Read (is_open line) count)) (cond (is_write line) (Some (Write (is_open line) count)) None)

-- RULES 1.7, 11.8
unfoldable pub ask_of : List ℕ → Option Ask
ask_of line = cond (ltb longest_line (length line)) None (counted_ask line (count_in line))
