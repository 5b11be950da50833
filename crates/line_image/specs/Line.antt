-- What an image line says.
use Rattle.std.specs.Prelude.{ℕ, Bool, true, false, cond, ◌&&◌, ◌||◌, List, [], ◌∷◌, ltb, eqb, length, get_or, Option, Some, None}
use Rattle.byte_parts.specs.Letters.{tab, a, b, c, d, e, i, j, k, l, m, n, o, r, s, v}
use Rattle.byte_parts.specs.Sizes.{longest_line}
use Rattle.byte_parts.specs.Part.{same_bytes}
use Rattle.card_build.specs.Card.{system_of}
use Rattle.text_fields.specs.Field.{split}
use Rattle.text_numbers.specs.Hex.{hex_field}
use Rattle.line_fields.specs.Fields.{code_at, number_at, bound_at, with_code, with_number, with_bound, form}
unfoldable pub use Rattle.line_fields.specs.Fields.{named}
use Rattle.line_image.specs.declared.line.Heading.{Heading}
use Rattle.line_image.specs.declared.line.Line.{Line}
use Rattle.line_image.specs.declared.line.Line.TheVariants.{Card, Area, Service, Limit, Block}

-- `card` code version, and `join` where services may join a store of another count
unfoldable pub card_line : Bool → List (List ℕ) → Option Line
card_line join fs =
    with_code None (code_at fs 1) (λ code.
    with_code None (code_at fs 2) (λ version.
    Some (Card (system_of code version join))))

-- depth, code and version, which `area` and `svc` have in fields 1, 2 and 4
unfoldable pub heading_of : List (List ℕ) → Option Heading
heading_of fs =
    with_number None (number_at fs 1 4294967295) (λ depth.
    with_code None (code_at fs 2) (λ code.
    with_code None (code_at fs 4) (λ version.
    Some (record { depth = depth; code = code; version = version }))))

abbrev pub with_heading : Option Heading → (ℕ → ℕ → ℕ → Option Line) → Option Line
with_heading (Some h) more = more h.depth h.code h.version
with_heading None more = None

-- `area` depth code end version
unfoldable pub area_line : List (List ℕ) → Option Line
area_line fs =
    with_heading (heading_of fs) (λ depth code version.
    with_code None (code_at fs 3) (λ end.
    Some (Area depth code end version)))

-- `svc` depth code blocks version
unfoldable pub service_line : List (List ℕ) → Option Line
service_line fs =
    with_heading (heading_of fs) (λ depth code version.
    with_number None (number_at fs 3 4294967295) (λ blocks.
    Some (Service depth code blocks version)))

-- `lim` upper lower generation
unfoldable pub limit_line : List (List ℕ) → Option Line
limit_line fs =
    with_bound None (bound_at fs 1) (λ upper.
    with_bound None (bound_at fs 2) (λ lower.
    with_number None (number_at fs 3 255) (λ generation.
    Some (Limit upper lower generation))))

-- 32 hex digits, which are sixteen bytes
unfoldable pub hex32 : List ℕ → Bool
hex32 s = eqb (length s) 32 && hex_field s

-- `blk` code number hex32
unfoldable pub block_line : List (List ℕ) → Option Line
block_line fs =
    with_code None (code_at fs 1) (λ code.
    with_number None (number_at fs 2 4294967295) (λ number.
    cond (hex32 (get_or fs 3 [])) (Some (Block code number)) None))

-- the words that name the kinds, and `join`, as bytes
abbrev pub card_word : List ℕ
card_word = c ∷ a ∷ r ∷ d ∷ []

abbrev pub join_word : List ℕ
join_word = j ∷ o ∷ i ∷ n ∷ []

abbrev pub area_word : List ℕ
area_word = a ∷ r ∷ e ∷ a ∷ []

abbrev pub svc_word : List ℕ
svc_word = s ∷ v ∷ c ∷ []

abbrev pub lim_word : List ℕ
lim_word = l ∷ i ∷ m ∷ []

abbrev pub blk_word : List ℕ
blk_word = b ∷ l ∷ k ∷ []

-- whether the first field names a kind of image line, well formed or not
unfoldable pub image_named : List (List ℕ) → Bool
image_named fs = named card_word fs || (named area_word fs || (named svc_word fs || (named lim_word fs || named blk_word fs)))

-- a `card` line that ends with `join`, its fourth field
-- RULES 11.6
unfoldable pub joins : List (List ℕ) → Bool
joins fs = form card_word 4 fs && same_bytes (get_or fs 3 []) join_word

-- line 1 must be `card`, with that field or without it
-- RULES 11.6
unfoldable pub first_line : List (List ℕ) → Option Line
first_line fs = cond (form card_word 3 fs) (card_line false fs) (cond (joins fs) (card_line true fs) None)

-- and no other line may be
-- RULES 11.6
unfoldable pub later_line : List (List ℕ) → Option Line
later_line fs =
    cond (form area_word 5 fs) (area_line fs)
    (cond (form svc_word 5 fs) (service_line fs)
    (cond (form lim_word 4 fs) (limit_line fs)
    (cond (form blk_word 4 fs) (block_line fs) None)))

-- a line of at most 32,768 bytes, its fields parted by tabs (9)
-- RULES 1.7, 11.6
unfoldable pub image_line : Bool → List ℕ → Option Line
image_line first s =
    cond (ltb longest_line (length s)) None
    (cond first (first_line (split tab s)) (later_line (split tab s)))
