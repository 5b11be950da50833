-- What a question line asks, by its name and its fields; exactly so many, and no more than 32,768 bytes in all.
use Rattle.std.specs.Prelude.{ℕ, cond, List, [], ◌∷◌, ltb, length, get_or, Option, Some, None}
use Rattle.byte_parts.specs.Letters.{tab, a, b, c, d, e, f, i, k, l, m, n, o, r, s, t, u, v}
use Rattle.byte_parts.specs.Sizes.{longest_line}
use Rattle.text_fields.specs.Field.{split}
use Rattle.text_numbers.specs.Hex.{hex_field}
use Rattle.text_numbers.specs.Codes.{codes_field}
use Rattle.line_fields.specs.Fields.{code_at, number_at, with_code, with_number, form}
use Rattle.inspect_ask.specs.declared.Asked.{Asked}
use Rattle.inspect_ask.specs.declared.Asked.TheVariants as asks
use Rattle.inspect_ask.specs.declared.Single.{Single}
use Rattle.inspect_ask.specs.declared.Single.TheVariants as singles
use Rattle.inspect_ask.specs.declared.Question.{Question}
use Rattle.inspect_ask.specs.declared.Question.TheVariants.{Of, Room, Arena}

-- the names of the questions, as bytes
abbrev pub list_name : List ℕ
list_name = l ∷ i ∷ s ∷ t ∷ []

abbrev pub info_name : List ℕ
info_name = i ∷ n ∷ f ∷ o ∷ []

abbrev pub readlist_name : List ℕ
readlist_name = r ∷ e ∷ a ∷ d ∷ l ∷ i ∷ s ∷ t ∷ []

abbrev pub readinfo_name : List ℕ
readinfo_name = r ∷ e ∷ a ∷ d ∷ i ∷ n ∷ f ∷ o ∷ []

abbrev pub total_name : List ℕ
total_name = t ∷ o ∷ t ∷ a ∷ l ∷ []

abbrev pub ver_name : List ℕ
ver_name = v ∷ e ∷ r ∷ []

abbrev pub dir_name : List ℕ
dir_name = d ∷ i ∷ r ∷ []

abbrev pub areas_name : List ℕ
areas_name = a ∷ r ∷ e ∷ a ∷ s ∷ []

abbrev pub svcs_name : List ℕ
svcs_name = s ∷ v ∷ c ∷ s ∷ []

abbrev pub block_name : List ℕ
block_name = b ∷ l ∷ o ∷ c ∷ k ∷ []

abbrev pub used_name : List ℕ
used_name = u ∷ s ∷ e ∷ d ∷ []

abbrev pub attr_name : List ℕ
attr_name = a ∷ t ∷ t ∷ r ∷ []

abbrev pub room_name : List ℕ
room_name = r ∷ o ∷ o ∷ m ∷ []

abbrev pub arena_name : List ℕ
arena_name = a ∷ r ∷ e ∷ n ∷ a ∷ []

-- the most that `room` and `arena` may lend
abbrev pub most_room : ℕ
most_room = 4096

abbrev pub most_arena : ℕ
most_arena = 65536

-- `list` parent packet, of 32 bits
unfoldable pub list_line : List (List ℕ) → Option Question
list_line fs =
    with_code None (code_at fs 1) (λ parent.
    with_number None (number_at fs 2 4294967295) (λ packet.
    Some (Of (asks.List parent packet))))

-- `block` code number, of 32 bits
unfoldable pub block_question : List (List ℕ) → Option Question
block_question fs =
    with_code None (code_at fs 1) (λ code.
    with_number None (number_at fs 2 4294967295) (λ number.
    Some (Of (asks.Block code number))))

-- `total`, `ver`, `attr` code
abbrev pub single_of : Single → ℕ → Asked
single_of singles.Total code = asks.Total code
single_of singles.Version code = asks.Version code
single_of singles.Attribute code = asks.Attribute code

unfoldable pub code_line : Single → List (List ℕ) → Option Question
code_line single fs = with_code None (code_at fs 1) (λ code. Some (Of (single_of single code)))

-- codes joined, or bytes in hex, in field 1
unfoldable pub codes_line : Asked → List (List ℕ) → Option Question
codes_line asked fs = cond (codes_field (get_or fs 1 [])) (Some (Of asked)) None

unfoldable pub bytes_line : Asked → List (List ℕ) → Option Question
bytes_line asked fs = cond (hex_field (get_or fs 1 [])) (Some (Of asked)) None

-- `room` and `arena` length
unfoldable pub room_line : List (List ℕ) → Option Question
room_line fs = with_number None (number_at fs 1 most_room) (λ x. Some (Room x))

unfoldable pub arena_line : List (List ℕ) → Option Question
arena_line fs = with_number None (number_at fs 1 most_arena) (λ x. Some (Arena x))

-- each name with its number of fields; what has none of them is unknown
-- RULES 19.2
unfoldable pub lent_asked : List (List ℕ) → Option Question
lent_asked fs =
    cond (form room_name 2 fs) (room_line fs)
    (cond (form arena_name 2 fs) (arena_line fs) None)

unfoldable pub stored_asked : List (List ℕ) → Option Question
stored_asked fs =
    cond (form block_name 3 fs) (block_question fs)
    (cond (form used_name 1 fs) (Some (Of asks.Used))
    (cond (form attr_name 2 fs) (code_line singles.Attribute fs) (lent_asked fs)))

unfoldable pub lists_asked : List (List ℕ) → Option Question
lists_asked fs =
    cond (form areas_name 2 fs) (codes_line asks.Areas fs)
    (cond (form svcs_name 2 fs) (codes_line asks.Services fs) (stored_asked fs))

-- RULES 19.2
unfoldable pub card_asked : List (List ℕ) → Option Question
card_asked fs =
    cond (form total_name 2 fs) (code_line singles.Total fs)
    (cond (form ver_name 2 fs) (code_line singles.Version fs)
    (cond (form dir_name 1 fs) (Some (Of asks.Directory)) (lists_asked fs)))

unfoldable pub bytes_asked : List (List ℕ) → Option Question
bytes_asked fs =
    cond (form readlist_name 2 fs) (bytes_line asks.ReadList fs)
    (cond (form readinfo_name 2 fs) (bytes_line asks.ReadInfo fs) (card_asked fs))

-- RULES 19.2
unfoldable pub message_asked : List (List ℕ) → Option Question
message_asked fs =
    cond (form list_name 3 fs) (list_line fs)
    (cond (form info_name 2 fs) (codes_line asks.Info fs) (bytes_asked fs))

-- a line of at most 32,768 bytes, its fields parted by tabs (9)
-- RULES 19.1
unfoldable pub question_of : List ℕ → Option Question
question_of line = cond (ltb longest_line (length line)) None (message_asked (split tab line))
