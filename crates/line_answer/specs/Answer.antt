-- The line that answers a request: five fields and the cause, parted by tabs (9) and ended by LF (10).
use Rattle.std.specs.Prelude.{ℕ, cond, List, [], ◌∷◌, ◌++◌, eqb}
use Rattle.byte_parts.specs.Letters.{bang, dash, lf, star, tab}
use Rattle.text_numbers.specs.Decimal.{dec_text}
use Rattle.text_numbers.specs.Hex.{hex_text}
use Rattle.text_print.specs.Print.{closed}
use Rattle.request_plan.specs.declared.Reply.{Reply}
use Rattle.request_plan.specs.declared.Response.{Response}
use Rattle.request_plan.specs.declared.Response.TheVariants.{Pair, Refusal}
use Rattle.request_plan.specs.Request.{response_of, cause_in}

-- five fields parted by tabs
abbrev pub five_fields : List ℕ → List ℕ → List ℕ → List ℕ → List ℕ → List ℕ
five_fields a b c d e = closed tab a ++ closed tab b ++ closed tab c ++ closed tab d ++ e

-- where: `-` (45) for a status flag 1 of 00, `*` (42) for FF, which names no one place of the list, else the place in decimal
unfoldable pub where_text : ℕ → List ℕ
where_text flag = cond (eqb flag 0) (dash ∷ []) (cond (eqb flag 0xff) (star ∷ []) (dec_text flag))

-- ordinal, status flags in hex, where, data read
unfoldable pub status_fields : ℕ → ℕ → ℕ → List ℕ → List ℕ
status_fields ordinal flag1 flag2 read =
    five_fields (dec_text ordinal) (hex_text (flag1 ∷ [])) (hex_text (flag2 ∷ [])) (where_text flag1) (hex_text read)

-- ordinal, `!` (33), the refusal's number, `-`, `-`
unfoldable pub refusal_fields : ℕ → ℕ → List ℕ
refusal_fields ordinal number = five_fields (dec_text ordinal) (bang ∷ []) (dec_text number) (dash ∷ []) (dash ∷ [])

-- a refused request is told by its number, any other by its status pair
abbrev pub response_fields : ℕ → Response → List ℕ → List ℕ
response_fields ordinal (Refusal number) read = refusal_fields ordinal number
response_fields ordinal (Pair flag1 flag2) read = status_fields ordinal flag1 flag2 read

-- RULES 11.10
abbrev pub answer_fields : ℕ → Reply → List ℕ → List ℕ
answer_fields ordinal reply read = response_fields ordinal (response_of reply) read

-- which A5 it was, in decimal; `-` (45) where it was none
-- RULES 11.10
unfoldable pub cause_text : ℕ → List ℕ
cause_text cause = cond (eqb cause 0) (dash ∷ []) (dec_text cause)

-- the whole line
-- RULES 11.10
abbrev pub answer_text : ℕ → Reply → List ℕ → List ℕ
answer_text ordinal reply read = closed tab (answer_fields ordinal reply read) ++ closed lf (cause_text (cause_in reply))

-- the whole line of a refusal, by its number
-- RULES 11.10
abbrev pub refused_text : ℕ → ℕ → List ℕ
refused_text ordinal number = closed tab (refusal_fields ordinal number) ++ closed lf (dash ∷ [])
