-- Examples of answer lines, as antt computes them. Assumes nothing.
use Prim.Native.Nat.{ℕ}
use mathlib.Core.Path.{◌≡◌, refl}
use mathlib.Core.List.{List, [], ◌∷◌}
use Rattle.answers.specs.Refusal.{refusal_number}
use Rattle.answers.specs.declared.refusal.Refusal.{Refusal}
use Rattle.answers.specs.declared.refusal.Refusal.TheVariants.{MalformedRequest}
use Rattle.answers.specs.declared.status.Fault.TheVariants.{KeyNeeded, BlockNumber, SumTooLarge, CyclicTooLong}
use Rattle.text_numbers.specs.Hex.{capital, to_hex, hex_text}
use Rattle.text_numbers.specs.Decimal.{digits_of, dec_text}
use Rattle.request_plan.specs.declared.Reply.TheVariants.{Refused, Done, ShortData, Failed}
use Rattle.line_answer.specs.Answer.{where_text, status_fields, refusal_fields, cause_text, answer_text, refused_text}

-- `1 00 00 - - -`, `2 00 00 - 11AB -`, `3 01 A8 1 - -`, `4 02 A5 2 - 1`,
-- `5 01 A5 1 - 7`, `6 01 AF 1 - -`, `10 FF AC * - -`, `10 FE A8 254 - -`,
-- `10 FF A5 * - 1` (the 255th element), `11 ! 6 - - -` and `12 ! 41 - - -`.
pub answer_rows
    : (answer_text 1 Done [] ≡ 49 ∷ 9 ∷ 48 ∷ 48 ∷ 9 ∷ 48 ∷ 48 ∷ 9 ∷ 45 ∷ 9 ∷ 45 ∷ 9 ∷ 45 ∷ 10 ∷ [])
    × (answer_text 2 Done (17 ∷ 171 ∷ []) ≡ 50 ∷ 9 ∷ 48 ∷ 48 ∷ 9 ∷ 48 ∷ 48 ∷ 9 ∷ 45 ∷ 9 ∷ 49 ∷ 49 ∷ 65 ∷ 66 ∷ 9 ∷ 45 ∷ 10 ∷ [])
    × (answer_text 3 (Failed 0 BlockNumber) [] ≡ 51 ∷ 9 ∷ 48 ∷ 49 ∷ 9 ∷ 65 ∷ 56 ∷ 9 ∷ 49 ∷ 9 ∷ 45 ∷ 9 ∷ 45 ∷ 10 ∷ [])
    × (answer_text 4 (Failed 1 KeyNeeded) [] ≡ 52 ∷ 9 ∷ 48 ∷ 50 ∷ 9 ∷ 65 ∷ 53 ∷ 9 ∷ 50 ∷ 9 ∷ 45 ∷ 9 ∷ 49 ∷ 10 ∷ [])
    × (answer_text 5 (Failed 0 SumTooLarge) [] ≡ 53 ∷ 9 ∷ 48 ∷ 49 ∷ 9 ∷ 65 ∷ 53 ∷ 9 ∷ 49 ∷ 9 ∷ 45 ∷ 9 ∷ 55 ∷ 10 ∷ [])
    × (answer_text 6 (Failed 0 CyclicTooLong) [] ≡ 54 ∷ 9 ∷ 48 ∷ 49 ∷ 9 ∷ 65 ∷ 70 ∷ 9 ∷ 49 ∷ 9 ∷ 45 ∷ 9 ∷ 45 ∷ 10 ∷ [])
    × (answer_text 10 ShortData [] ≡ 49 ∷ 48 ∷ 9 ∷ 70 ∷ 70 ∷ 9 ∷ 65 ∷ 67 ∷ 9 ∷ 42 ∷ 9 ∷ 45 ∷ 9 ∷ 45 ∷ 10 ∷ [])
    × (answer_text 10 (Failed 253 BlockNumber) [] ≡ 49 ∷ 48 ∷ 9 ∷ 70 ∷ 69 ∷ 9 ∷ 65 ∷ 56 ∷ 9 ∷ 50 ∷ 53 ∷ 52 ∷ 9 ∷ 45 ∷ 9 ∷ 45 ∷ 10 ∷ [])
    × (answer_text 10 (Failed 254 KeyNeeded) [] ≡ 49 ∷ 48 ∷ 9 ∷ 70 ∷ 70 ∷ 9 ∷ 65 ∷ 53 ∷ 9 ∷ 42 ∷ 9 ∷ 45 ∷ 9 ∷ 49 ∷ 10 ∷ [])
    × (answer_text 11 (Refused MalformedRequest) [] ≡ 49 ∷ 49 ∷ 9 ∷ 33 ∷ 9 ∷ 54 ∷ 9 ∷ 45 ∷ 9 ∷ 45 ∷ 9 ∷ 45 ∷ 10 ∷ [])
    × (refused_text 12 41 ≡ 49 ∷ 50 ∷ 9 ∷ 33 ∷ 9 ∷ 52 ∷ 49 ∷ 9 ∷ 45 ∷ 9 ∷ 45 ∷ 9 ∷ 45 ∷ 10 ∷ [])
unfolding status_fields refusal_fields where_text cause_text hex_text to_hex capital dec_text digits_of
answer_rows = (refl, refl, refl, refl, refl, refl, refl, refl, refl, refl, refl)

-- A refused request has the line of its refusal's number.
pub refused-line : (ordinal : ℕ) (r : Refusal) (read : List ℕ) → answer_text ordinal (Refused r) read ≡ refused_text ordinal (refusal_number r)
unfolding cause_text
refused-line ordinal r read = refl
