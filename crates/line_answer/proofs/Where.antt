-- Where an error is, and which A5 it was, as text. Assumes nothing.
use Prim.Native.Nat.{ℕ, ◌+◌, ◌<◌}
use mathlib.Core.Path.{◌≡◌, refl}
use mathlib.Core.List.{List, [], ◌∷◌}
use borrow.Author.Tests.{eq-eqb, ne_eqb}
use Rattle.text_numbers.specs.Decimal.{dec_text}
use Rattle.text_numbers.specs.Hex.{hex_text}
use Rattle.text_numbers.proofs.DecimalLaws.{dec_one}
use Rattle.line_answer.specs.Answer.{where_text, five_fields, status_fields, cause_text}

-- No error is nowhere.
pub nowhere : (flag : ℕ) → flag ≡ 0 → where_text flag ≡ 45 ∷ []
unfolding where_text
nowhere flag e = rw (eq-eqb flag 0 e)

-- FF names no place.
pub no_place : (flag : ℕ) → flag ≡ 0xff → where_text flag ≡ 42 ∷ []
unfolding where_text
no_place flag e = rw (e)

-- Any other is where its number says.
pub somewhere : (flag : ℕ) → (flag ≡ 0 → ⊥) → (flag ≡ 0xff → ⊥) → where_text flag ≡ dec_text flag
unfolding where_text
somewhere flag e f = rw (ne_eqb flag 0 e, ne_eqb flag 0xff f)

-- FF is told by `*` whatever its cause.
pub star_of_ff
    : (ordinal flag2 : ℕ) (read : List ℕ)
    → status_fields ordinal 0xff flag2 read ≡ five_fields (dec_text ordinal) (hex_text (0xff ∷ [])) (hex_text (flag2 ∷ [])) (42 ∷ []) (hex_text read)
unfolding status_fields where_text
star_of_ff ordinal flag2 read = refl

-- No cause is `-`.
pub no_cause : (cause : ℕ) → cause ≡ 0 → cause_text cause ≡ 45 ∷ []
unfolding cause_text
no_cause cause e = rw (eq-eqb cause 0 e)

-- A cause is its digit.
pub digit : (cause : ℕ) → (cause ≡ 0 → ⊥) → cause < 10 → cause_text cause ≡ (48 + cause) ∷ []
unfolding cause_text
digit cause e h = rw (ne_eqb cause 0 e) (dec_one cause h)
