-- One answer only: text, and what the stored answers are read with.
use mathlib.Core.Path.{refl}
use Prim.Native.Nat.{ℕ}
use seplogic.Ra.Ura.{Ura}
use base.Logic.{SProp}
use prog.Memory.{Memory}
use prog.Routine.{Routine}
use types.Logic.{Logic}
use contract.Monad.{Fun}
use Rattle.byte_parts.specs.Part.{put}
use Rattle.text_numbers.specs.Codes.{codes_of}
use Rattle.law_once.specs.One.{OneAnswer, OneSeen}
use Rattle.law_once.proofs.Law.{once, once_by, of_two, result}
use Rattle.text_fields.specs.contracts.field_count as text_fields·field-count
use Rattle.text_fields.specs.contracts.field as text_fields·field
use Rattle.text_fields.specs.contracts.find_ends as text_fields·find-ends
use Rattle.text_fields.specs.contracts.field_at as text_fields·field-at
use Rattle.text_fields.specs.contracts.count_at as text_fields·count-at
use Rattle.text_numbers.specs.contracts.digits.digit as text_numbers·digit
use Rattle.text_numbers.specs.contracts.digits.hex_digit as text_numbers·hex-digit
use Rattle.text_numbers.specs.contracts.digits.are_digits as text_numbers·are-digits
use Rattle.text_numbers.specs.contracts.hex.is_hex_field as text_numbers·is-hex-field
use Rattle.text_numbers.specs.contracts.hex.put_bytes as text_numbers·put-bytes
use Rattle.text_numbers.specs.contracts.hex.put_hex_field as text_numbers·put-hex-field
use Rattle.text_numbers.specs.contracts.codes.read_hex16 as text_numbers·read-hex16
use Rattle.text_numbers.specs.contracts.codes.is_codes as text_numbers·is-codes
use Rattle.text_numbers.specs.contracts.codes.read_codes as text_numbers·read-codes
use Rattle.text_numbers.specs.contracts.decimals.read_dec as text_numbers·read-dec
use Rattle.text_numbers.specs.contracts.decimals.read_signed as text_numbers·read-signed
use Rattle.text_numbers.specs.contracts.decimals.put_dec as text_numbers·put-dec
use Rattle.text_print.specs.contracts.put_mark as text_print·put-mark
use Rattle.text_print.specs.contracts.put_word as text_print·put-word
use Rattle.text_print.specs.contracts.put_number as text_print·put-number
use Rattle.text_print.specs.contracts.put_hex as text_print·put-hex
use Rattle.text_print.specs.contracts.put_numbers as text_print·put-numbers
use Rattle.test_stored.specs.contracts.before_all as test_stored·before-all
use Rattle.test_stored.specs.contracts.one_more as test_stored·one-more
use Rattle.test_stored.specs.contracts.number16 as test_stored·number16
use Rattle.test_stored.specs.contracts.number32 as test_stored·number32

module _ {M : Type 1} {𝓤 : Ura M} (𝓛 : Logic 𝓤) (mem : Memory → SProp 𝓤) (run : Routine → Fun 𝓤) where
  pub text_fields·field-count-once : OneAnswer 𝓤 text_fields·field-count.ended (text_fields·field-count.clauses 𝓛 mem run)
  text_fields·field-count-once κs a g r r' ws ws' = result 𝓤 refl

  -- a part of the lent text: its bytes are one answer, and nothing is said of where they lie
  pub text_fields·field-once : OneSeen 𝓤 text_fields·field.ended (text_fields·field.clauses 𝓛 mem run) (λ κs x. x.now)
  text_fields·field-once κs a g r r' ws ws' = result 𝓤 refl

  pub text_fields·find-ends-once : OneAnswer 𝓤 text_fields·find-ends.ended (text_fields·find-ends.clauses 𝓛 mem run)
  text_fields·find-ends-once κs a g r r' ws ws' = result 𝓤 refl

  -- the same of a field by its ends
  pub text_fields·field-at-once : OneSeen 𝓤 text_fields·field-at.ended (text_fields·field-at.clauses 𝓛 mem run) (λ κs x. x.now)
  text_fields·field-at-once κs a g r r' ws ws' = result 𝓤 refl

  pub text_fields·count-at-once : OneAnswer 𝓤 text_fields·count-at.ended (text_fields·count-at.clauses 𝓛 mem run)
  text_fields·count-at-once κs a g r r' ws ws' = result 𝓤 refl

  pub text_numbers·digit-once : OneAnswer 𝓤 text_numbers·digit.ended (text_numbers·digit.clauses 𝓛 mem run)
  text_numbers·digit-once κs a g r r' ws ws' = result 𝓤 refl

  pub text_numbers·hex-digit-once : OneAnswer 𝓤 text_numbers·hex-digit.ended (text_numbers·hex-digit.clauses 𝓛 mem run)
  text_numbers·hex-digit-once κs a g r r' ws ws' = result 𝓤 refl

  pub text_numbers·are-digits-once : OneAnswer 𝓤 text_numbers·are-digits.ended (text_numbers·are-digits.clauses 𝓛 mem run)
  text_numbers·are-digits-once κs a g r r' ws ws' = result 𝓤 refl

  pub text_numbers·is-hex-field-once : OneAnswer 𝓤 text_numbers·is-hex-field.ended (text_numbers·is-hex-field.clauses 𝓛 mem run)
  text_numbers·is-hex-field-once κs a g r r' ws ws' = result 𝓤 refl

  pub text_numbers·put-bytes-once : OneAnswer 𝓤 text_numbers·put-bytes.ended (text_numbers·put-bytes.clauses 𝓛 mem run)
  text_numbers·put-bytes-once κs a g r r' ws ws' = of_two 𝓤 (λ p p' q q'. (once p q, λ i. (tt, (once p' q' i, (tt, tt)))))

  pub text_numbers·put-hex-field-once : OneAnswer 𝓤 text_numbers·put-hex-field.ended (text_numbers·put-hex-field.clauses 𝓛 mem run)
  text_numbers·put-hex-field-once κs a g r r' ws ws' = of_two 𝓤 (λ p p' q q'. (once p q, λ i. (tt, (once p' q' i, (tt, tt)))))

  pub text_numbers·read-hex16-once : OneAnswer 𝓤 text_numbers·read-hex16.ended (text_numbers·read-hex16.clauses 𝓛 mem run)
  text_numbers·read-hex16-once κs a g r r' ws ws' = result 𝓤 refl

  pub text_numbers·is-codes-once : OneAnswer 𝓤 text_numbers·is-codes.ended (text_numbers·is-codes.clauses 𝓛 mem run)
  text_numbers·is-codes-once κs a g r r' ws ws' = result 𝓤 refl

  -- how many are put is said by the result
  pub text_numbers·read-codes-once : OneAnswer 𝓤 text_numbers·read-codes.ended (text_numbers·read-codes.clauses 𝓛 mem run)
  text_numbers·read-codes-once κs a g r r' ws ws' =
      of_two 𝓤 (λ p p' q q'.
      let e = once p q in
      let written = once_by (λ (n : ℕ). put a.1.0.now 0 n (codes_of a.0.now)) e p' q' in
      (e, λ i. (tt, (written i, tt))))

  pub text_numbers·read-dec-once : OneAnswer 𝓤 text_numbers·read-dec.ended (text_numbers·read-dec.clauses 𝓛 mem run)
  text_numbers·read-dec-once κs a g r r' ws ws' = result 𝓤 refl

  pub text_numbers·read-signed-once : OneAnswer 𝓤 text_numbers·read-signed.ended (text_numbers·read-signed.clauses 𝓛 mem run)
  text_numbers·read-signed-once κs a g r r' ws ws' = result 𝓤 refl

  pub text_numbers·put-dec-once : OneAnswer 𝓤 text_numbers·put-dec.ended (text_numbers·put-dec.clauses 𝓛 mem run)
  text_numbers·put-dec-once κs a g r r' ws ws' = of_two 𝓤 (λ p p' q q'. (once p q, λ i. (tt, (once p' q' i, (tt, tt)))))

  pub text_print·put-mark-once : OneAnswer 𝓤 text_print·put-mark.ended (text_print·put-mark.clauses 𝓛 mem run)
  text_print·put-mark-once κs a g r r' ws ws' = of_two 𝓤 (λ p p' q q'. (once p.place q.place, λ i. (tt, (tt, (once p.bytes q.bytes i, (tt, tt))))))

  pub text_print·put-word-once : OneAnswer 𝓤 text_print·put-word.ended (text_print·put-word.clauses 𝓛 mem run)
  text_print·put-word-once κs a g r r' ws ws' = of_two 𝓤 (λ p p' q q'. (once p.place q.place, λ i. (tt, (tt, (once p.bytes q.bytes i, (tt, tt))))))

  pub text_print·put-number-once : OneAnswer 𝓤 text_print·put-number.ended (text_print·put-number.clauses 𝓛 mem run)
  text_print·put-number-once κs a g r r' ws ws' = of_two 𝓤 (λ p p' q q'. (once p.place q.place, λ i. (tt, (tt, (once p.bytes q.bytes i, (tt, tt))))))

  pub text_print·put-hex-once : OneAnswer 𝓤 text_print·put-hex.ended (text_print·put-hex.clauses 𝓛 mem run)
  text_print·put-hex-once κs a g r r' ws ws' = of_two 𝓤 (λ p p' q q'. (once p.place q.place, λ i. (tt, (tt, (once p.bytes q.bytes i, (tt, tt))))))

  pub text_print·put-numbers-once : OneAnswer 𝓤 text_print·put-numbers.ended (text_print·put-numbers.clauses 𝓛 mem run)
  text_print·put-numbers-once κs a g r r' ws ws' = of_two 𝓤 (λ p p' q q'. (once p.place q.place, λ i. (tt, (tt, (once p.bytes q.bytes i, (tt, tt))))))

  pub test_stored·before-all-once : OneAnswer 𝓤 test_stored·before-all.ended (test_stored·before-all.clauses 𝓛 mem run)
  test_stored·before-all-once κs a g r r' ws ws' = result 𝓤 refl

  pub test_stored·one-more-once : OneAnswer 𝓤 test_stored·one-more.ended (test_stored·one-more.clauses 𝓛 mem run)
  test_stored·one-more-once κs a g r r' ws ws' = result 𝓤 refl

  pub test_stored·number16-once : OneAnswer 𝓤 test_stored·number16.ended (test_stored·number16.clauses 𝓛 mem run)
  test_stored·number16-once κs a g r r' ws ws' = result 𝓤 refl

  pub test_stored·number32-once : OneAnswer 𝓤 test_stored·number32.ended (test_stored·number32.clauses 𝓛 mem run)
  test_stored·number32-once κs a g r r' ws ws' = result 𝓤 refl
