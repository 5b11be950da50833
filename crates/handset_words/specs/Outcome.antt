-- What a call of the library returns, as one number: 0 where it was done, a status pair as SF1 * 256 + SF2 and the cause of an
-- A5 * 16777216, a refusal as its number * 65536. Whatever else it answers it writes through a reference, which a refusal leaves as it was (proofs/Left.antt).
use Rattle.std.specs.Prelude.{ℕ, ◌*◌, Result, Ok, Err}
use Rattle.answers.specs.declared.refusal.Refusal.{Refusal}
use Rattle.answers.specs.Refusal.{refusal_number}

abbrev pub refusal_as : ℕ → ℕ
refusal_as number = 65536 * number

-- RULES 15.4
abbrev pub refused_as : Refusal → ℕ
refused_as r = refusal_as (refusal_number r)

-- RULES 15.4
abbrev pub answer_as : Result Unit Refusal → ℕ
answer_as (Ok tt) = 0
answer_as (Err r) = refused_as r
