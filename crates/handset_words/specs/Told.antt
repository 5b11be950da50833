-- What a question returns, and the number that it answers with.
use Rattle.std.specs.Prelude.{ℕ, Result, Ok, Err}
use Rattle.handset_words.specs.Outcome.{refused_as}
use Rattle.answers.specs.declared.refusal.Refusal.{Refusal}

-- a number of 16 bits
abbrev pub told_as : Result ℕ Refusal → ℕ
told_as (Ok n) = 0
told_as (Err r) = refused_as r

-- RULES 15.4
abbrev pub told_after : ℕ → Result ℕ Refusal → ℕ
told_after old (Ok n) = n
told_after old (Err r) = old

-- how many nodes are listed
abbrev pub listed_as : Result ℕ Refusal → ℕ
listed_as (Ok n) = 0
listed_as (Err r) = refused_as r

-- RULES 15.4
abbrev pub listed_after : ℕ → Result ℕ Refusal → ℕ
listed_after old (Ok n) = n
listed_after old (Err r) = old
