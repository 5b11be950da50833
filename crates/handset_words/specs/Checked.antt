-- What the check of a list returns, and whether the list is well formed.
use Rattle.std.specs.Prelude.{ℕ, Bool, true, false, Result, Ok, Err}
use Rattle.handset_words.specs.Outcome.{refused_as}
use Rattle.answers.specs.declared.refusal.Refusal.{Refusal}

abbrev pub checked_as : Result Bool Refusal → ℕ
checked_as (Ok true) = 0
checked_as (Ok false) = 0
checked_as (Err r) = refused_as r

abbrev pub checked_after : Bool → Result Bool Refusal → Bool
checked_after old (Ok true) = true
checked_after old (Ok false) = false
checked_after old (Err r) = old
