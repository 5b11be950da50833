-- A rule sees the bytes of one store or block alone: it is lifted to the whole by one lens.
use Rattle.std.specs.Prelude.{ℕ, List}
use Rattle.byte_parts.specs.Part.{part, put}
use Rattle.answers.specs.Outcome.{Outcome, passed, failed}

unfoldable pub back : List ℕ → ℕ → ℕ → Outcome → Outcome
back s at n (passed t) = passed (put s at n t)
back s at n (failed f) = failed f

-- what a rule makes of the n bytes from a place on, the others left alone
unfoldable pub within : ℕ → ℕ → (List ℕ → Outcome) → List ℕ → Outcome
within at n rule s = back s at n (rule (part s at n))
