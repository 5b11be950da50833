-- The first element of a list that fails, by its index, and why.
use Rattle.std.specs.Prelude.{ℕ, Result, Err}
use Rattle.answers.specs.declared.status.Fault.{Fault}
use Rattle.answers.specs.declared.status.Failure.{Failure}

-- it failed at this index, with this fault
abbrev pub failed_at : ℕ → Fault → Result Unit Failure
failed_at i f = Err (record { index = i; fault = f })
