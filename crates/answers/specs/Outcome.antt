-- What a rule makes of the bytes of a block or a store: the bytes to store, or a fault.
use Rattle.std.specs.Prelude.{ℕ, List, Result, Ok, Err}
use Rattle.answers.specs.declared.status.Fault.{Fault}

pub data Outcome : Type 0 where
  passed : List ℕ → Outcome
  failed : Fault → Outcome

-- what the rule's caller is told
abbrev pub written_of : Outcome → Result Unit Fault
written_of (passed t) = Ok tt
written_of (failed f) = Err f

-- a rule that fails leaves the bytes as they were
abbrev pub bytes_after : List ℕ → Outcome → List ℕ
bytes_after s (passed t) = t
bytes_after s (failed f) = s
