-- Where a new service's store lies.
use Rattle.std.specs.Prelude.{ℕ, Result, Ok}
use Rattle.answers.specs.declared.refusal.Refusal.{Refusal}
use Rattle.card_admit.specs.declared.Placed.{Placed}

-- a store of so many blocks from this one on, after which so many are in use
abbrev pub placed_at : ℕ → ℕ → ℕ → Result Placed Refusal
placed_at start blocks used = Ok (record { start = start; blocks = blocks; used = used })
