-- The limit of a purse.
use Rattle.std.specs.Prelude.{ℕ, ℤ, Option, Some}
use Rattle.service_code.specs.declared.limit.Limit.{Limit}

-- a service whose purse has these bounds, by this setting
abbrev pub limited_to : ℤ → ℤ → ℕ → Option Limit
limited_to upper lower generation = Some (record { upper = upper; lower = lower; generation = generation })
