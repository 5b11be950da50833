-- How long a salvaged image and its report are.
use Rattle.std.specs.Prelude.{ℕ, Option, Some}
use Rattle.salvage_walk.specs.declared.Extent.{Extent}

-- both fit
abbrev pub both_fit : ℕ → ℕ → Option Extent
both_fit image report = Some (record { image = image; report = report })
