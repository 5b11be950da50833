-- How a salvage ended.
use Rattle.std.specs.Prelude.{ℕ, Result, Ok}
use Rattle.answers.specs.declared.refusal.Refusal.{Refusal}
use Rattle.salvage_walk.specs.declared.Extent.{Extent}

-- with an image and a report of these lengths
abbrev pub salvaged_to : ℕ → ℕ → Result Extent Refusal
salvaged_to image report = Ok (record { image = image; report = report })
