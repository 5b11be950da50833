-- A whole text salvaged: its image and its report as bytes, and what a caller's buffers hold after it. Assumes nothing.
use Rattle.std.specs.Prelude.{ℕ, ◌≡◌, Bool, List, ◌++◌, length, Option, Some, None, Result, Ok, Err}
use Rattle.answers.specs.declared.refusal.Refusal.TheVariants.{OutputTooShort}
use Rattle.byte_parts.specs.Part.{put}
use Rattle.card_build.specs.declared.card.Card.{Card}
use Rattle.salvage_rule.specs.Salvage.{fresh, salvage_of, report_of}
use Rattle.salvage_line.specs.Image.{imaged, image_builder, added_line, no_image}
use Rattle.salvage_print.specs.Print.{report_text}
use Rattle.salvage_walk.specs.declared.Extent.{Extent}
use Rattle.salvage_walk.specs.Walk.{image_at, report_at, extent_by, WroteIf}
use Rattle.answers.specs.declared.refusal.Refusal.{Refusal}

-- all of a text's image, and its report, as bytes
-- RULES 20.7
unfoldable pub salvaged_text : List ℕ → List ℕ
salvaged_text t = salvage_of image_builder added_line no_image t

-- RULES 20.7
unfoldable pub reported_text : List ℕ → List ℕ
reported_text t = report_text (report_of image_builder added_line no_image t)

-- what is due in two buffers
pub record Due : Type 0 where
  pub image : List ℕ
  pub report : List ℕ

-- of a whole text
abbrev pub due_whole : List ℕ → Due
due_whole t = record { image = salvaged_text t; report = reported_text t }

-- of the lines from a place on, where so many are passed: behind what stands first in each
abbrev pub due_behind : List ℕ → List ℕ → Card → List ℕ → List ℕ → ℕ → ℕ → Due
due_behind head words card arena t lines from =
    record {
      image = head ++ image_at t (fresh (imaged card arena)) from;
      report = words ++ report_at t lines (fresh (imaged card arena)) from;
    }

-- a pass: both lengths, if there is room for both, and both buffers after it
abbrev pub Passed : Bool → Option Extent → Due → List ℕ → List ℕ → List ℕ → List ℕ → Type 0
Passed write r due out report out' report' =
    (r ≡ extent_by (length out) (length report) (length due.image) (length due.report))
    × (WroteIf write r out 0 due.image out' × WroteIf write r report 0 due.report report')

-- the lengths of both, if so much room holds them
abbrev pub extent_of : ℕ → ℕ → List ℕ → Option Extent
extent_of r1 r2 t = extent_by r1 r2 (length (salvaged_text t)) (length (reported_text t))

-- what a caller is told: both lengths, or 48
abbrev pub salvage_answer : Option Extent → Result Extent Refusal
salvage_answer None = Err OutputTooShort
salvage_answer (Some extent) = Ok extent

-- RULES 20.7
abbrev pub salvaged_by : ℕ → ℕ → List ℕ → Result Extent Refusal
salvaged_by r1 r2 t = salvage_answer (extent_of r1 r2 t)

-- a lent buffer after it: as it was where there is no room for both; else with all of its text in front
abbrev pub landed_by : Option Extent → List ℕ → List ℕ → List ℕ
landed_by None d t = d
landed_by (Some extent) d t = put d 0 (length t) t

-- RULES 20.7
abbrev pub image_after : List ℕ → ℕ → List ℕ → List ℕ
image_after out room t = landed_by (extent_of (length out) room t) out (salvaged_text t)

-- RULES 20.7
abbrev pub report_after : ℕ → List ℕ → List ℕ → List ℕ
report_after room report t = landed_by (extent_of room (length report) t) report (reported_text t)
