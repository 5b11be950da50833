-- What a walk over the lines of a text counts, and what it writes. Assumes nothing.
use Rattle.std.specs.Prelude.{ℕ, ◌≡◌, Bool, true, false, cond, List, ltb, length, drop, Option, Some, None}
use Rattle.byte_parts.specs.Part.{put}
use Rattle.text_pieces.specs.Piece.{pieces_of}
use Rattle.salvage_rule.specs.Salvage.{Between}
use Rattle.salvage_line.specs.Image.{Image, image_builder}
use Rattle.salvage_print.specs.Print.{image_left, report_left}
use Rattle.salvage_walk.specs.declared.Extent.{Extent}
use Rattle.salvage_walk.specs.Extent.{both_fit}

-- what is left of image and report at a place of the text, where so many lines are passed
abbrev pub image_at : List ℕ → Between Image → ℕ → List ℕ
image_at text s at = image_left image_builder s (pieces_of (drop at text))

abbrev pub report_at : List ℕ → ℕ → Between Image → ℕ → List ℕ
report_at text n s at = report_left image_builder n s (pieces_of (drop at text))

-- both lengths, if there is room for both
-- RULES 20.7
unfoldable pub extent_by : ℕ → ℕ → ℕ → ℕ → Option Extent
extent_by r1 r2 a b = cond (ltb r1 a) None (cond (ltb r2 b) None (both_fit a b))

-- a buffer after a walk: as it was, if nothing was to be written; else with what was due in it, if all fits
abbrev pub WroteIf : Bool → Option Extent → List ℕ → ℕ → List ℕ → List ℕ → Type 0
WroteIf false r before at due now = now ≡ before
WroteIf true None before at due now = Unit {0}
WroteIf true (Some extent) before at due now = now ≡ put before at (length due) due
