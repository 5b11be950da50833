-- An image line, line_carried out on a card and an arena.
use Rattle.std.specs.Prelude.{ℕ, Bool, List, [], length, get_or, Result, Option, Some, None}
use Rattle.byte_parts.specs.Letters.{tab}
use Rattle.answers.specs.declared.refusal.Refusal.TheVariants.{MalformedImage}
use Rattle.text_fields.specs.Field.{split}
use Rattle.text_numbers.specs.Hex.{unhex}
use Rattle.card_build.specs.declared.card.Card.{Card}
use Rattle.card_build.specs.declared.card.Added.{Added}
use Rattle.card_build.specs.Card.{new_card, accepted, refused}
use Rattle.card_build.specs.Build.{area_added, service_added, arena_added, limit_added}
use Rattle.request_block.specs.Block.{block_judged, arena_set}
use Rattle.line_image.specs.declared.line.Line.{Line}
use Rattle.line_image.specs.declared.line.Line.TheVariants.{Card as New, Area, Service, Limit, Block}
use Rattle.line_image.specs.Line.{image_line}
use Rattle.answers.specs.declared.refusal.Refusal.{Refusal}

-- the card handed back with its answer, and the arena after it
pub record Imaged : Type 0 where
  pub added : Added
  pub arena : List ℕ

-- an answer that leaves the card as it was
abbrev pub answered : Card → Result Unit Refusal → Added
answered c x = record { card = c; answer = x }

-- what comes of a line; the last field of `blk` spells the block's bytes
abbrev pub line_carried : Card → List ℕ → List (List ℕ) → Option Line → Imaged
line_carried c a fs None = record { added = refused c MalformedImage; arena = a }
line_carried c a fs (Some (New system)) = record { added = accepted (new_card system); arena = a }
line_carried c a fs (Some (Area depth code end version)) = record { added = area_added c depth code end version; arena = a }
line_carried c a fs (Some (Service depth code blocks version)) =
    record { added = service_added c (length a) depth code blocks version; arena = arena_added c (service_added c (length a) depth code blocks version) a }
line_carried c a fs (Some (Limit upper lower generation)) = record { added = limit_added c upper lower generation; arena = a }
line_carried c a fs (Some (Block code number)) =
    record { added = answered c (block_judged c (length a) code number); arena = arena_set c a code number (unhex (get_or fs 3 [])) }

-- a whole image line, the first of the image or a later one
-- RULES 11.7
unfoldable pub image_step : Bool → Card → List ℕ → List ℕ → Imaged
image_step first c a s = line_carried c a (split tab s) (image_line first s)
