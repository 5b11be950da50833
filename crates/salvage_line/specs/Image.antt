-- The builder of card images, as a salvage asks it: a card and an arena of 65,536 bytes.
use Rattle.std.specs.Prelude.{ℕ, Bool, true, false, List, [], ◌∷◌, replicate, Result, Ok, Err, Option, Some, None}
use Rattle.byte_parts.specs.Letters.{tab}
use Rattle.answers.specs.Refusal.{refusal_number}
use Rattle.text_fields.specs.Field.{split}
use Rattle.card_build.specs.declared.card.Card.{Card}
use Rattle.card_build.specs.Card.{system_of, new_card}
use Rattle.line_image.specs.declared.line.Line.{Line}
use Rattle.line_image.specs.declared.line.Line.TheVariants as lines
use Rattle.line_fields.specs.Fields.{named}
use Rattle.line_image.specs.Line.{svc_word, lim_word, image_line}
use Rattle.line_build.specs.Image.{Imaged, image_step}
use Rattle.salvage_rule.specs.declared.Depth.{Depth}
use Rattle.salvage_rule.specs.declared.Depth.TheVariants.{Flat, Area, Service}
use Rattle.salvage_rule.specs.declared.Fate.{Fate}
use Rattle.salvage_rule.specs.declared.Fate.TheVariants.{Kept, Number}
use Rattle.salvage_rule.specs.declared.Rules.{Rules}
use Rattle.salvage_rule.specs.Salvage.{Ruling, admits, denies, Builder, Between}
use Rattle.answers.specs.declared.refusal.Refusal.{Refusal}

-- what is built: a card, and the arena with its stored blocks
pub record Image : Type 0 where
  pub card : Card
  pub arena : List ℕ

abbrev pub imaged : Card → List ℕ → Image
imaged c a = record { card = c; arena = a }

-- a line's answer, as a salvage takes it
abbrev pub ruling_by : Result Unit Refusal → Image → Ruling Image
ruling_by (Ok tt) i = admits i
ruling_by (Err r) i = denies (refusal_number r)

abbrev pub ruling_of : Imaged → Ruling Image
ruling_of m = ruling_by m.added.answer (imaged m.added.card m.arena)

-- what comes of a line that the builder judged
abbrev pub fate_on : Result Unit Refusal → Fate
fate_on (Ok tt) = Kept
fate_on (Err r) = Number (refusal_number r)

-- ahead of line 1 there is no card yet; an empty one stands in its place, as in a replay
abbrev pub no_image : Image
no_image = imaged (new_card (system_of 0 0 false)) (replicate 65536 0)

unfoldable pub line_ruled : Bool → Image → List ℕ → Ruling Image
line_ruled first i l = ruling_of (image_step first i.card i.arena l)

-- well-formed `area` and `svc` lines have a depth
abbrev pub depth_by : Option Line → Depth
depth_by None = Flat
depth_by (Some (lines.Card system)) = Flat
depth_by (Some (lines.Area depth code end version)) = Area depth
depth_by (Some (lines.Service depth code blocks version)) = Service depth
depth_by (Some (lines.Limit upper lower generation)) = Flat
depth_by (Some (lines.Block code number)) = Flat

-- RULES 20.4
unfoldable pub depth_of : List ℕ → Depth
depth_of l = depth_by (image_line false l)

-- RULES 20.5
unfoldable pub is_word : List ℕ → List ℕ → Bool
is_word word l = named word (split tab l)

-- RULES 20.2
abbrev pub image_builder : Builder Image
image_builder =
    record {
      first = line_ruled true no_image;
      next = line_ruled false;
      depth = depth_of;
      svc = is_word svc_word;
      lim = is_word lim_word;
    }

-- the added line: `card` 0000 0000
abbrev pub added_line : List ℕ
added_line = 99 ∷ 97 ∷ 114 ∷ 100 ∷ 9 ∷ 48 ∷ 48 ∷ 48 ∷ 48 ∷ 9 ∷ 48 ∷ 48 ∷ 48 ∷ 48 ∷ []

-- a salvage between two lines
abbrev pub held_of : Card → List ℕ → Rules → Between Image
held_of c a r = record { built = imaged c a; rules = r }
