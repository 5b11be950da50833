-- The laws of a salvage, for card images. Assumes nothing.
use Prim.Native.Nat.{ℕ}
use native.Mathlib.Omega.{arith}
use mathlib.Core.Path.{◌≡◌, refl}
use mathlib.Core.List.{List, []}
use Rattle.byte_parts.specs.Part.{same_bytes}
use Rattle.text_fields.specs.Field.{split}
use Rattle.text_numbers.specs.Digit.{is_between, digit_of, digits, spelt}
use Rattle.text_numbers.specs.Hex.{grouped, hex_field}
use Rattle.text_numbers.specs.Codes.{hex16}
use Rattle.text_stream.specs.Stream.{lines_of}
use Rattle.text_pieces.specs.Piece.{Plain}
use Rattle.line_image.specs.Line.{card_line, named, joins, first_line, image_line}
use Rattle.line_fields.specs.Fields.{form}
use Rattle.line_build.specs.Image.{image_step}
use Rattle.salvage_rule.specs.Salvage.{admits, build_of, salvage_of, report_of}
use Rattle.salvage_rule.proofs.Laws.{accepted-whole, sound_stays, again}
use Rattle.salvage_line.specs.Image.{Image, no_image, line_ruled, image_builder, added_line}

-- The added line is a line, and is accepted as line 1.
pub added-plain : Plain added_line
unfolding Plain
added-plain = ((λ e. omega arith), ((λ e. omega arith), ((λ e. omega arith), ((λ e. omega arith), ((λ e. omega arith), ((λ e. omega arith), ((λ e. omega arith), ((λ e. omega arith), ((λ e. omega arith), ((λ e. omega arith), ((λ e. omega arith), ((λ e. omega arith), ((λ e. omega arith), ((λ e. omega arith), tt))))))))))))))

pub added_begins : image_builder.first added_line ≡ admits no_image
unfolding line_ruled image_step is_between digit_of digits spelt grouped hex_field hex16 split same_bytes named form joins card_line first_line image_line
added_begins = refl

-- E1, E3, E4 for card images, with the card's own builder; E2 and E5 need no premise and are cited as they stand.
pub image-accepted : (t : List ℕ) → (i : Image) × (build_of image_builder (lines_of (salvage_of image_builder added_line no_image t)) ≡ admits i)
image-accepted = accepted-whole image_builder added_line no_image added_begins added-plain

pub image-stays
    : (t : List ℕ) (i : Image) → build_of image_builder (lines_of t) ≡ admits i
    → (salvage_of image_builder added_line no_image t ≡ t) × (report_of image_builder added_line no_image t ≡ [])
image-stays = sound_stays image_builder added_line no_image

pub image-again
    : (t : List ℕ)
    → (salvage_of image_builder added_line no_image (salvage_of image_builder added_line no_image t) ≡ salvage_of image_builder added_line no_image t)
    × (report_of image_builder added_line no_image (salvage_of image_builder added_line no_image t) ≡ [])
image-again = again image_builder added_line no_image added_begins added-plain
