-- Examples of what lines are taken for, as antt computes them. Assumes nothing.
use Rattle.std.proofs.Common.{Some, None}
use mathlib.Core.Path.{◌≡◌, refl}
use mathlib.Core.Bool.{true, false}
use mathlib.Core.List.{[], ◌∷◌}
use Rattle.text_fields.specs.Field.{split}
use Rattle.line_request.specs.Ask.{is_letter, is_either, request_line}
use Rattle.board_line.specs.Line.{board_line}
use Rattle.replay_state.specs.declared.Phase.TheVariants.{First, Image, Requests, Ended}
use Rattle.replay_kind.specs.declared.Kind.TheVariants as kinds
use Rattle.replay_kind.specs.Kind.{image_kind, request_kind, taken_for}

-- Line 1, whatever it says; a later line of the image, `svc`, a second `card`, an empty one, `r`, `RW`, and what ends the image, `R`, `W`
-- and `L`; a line after it, of which `L` alone is a refresh; and one after the end of the run.
pub kind_rows
    : (taken_for First (99 ∷ 97 ∷ 114 ∷ 100 ∷ 9 ∷ 48 ∷ 48 ∷ 48 ∷ 49 ∷ 9 ∷ 48 ∷ 48 ∷ 48 ∷ 48 ∷ []) ≡ Some (kinds.Image true))
    × (taken_for First (82 ∷ []) ≡ Some (kinds.Image true))
    × (taken_for First (76 ∷ 9 ∷ 49 ∷ 48 ∷ 52 ∷ 66 ∷ []) ≡ Some (kinds.Image true))
    × (taken_for Image (115 ∷ 118 ∷ 99 ∷ 9 ∷ 49 ∷ 9 ∷ 49 ∷ 48 ∷ 52 ∷ 57 ∷ 9 ∷ 56 ∷ 9 ∷ 48 ∷ 48 ∷ 48 ∷ 48 ∷ []) ≡ Some (kinds.Image false))
    × (taken_for Image (99 ∷ 97 ∷ 114 ∷ 100 ∷ 9 ∷ 48 ∷ 48 ∷ 48 ∷ 49 ∷ 9 ∷ 48 ∷ 48 ∷ 48 ∷ 48 ∷ []) ≡ Some (kinds.Image false))
    × (taken_for Image [] ≡ Some (kinds.Image false))
    × (taken_for Image (114 ∷ []) ≡ Some (kinds.Image false))
    × (taken_for Image (82 ∷ 87 ∷ []) ≡ Some (kinds.Image false))
    × (taken_for Image (82 ∷ []) ≡ Some kinds.Request)
    × (taken_for Image (87 ∷ 9 ∷ 79 ∷ []) ≡ Some kinds.Request)
    × (taken_for Image (76 ∷ []) ≡ Some kinds.Board)
    × (taken_for Requests (82 ∷ []) ≡ Some kinds.Request)
    × (taken_for Requests (115 ∷ 118 ∷ 99 ∷ 9 ∷ 49 ∷ 9 ∷ 49 ∷ 48 ∷ 52 ∷ 57 ∷ 9 ∷ 56 ∷ 9 ∷ 48 ∷ 48 ∷ 48 ∷ 48 ∷ []) ≡ Some kinds.Request)
    × (taken_for Requests [] ≡ Some kinds.Request)
    × (taken_for Requests (108 ∷ []) ≡ Some kinds.Request)
    × (taken_for Requests (76 ∷ 9 ∷ 49 ∷ 48 ∷ 52 ∷ 66 ∷ []) ≡ Some kinds.Board)
    × (taken_for Ended (82 ∷ []) ≡ None)
    × (taken_for Ended (76 ∷ 9 ∷ 49 ∷ 48 ∷ 52 ∷ 66 ∷ []) ≡ None)
unfolding taken_for image_kind request_kind board_line request_line is_either is_letter split
kind_rows = (refl, refl, refl, refl, refl, refl, refl, refl, refl, refl, refl, refl, refl, refl, refl, refl, refl, refl)
