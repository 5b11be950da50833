-- A salvage's image and report as bytes, and what a line puts into them. Assumes nothing.
use Rattle.std.specs.Prelude.{ℕ, ◌+◌, Bool, true, false, cond, List, [], ◌∷◌, ◌++◌, ltb, length, Option, Some, None}
use Rattle.byte_parts.specs.Letters.{lf, tab, a, d, e, n, p, r, t}
use Rattle.byte_parts.specs.Part.{put}
use Rattle.text_numbers.specs.Decimal.{dec_text}
use Rattle.text_print.specs.Print.{closed}
use Rattle.text_pieces.specs.Piece.{Piece, text_of}
use Rattle.salvage_rule.specs.declared.Fate.{Fate}
use Rattle.salvage_rule.specs.declared.Fate.TheVariants.{Kept, Parent, Number}
use Rattle.salvage_rule.specs.Salvage.{Builder, Between, Notice, added, lost, listed, chosen_by, fates_from}

-- why a line is gone: `parent`, or a number; a kept line is not told
-- RULES 20.6
abbrev pub said_of : ℕ → Fate → List ℕ
said_of line Kept = []
said_of line Parent = closed tab (dec_text line) ++ closed lf (p ∷ a ∷ r ∷ e ∷ n ∷ t ∷ [])
said_of line (Number m) = closed tab (dec_text line) ++ closed lf (dec_text m)

-- a notice's line: 0 and `added`, or the line's number and why
-- RULES 20.6
abbrev pub notice_text : Notice → List ℕ
notice_text added = closed tab (48 ∷ []) ++ closed lf (a ∷ d ∷ d ∷ e ∷ d ∷ [])
notice_text (lost n f) = said_of n f

-- RULES 20.6
unfoldable pub report_text : List Notice → List ℕ
report_text [] = []
report_text (e ∷ es) = notice_text e ++ report_text es

-- what a line puts into the image, of its bytes
abbrev pub gain_of : Fate → List ℕ → List ℕ
gain_of Kept t = t
gain_of Parent t = []
gain_of (Number m) t = []

abbrev pub gain_by : Fate → ℕ → ℕ
gain_by Kept n = n
gain_by Parent n = 0
gain_by (Number m) n = 0

-- what is left to come of the image and of the report, where so many lines are passed
module _ {S : Type 0} (B : Builder S) where
  unfoldable pub image_left : Between S → List Piece → List ℕ
  image_left s ps = text_of (chosen_by (fates_from B s ps) ps)

  unfoldable pub report_left : ℕ → Between S → List Piece → List ℕ
  report_left n s ps = report_text (listed (n + 1) (fates_from B s ps))

-- the place behind n bytes put at a place, if the room holds them
unfoldable pub spot_by : ℕ → ℕ → ℕ → Option ℕ
spot_by room at n = cond (ltb room (at + n)) None (Some (at + n))

-- bytes put into a buffer, or only counted
abbrev pub put_if : Bool → List ℕ → ℕ → List ℕ → List ℕ
put_if true d at t = put d at (length t) t
put_if false d at t = d

-- a buffer after that: where there is no room nothing is put
abbrev pub spotted : Option ℕ → Bool → List ℕ → ℕ → List ℕ → List ℕ
spotted None w d at t = d
spotted (Some last) w d at t = put_if w d at t
