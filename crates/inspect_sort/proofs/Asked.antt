-- A line that is taken for a question asks it. Assumes nothing.
use Rattle.std.proofs.Common.{Option, Some, None}
use Prim.Native.Nat.{ℕ}
use mathlib.Core.Path.{◌≡◌, refl, sym, ap, ◌∙◌}
use mathlib.Core.Bool.{Bool, true, false, cond}
use mathlib.Core.List.{List}
use Rattle.text_fields.specs.Field.{split}
use Rattle.line_image.specs.Line.{image_named}
use Rattle.line_request.specs.Ask.{request_line}
use Rattle.board_line.specs.Line.{board_line}
use Rattle.replay_state.specs.declared.Phase.{Phase}
use Rattle.replay_state.specs.declared.Phase.TheVariants.{First, Image, Requests, Ended}
use Rattle.replay_kind.specs.declared.Kind.TheVariants as kinds
use Rattle.inspect_ask.specs.declared.Question.{Question}
use Rattle.inspect_ask.specs.Question.{question_of}
use Rattle.inspect_sort.specs.declared.Sort.{Sort}
use Rattle.inspect_sort.specs.declared.Sort.TheVariants as sorts
use Rattle.inspect_sort.specs.Sort.{later_sort, sort_of}

-- the question that a line is taken for; of a line that is taken for none, another one
abbrev asked_of : Option Question → Option Sort → Option Question
asked_of other (Some (sorts.Replayed kind)) = other
asked_of other (Some (sorts.Asked q)) = q
asked_of other None = other

-- whatever the first field is found to say
field_asked
    : (a b c : Bool) (q : Option Question)
    → asked_of q (Some (cond a (sorts.Replayed (kinds.Image false))
    (cond b (sorts.Replayed kinds.Request) (cond c (sorts.Replayed kinds.Board) (sorts.Asked q))))) ≡ q
field_asked true b c q = refl
field_asked false true c q = refl
field_asked false false true q = refl
field_asked false false false q = refl

later_asked : (line : List ℕ) → asked_of (question_of line) (Some (later_sort line)) ≡ question_of line
unfolding later_sort
later_asked line = field_asked (image_named (split 9 line)) (request_line line) (board_line line) (question_of line)

sort_asked : (phase : Phase) (line : List ℕ) → asked_of (question_of line) (sort_of phase line) ≡ question_of line
unfolding sort_of
sort_asked First line = refl
sort_asked Image line = later_asked line
sort_asked Requests line = later_asked line
sort_asked Ended line = refl

-- A line that is taken for a question asks it.
pub asked_of_lem : (phase : Phase) (line : List ℕ) {q : Option Question} → sort_of phase line ≡ Some (sorts.Asked q) → question_of line ≡ q
asked_of_lem phase line e = sym (sort_asked phase line) ∙ ap (asked_of (question_of line)) e
