-- What a line of an inspection is taken for, by where the inspection is and by the line's first field.
use Rattle.std.specs.Prelude.{ℕ, true, false, cond, List, Option, Some, None}
use Rattle.byte_parts.specs.Letters.{tab}
use Rattle.text_fields.specs.Field.{split}
use Rattle.line_image.specs.Line.{image_named}
use Rattle.line_request.specs.Ask.{request_line}
use Rattle.board_line.specs.Line.{board_line}
use Rattle.replay_state.specs.declared.Phase.{Phase}
use Rattle.replay_state.specs.declared.Phase.TheVariants.{First, Image, Requests, Ended}
use Rattle.replay_kind.specs.declared.Kind.TheVariants as kinds
use Rattle.inspect_ask.specs.Question.{question_of}
use Rattle.inspect_sort.specs.declared.Sort.{Sort}
use Rattle.inspect_sort.specs.declared.Sort.TheVariants as sorts

-- the first field decides: an image line, a request, a refresh of the board, or a question
-- RULES 19.1
unfoldable pub later_sort : List ℕ → Sort
later_sort line =
    cond (image_named (split tab line)) (sorts.Replayed (kinds.Image false))
    (cond (request_line line) (sorts.Replayed kinds.Request)
    (cond (board_line line) (sorts.Replayed kinds.Board) (sorts.Asked (question_of line))))

-- line 1 is an image line, whatever it says; a refused image line has ended the run, and what comes after it is nothing
-- RULES 19.1
unfoldable pub sort_of : Phase → List ℕ → Option Sort
sort_of First line = Some (sorts.Replayed (kinds.Image true))
sort_of Image line = Some (later_sort line)
sort_of Requests line = Some (later_sort line)
sort_of Ended line = None
