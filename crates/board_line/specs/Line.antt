-- An `L` line: `L` (76) and one service code; exactly two fields, and no more than 32,768 bytes. It takes an ordinal, as every request does;
-- the eight lines of a board do not print it.
use Rattle.std.specs.Prelude.{ℕ, Bool, cond, ◌&&◌, List, [], ltb, eqb, length, Option, Some, None}
use Rattle.byte_parts.specs.Letters.{tab}
use Rattle.byte_parts.specs.Sizes.{longest_line}
use Rattle.answers.specs.declared.refusal.Refusal.TheVariants.{MalformedRequest}
use Rattle.text_fields.specs.Field.{split}
use Rattle.text_numbers.specs.Codes.{hex16}
use Rattle.card_build.specs.declared.card.Card.{Card}
use Rattle.request_plan.specs.declared.Reply.TheVariants.{Refused}
use Rattle.line_answer.specs.Answer.{refused_text, answer_text}
use Rattle.line_request.specs.Ask.{field_in, is_letter}
use Rattle.board_lanes.specs.Board.{board_number, lanes_of}
use Rattle.board_read.specs.declared.Refreshed.{Refreshed}
use Rattle.board_read.specs.declared.Refreshed.TheVariants.{Board, NoBoard, Card as ByCard}
use Rattle.board_read.specs.Refresh.{board_served, refreshed}
use Rattle.board_line.specs.Text.{lanes_text}

-- a line whose first field is `L` is a refresh, well formed or not
-- RULES 11.5
unfoldable pub board_line : List ℕ → Bool
board_line line = is_letter 76 (field_in line 0)

-- the code that it asks
-- RULES 17.4
unfoldable pub board_code : List ℕ → Option ℕ
board_code line =
    cond (ltb longest_line (length line)) None
    (cond (board_line line && eqb (length (split tab line)) 2) (hex16 (field_in line 1)) None)

-- eight lines of the blocks read; or one line, with the ordinal: a refusal of the board's own, or the card's answer
-- RULES 17.5
abbrev pub refreshed_text : ℕ → List ℕ → Refreshed → List ℕ
refreshed_text ordinal bytes Board = lanes_text 1 (lanes_of bytes)
refreshed_text ordinal bytes (NoBoard x) = refused_text ordinal (board_number x)
refreshed_text ordinal bytes (ByCard reply) = answer_text ordinal reply []

-- malformed is refusal 6
abbrev pub code_text : Card → List ℕ → ℕ → Option ℕ → List ℕ
code_text card arena ordinal None = answer_text ordinal (Refused MalformedRequest) []
code_text card arena ordinal (Some code) =
    refreshed_text ordinal (board_served card arena code 128).read (refreshed card arena code 128)

-- RULES 17.4
unfoldable pub board_line_text : Card → List ℕ → List ℕ → ℕ → List ℕ
board_line_text card arena line ordinal = code_text card arena ordinal (board_code line)
