-- What a line of a replay is taken for, by where the replay is and by the line's first field.
use Rattle.std.specs.Prelude.{ℕ, true, false, cond, List, Option, Some, None}
use Rattle.line_request.specs.Ask.{request_line}
use Rattle.board_line.specs.Line.{board_line}
use Rattle.replay_state.specs.declared.Phase.{Phase}
use Rattle.replay_state.specs.declared.Phase.TheVariants.{First, Image, Requests, Ended}
use Rattle.replay_kind.specs.declared.Kind.{Kind}
use Rattle.replay_kind.specs.declared.Kind.TheVariants as kinds

-- a later line is an image line up to the first request or refresh of the board
unfoldable pub image_kind : List ℕ → Kind
image_kind line = cond (board_line line) kinds.Board (cond (request_line line) kinds.Request (kinds.Image false))

-- from there on every line is a refresh or a request
unfoldable pub request_kind : List ℕ → Kind
request_kind line = cond (board_line line) kinds.Board kinds.Request

-- line 1 is an image line, whatever it says; a refused image line has ended the run, and what comes after it is nothing
-- RULES 11.5
unfoldable pub taken_for : Phase → List ℕ → Option Kind
taken_for First line = Some (kinds.Image true)
taken_for Image line = Some (image_kind line)
taken_for Requests line = Some (request_kind line)
taken_for Ended line = None
