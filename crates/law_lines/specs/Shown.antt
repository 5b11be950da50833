-- A refresh shows the board worked out from the store as it stands at that line: the statement.
use Rattle.std.specs.Prelude.{ℕ, ◌*◌, ◌≤◌, ◌<◌, true, false, List, [], ◌≡◌, length, get_or, Some}
use Rattle.byte_parts.specs.Part.{part}
use Rattle.card_nodes.specs.Node.{root_node, start_of, blocks_of}
use Rattle.card_nodes.specs.Find.{is_service_of}
use Rattle.card_build.specs.declared.card.Card.{Card}
use Rattle.card_build.specs.Card.{nodes_of}
use Rattle.request_check.specs.Row.{row_of}
use Rattle.request_plan.specs.declared.Reply.{Reply}
use Rattle.request_plan.specs.declared.Reply.TheVariants as replies
use Rattle.request_plan.specs.Serve.{store_in}
use Rattle.line_answer.specs.Answer.{refused_text, answer_text}
use Rattle.board_lanes.specs.Board.{board_number, Board, lanes, refused, board_of}
use Rattle.board_line.specs.Text.{lanes_text}
use Rattle.board_read.specs.Refresh.{board_served}
use Rattle.board_line.specs.Line.{board_code, board_line_text}

-- the store of a code, as an arena has it: that of the first service of the code, in tree order
abbrev pub code_store : Card → List ℕ → ℕ → List ℕ
code_store c a code = store_in a (row_of (nodes_of c) code)

-- its first eight blocks
abbrev pub eight_of : Card → List ℕ → ℕ → List ℕ
eight_of c a code = part (code_store c a code) 0 128

-- what is printed of a board: its eight lanes, or its refusal with the ordinal
abbrev pub board_text : ℕ → Board → List ℕ
board_text ordinal (lanes ls) = lanes_text 1 ls
board_text ordinal (refused x) = refused_text ordinal (board_number x)

-- what is printed of a refresh: the board where the card answers 00 00, else the card's own answer
abbrev pub shown_text : ℕ → Reply → Board → List ℕ
shown_text ordinal (replies.Refused r) board = answer_text ordinal (replies.Refused r) []
shown_text ordinal replies.Done board = board_text ordinal board
shown_text ordinal replies.ShortData board = answer_text ordinal replies.ShortData []
shown_text ordinal (replies.Failed i f) board = answer_text ordinal (replies.Failed i f) []

-- Whatever card and arena stand at an `L` line with a code, it prints the board worked out from the first eight blocks of that
-- code's store as that arena has them, or the refusal.
-- RULES 16.5
abbrev pub PrintsBoard : Type 0
PrintsBoard =
    (c : Card) (a line : List ℕ) (ordinal code : ℕ) → board_code line ≡ Some code
    → board_line_text c a line ordinal ≡ shown_text ordinal (board_served c a code 128).reply (board_of (eight_of c a code))

-- What was read where the card answers 00 00.
pub record Eight (c : Card) (a : List ℕ) (code : ℕ) : Type 0 where
  -- the first eight blocks of the code's store, and nothing else
  pub bytes : (board_served c a code 128).read ≡ eight_of c a code
  pub long : length (eight_of c a code) ≡ 128
  -- that store is the one of a service of the code
  pub node : ℕ
  pub service : is_service_of code (get_or (nodes_of c) node root_node) ≡ true
  -- of the first one
  pub first : (i : ℕ) → i < node → is_service_of code (get_or (nodes_of c) i root_node) ≡ false
  pub store
      : let n = (get_or (nodes_of c) node root_node).entry in
      code_store c a code ≡ part a (16 * start_of n) (16 * blocks_of n)
  -- and has eight blocks or more
  pub blocks : 8 ≤ blocks_of (get_or (nodes_of c) node root_node).entry

-- at the card c
-- RULES 16.5
abbrev pub ReadsStore : Card → Type 0
ReadsStore c = (a : List ℕ) (code : ℕ) → (board_served c a code 128).reply ≡ replies.Done → Eight c a code
