-- Request lines as calls: the request that a line makes, and what its answer leaves whoever put the line.
use Rattle.std.specs.Prelude.{ℕ, true, List, [], length, Option, Some, None}
use Rattle.answers.specs.declared.refusal.Refusal.TheVariants.{MalformedRequest}
use Rattle.card_build.specs.declared.card.Card.{Card}
use Rattle.request_plan.specs.declared.Reply.TheVariants.{Refused}
use Rattle.request_plan.specs.Request.{Request, read_request, write_request}
use Rattle.line_request.specs.declared.Ask.{Ask}
use Rattle.line_request.specs.declared.Ask.TheVariants.{Read, Write}
use Rattle.line_request.specs.Ask.{ask_of}
use Rattle.line_serve.specs.Line.{codes_in, list_in, data_in, line_served, spelled_after}
use Rattle.law_terminals.specs.Two.{Answer, output_of, staging_of}

-- a line, and the buffers lent to it: the output of a read or the staging of a write, and what takes the bytes of list and data
pub record LineCall : Type 0 where
  pub line : List ℕ
  pub work : List ℕ
  pub bytes : List ℕ

-- A malformed line makes no request: it counts as a read of nothing, whose answer nobody is told.
abbrev pub request_by : ℕ → List ℕ → Option Ask → Request
request_by room line None = read_request true [] 0 [] room
request_by room line (Some (Read «open» count)) = read_request «open» (codes_in line) count (list_in line) room
request_by room line (Some (Write «open» count)) = write_request «open» (codes_in line) count (list_in line) (data_in line) room

abbrev pub line_request : LineCall → Request
line_request k = request_by (length k.work) k.line (ask_of k.line)

-- what the line is answered on the arena a, by the definition of lines
abbrev pub line_answer : Card → List ℕ → LineCall → Answer
line_answer c a k = record {
  reply = (line_served c a (length k.work) k.line).reply;
  read = (line_served c a (length k.work) k.line).read;
}

-- what it is told: refusal 6 if it is malformed, else its request's answer
abbrev pub line_told_by : Option Ask → Answer → Answer
line_told_by None x = record { reply = Refused MalformedRequest; read = [] }
line_told_by (Some (Read «open» count)) x = x
line_told_by (Some (Write «open» count)) x = x

-- the buffer that is the output of a read and the staging of a write
abbrev pub work_left : Card → List ℕ → Answer → Option Ask → List ℕ
work_left c work x None = work
work_left c work x (Some (Read «open» count)) = output_of x work
work_left c work x (Some (Write «open» count)) = staging_of c x work

-- what a line leaves: its answer, and the buffers after it
pub record LineLeft : Type 0 where
  pub answer : Answer
  pub work : List ℕ
  pub bytes : List ℕ

abbrev pub line_left : Card → LineCall → Answer → LineLeft
line_left c k x = record {
  answer = line_told_by (ask_of k.line) x;
  work = work_left c k.work x (ask_of k.line);
  bytes = spelled_after k.bytes k.line;
}
