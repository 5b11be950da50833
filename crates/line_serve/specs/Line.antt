-- What comes of a request line: reply, bytes read, arena, and the buffers lent to it.
use Rattle.std.specs.Prelude.{ℕ, ◌*◌, List, [], ◌++◌, length, Option, Some, None}
use Rattle.byte_parts.specs.Sizes.{block_size}
use Rattle.answers.specs.declared.refusal.Refusal.TheVariants.{MalformedRequest}
use Rattle.byte_parts.specs.Part.{put}
use Rattle.text_numbers.specs.Hex.{unhex}
use Rattle.text_numbers.specs.Codes.{codes_of}
use Rattle.card_build.specs.declared.card.Card.{Card}
use Rattle.request_plan.specs.declared.Reply.TheVariants.{Refused}
use Rattle.request_plan.specs.Request.{read_request, write_request}
use Rattle.request_plan.specs.Serve.{Served, answered_only, serve, output_after, staging_by}
use Rattle.line_fields.specs.Fields.{field_in}
use Rattle.line_request.specs.declared.Ask.{Ask}
use Rattle.line_request.specs.declared.Ask.TheVariants.{Read, Write}
use Rattle.line_request.specs.Ask.{ask_of}
use Rattle.line_serve.specs.declared.Outcome.{Outcome}

-- several service codes stand joined
abbrev pub codes_in : List ℕ → List ℕ
codes_in line = codes_of (field_in line 2)

abbrev pub list_in : List ℕ → List ℕ
list_in line = unhex (field_in line 4)

abbrev pub data_in : List ℕ → List ℕ
data_in line = unhex (field_in line 5)

-- malformed is refusal 6, anything else a whole request on a buffer of `room` bytes
abbrev pub ask_served : Card → List ℕ → ℕ → List ℕ → Option Ask → Served
ask_served card arena room line None = answered_only arena (Refused MalformedRequest)
ask_served card arena room line (Some (Read «open» count)) =
    serve card arena (read_request «open» (codes_in line) count (list_in line) room)
ask_served card arena room line (Some (Write «open» count)) =
    serve card arena (write_request «open» (codes_in line) count (list_in line) (data_in line) room)

-- RULES 11.8
unfoldable pub line_served : Card → List ℕ → ℕ → List ℕ → Served
line_served card arena room line = ask_served card arena room line (ask_of line)

-- what is told of it: the reply, and how many bytes were read
abbrev pub outcome_of : Served → Outcome
outcome_of served = record { reply = served.reply; read = length served.read }

-- the buffer is the output of a read and the staging of a write
abbrev pub work_by : ℕ → List ℕ → Served → Option Ask → List ℕ
work_by size work served None = work
work_by size work served (Some (Read «open» count)) = output_after work served
work_by size work served (Some (Write «open» count)) = staging_by served.reply size work

unfoldable pub work_after : Card → List ℕ → List ℕ → List ℕ → List ℕ
work_after card arena work line = work_by (block_size * card.used) work (line_served card arena (length work) line) (ask_of line)

-- the bytes of list and data, one after the other
abbrev pub spelled_by : List ℕ → Option Ask → List ℕ
spelled_by line None = []
spelled_by line (Some (Read «open» count)) = list_in line
spelled_by line (Some (Write «open» count)) = list_in line ++ data_in line

unfoldable pub spelled_after : List ℕ → List ℕ → List ℕ
spelled_after bytes line = put bytes 0 (length (spelled_by line (ask_of line))) (spelled_by line (ask_of line))
