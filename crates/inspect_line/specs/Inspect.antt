-- Inspection: from the bytes of a text to the bytes printed, by way of the state between two lines.
use Rattle.std.specs.Prelude.{ℕ, List, [], replicate, Option, Some, None}
use Rattle.card_build.specs.declared.card.Card.{Card}
use Rattle.text_stream.specs.Stream.{Machine, says_of}
use Rattle.replay_state.specs.declared.Replay.{Replay}
use Rattle.replay_state.specs.Phases.{replay_start, one_more, finish_text}
use Rattle.replay_line.specs.Replay.{Held, held, held_by, text_by, work_taken, bytes_by, lent_bytes}
use Rattle.inspect_ask.specs.declared.Question.{Question}
use Rattle.inspect_ask.specs.declared.Question.TheVariants as questions
use Rattle.inspect_ask.specs.Question.{most_room, most_arena}
use Rattle.inspect_answer.specs.Answer.{told_text, unknown_text}
use Rattle.inspect_line.specs.declared.Inspect.{Inspect}
use Rattle.inspect_sort.specs.declared.Sort.{Sort}
use Rattle.inspect_sort.specs.declared.Sort.TheVariants as sorts
use Rattle.inspect_sort.specs.Sort.{sort_of}

-- the state between two lines
pub record Seen : Type 0 where
  pub inspect : Inspect
  pub arena : List ℕ

abbrev pub seen : Inspect → List ℕ → Seen
seen p arena = record { inspect = p; arena = arena }

-- at first the whole output and the whole arena are lent
-- RULES 19.3
abbrev pub begins_with : Inspect
begins_with = record { replay = replay_start; room = most_room; lent = most_arena }

-- the line number counts every line
-- RULES 19.1
abbrev pub numbered : ℕ → Replay → Replay
numbered lines p = record { card = p.card; phase = p.phase; lines = lines; asked = p.asked }

-- a line of a replay does what it does there
abbrev pub replayed_seen : Inspect → Held → Seen
replayed_seen p h =
    seen (record { replay = numbered (one_more p.replay.lines) h.replay; room = p.room; lent = p.lent }) h.arena

-- `room` and `arena` set what is lent from here on
-- RULES 19.3
abbrev pub room_after : Option Question → ℕ → ℕ
room_after None room = room
room_after (Some (questions.Of asked)) room = room
room_after (Some (questions.Room n)) room = n
room_after (Some (questions.Arena n)) room = room

-- RULES 19.3
abbrev pub lent_after : Option Question → ℕ → ℕ
lent_after None lent = lent
lent_after (Some (questions.Of asked)) lent = lent
lent_after (Some (questions.Room n)) lent = lent
lent_after (Some (questions.Arena n)) lent = n

-- a question takes no ordinal; card and arena stay
-- RULES 19.4
abbrev pub question_seen : Seen → Option Question → Seen
question_seen s q =
    let p = s.inspect in
    seen (record { replay = numbered (one_more p.replay.lines) p.replay; room = room_after q p.room; lent = lent_after q p.lent }) s.arena

-- what it prints
abbrev pub question_text : Card → List ℕ → ℕ → ℕ → ℕ → List ℕ → Option Question → List ℕ
question_text c arena lent room number line None = unknown_text number
question_text c arena lent room number line (Some (questions.Of asked)) = told_text c arena lent room line asked
question_text c arena lent room number line (Some (questions.Room n)) = []
question_text c arena lent room number line (Some (questions.Arena n)) = []

-- the state after a line, by what it is taken for, and what the line prints
abbrev pub seen_by : Option Sort → Seen → List ℕ → Seen
seen_by (Some (sorts.Replayed kind)) s line = replayed_seen s.inspect (held_by (Some kind) (held s.inspect.replay s.arena) line)
seen_by (Some (sorts.Asked q)) s line = question_seen s q
seen_by None s line = s

abbrev pub said_by : Option Sort → Seen → List ℕ → List ℕ
said_by (Some (sorts.Replayed kind)) s line = text_by (Some kind) (held s.inspect.replay s.arena) line
said_by (Some (sorts.Asked q)) s line =
    question_text s.inspect.replay.card s.arena s.inspect.lent s.inspect.room (one_more s.inspect.replay.lines) line q
said_by None s line = []

unfoldable pub line_seen : Seen → List ℕ → Seen
line_seen s line = seen_by (sort_of s.inspect.replay.phase line) s line

unfoldable pub line_said : Seen → List ℕ → List ℕ
line_said s line = said_by (sort_of s.inspect.replay.phase line) s line

abbrev pub end_said : Seen → List ℕ
end_said s = finish_text s.inspect.replay.phase

-- inspection as a machine that takes lines
abbrev pub inspect_machine : Machine Seen
inspect_machine = record { line = line_seen; text = line_said; end = end_said }

-- ahead of the first line the arena is zero
abbrev pub seen_at_start : Seen
seen_at_start = seen begins_with (replicate lent_bytes 0)

-- what is printed of a text
-- RULES 19.4
unfoldable pub inspect_of : List ℕ → List ℕ
inspect_of text = says_of inspect_machine seen_at_start text

-- the buffers lent to a request, after a line
abbrev pub sort_work : Option Sort → Seen → List ℕ → List ℕ → List ℕ
sort_work (Some (sorts.Replayed kind)) s work line = work_taken (Some kind) (held s.inspect.replay s.arena) work line
sort_work (Some (sorts.Asked q)) s work line = work
sort_work None s work line = work

abbrev pub sort_bytes : Option Sort → List ℕ → List ℕ → List ℕ
sort_bytes (Some (sorts.Replayed kind)) bytes line = bytes_by (Some kind) bytes line
sort_bytes (Some (sorts.Asked q)) bytes line = bytes
sort_bytes None bytes line = bytes

unfoldable pub work_seen : Seen → List ℕ → List ℕ → List ℕ
work_seen s work line = sort_work (sort_of s.inspect.replay.phase line) s work line

unfoldable pub bytes_seen : Seen → List ℕ → List ℕ → List ℕ
bytes_seen s bytes line = sort_bytes (sort_of s.inspect.replay.phase line) bytes line
