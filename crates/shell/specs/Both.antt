-- Replay and inspection as one machine, by whether questions are asked, and when it stops reading.
use Rattle.std.specs.Prelude.{ℕ, Bool, true, false, List}
use Rattle.text_stream.specs.Stream.{Machine}
use Rattle.replay_state.specs.Phases.{stops_in}
use Rattle.replay_line.specs.Replay.{Held, held, line_held, line_text}
use Rattle.inspect_line.specs.Inspect.{Seen, seen, line_seen, line_said, end_said}

-- the replay that an inspection holds, and an inspection that holds another
abbrev pub held_in : Seen → Held
held_in s = held s.inspect.replay s.arena

abbrev pub seen_with : Seen → Held → Seen
seen_with s h = seen (record { replay = h.replay; room = s.inspect.room; lent = s.inspect.lent }) h.arena

-- where no questions are asked a line does to the replay what it does there, and prints the same
abbrev pub both_seen : Bool → Seen → List ℕ → Seen
both_seen true s line = line_seen s line
both_seen false s line = seen_with s (line_held (held_in s) line)

abbrev pub both_said : Bool → Seen → List ℕ → List ℕ
both_said true s line = line_said s line
both_said false s line = line_text (held_in s) line

abbrev pub both_machine : Bool → Machine Seen
both_machine asks = record { line = both_seen asks; text = both_said asks; end = end_said }

-- a refused image line ends the run
-- RULES 11.11
abbrev pub seen_stops : Seen → Bool
seen_stops s = stops_in s.inspect.replay.phase
