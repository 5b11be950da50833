-- `inspect_line::start` meets its contract: all is lent. Assumes nothing.
use mathlib.Core.Path.{ap}
use borrow.Author.Rules.{rules}
use Rattle.replay_state.specs.declared.Replay.{Replay}
use Rattle.inspect_ask.specs.Question.{most_room, most_arena}
use Rattle.inspect_line.specs.declared.Inspect.{Inspect}
use Rattle.inspect_line.proofs.start.Goals as goal

-- an inspection at its start, on a replay
abbrev start_on : Replay → Inspect
start_on replay = record { replay = replay; room = most_room; lent = most_arena }

pub returns : goal.returns
returns c = ap start_on c.start.ensures
