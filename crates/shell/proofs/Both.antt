-- Both programs' machine tells no more of a line than its first 32,769 bytes, and where it stops nothing happens any more; where no
-- questions are asked it keeps replay's promise. Assumes nothing.
use mathlib.Core.Path.{◌≡◌, refl, ap}
use mathlib.Core.Bool.{Bool, true, false}
use lib.ListN.{take}
use Rattle.text_stream.specs.Stream.{Blind, Dead}
use Rattle.text_pull.specs.declared.Flow.{Flow}
use Rattle.text_pull.specs.Pull.{Ran}
use Rattle.replay_state.proofs.Stops.{ended_of}
use Rattle.replay_line.specs.Replay.{Held, replay_machine, held_at_start}
use Rattle.replay_line.proofs.Blind.{replay_blind}
use Rattle.replay_line.proofs.Dead.{replay_dead}
use Rattle.inspect_line.specs.Inspect.{Seen, seen_at_start}
use Rattle.inspect_line.proofs.Blind.{inspect_blind}
use Rattle.inspect_line.proofs.Dead.{inspect_dead}
use Rattle.shell.specs.Both.{held_in, seen_with, both_machine, seen_stops}
use Rattle.shell.proofs.Part.{ran-part}

pub both_blind : (asks : Bool) → Blind (both_machine asks) (take 32769)
both_blind true = inspect_blind
both_blind false = record {
  line = λ s l. ap (seen_with s) (replay_blind.line (held_in s) l);
  text = λ s l. replay_blind.text (held_in s) l;
}

pub stops_dead : (asks : Bool) (s : Seen) → seen_stops s ≡ true → Dead (both_machine asks) s
stops_dead true s e = inspect_dead s (ended_of s.inspect.replay.phase e)
stops_dead false s e =
    let d = replay_dead (held_in s) (ended_of s.inspect.replay.phase e) in
    record { line = λ l. ap (seen_with s) (d.line l); text = d.text; end = d.end }

pub ran-replay : {f : Flow} → Ran (both_machine false) seen_at_start f → Ran replay_machine held_at_start f
ran-replay r = ran-part (both_machine false) replay_machine held_in (λ s l. refl) (λ s l. refl) (λ s. refl) r
