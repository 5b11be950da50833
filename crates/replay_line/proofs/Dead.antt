-- After a refused image line nothing happens any more. Assumes nothing.
use mathlib.Core.Path.{◌≡◌, refl, ap}
use mathlib.Core.List.{List, []}
use Prim.Native.Nat.{ℕ}
use Rattle.text_stream.specs.Stream.{Dead}
use Rattle.replay_state.specs.declared.Phase.{Phase}
use Rattle.replay_state.specs.declared.Phase.TheVariants.{Ended}
use Rattle.replay_state.specs.Phases.{finish_text}
use Rattle.replay_kind.specs.Kind.{taken_for}
use Rattle.replay_line.specs.Replay.{Held, held_by, text_by, line_held, line_text, replay_machine}

ended-line : (s : Held) (l : List ℕ) → s.replay.phase ≡ Ended → line_held s l ≡ s
unfolding line_held taken_for
ended-line s l e = rw e

ended-text : (s : Held) (l : List ℕ) → s.replay.phase ≡ Ended → line_text s l ≡ []
unfolding line_text taken_for
ended-text s l e = rw e

pub replay_dead : (s : Held) → s.replay.phase ≡ Ended → Dead replay_machine s
replay_dead s e = record { line = λ l. ended-line s l e; text = λ l. ended-text s l e; end = ap finish_text e }
