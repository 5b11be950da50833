-- After a refused image line nothing happens any more. Assumes nothing.
use mathlib.Core.Path.{◌≡◌, ap}
use mathlib.Core.List.{List, []}
use Prim.Native.Nat.{ℕ}
use Rattle.text_stream.specs.Stream.{Dead}
use Rattle.replay_state.specs.declared.Phase.TheVariants.{Ended}
use Rattle.replay_state.specs.Phases.{finish_text}
use Rattle.inspect_sort.specs.Sort.{sort_of}
use Rattle.inspect_line.specs.Inspect.{Seen, line_seen, line_said, inspect_machine}

ended-line : (s : Seen) (l : List ℕ) → s.inspect.replay.phase ≡ Ended → line_seen s l ≡ s
unfolding line_seen sort_of
ended-line s l e = rw e

ended-text : (s : Seen) (l : List ℕ) → s.inspect.replay.phase ≡ Ended → line_said s l ≡ []
unfolding line_said sort_of
ended-text s l e = rw e

pub inspect_dead : (s : Seen) → s.inspect.replay.phase ≡ Ended → Dead inspect_machine s
inspect_dead s e = record { line = λ l. ended-line s l e; text = λ l. ended-text s l e; end = ap finish_text e }
