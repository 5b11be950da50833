use native.Mathlib.Omega.{arith}
use mathlib.Core.Path.{◌≡◌, refl, sym, ◌∙◌}
use lib.ListN.{length}
use borrow.Author.Rules.{rules}
use Rattle.byte_parts.specs.Sizes.{most_printed}
use Rattle.text_turns.specs.Turn.{Turning}
use Rattle.text_turns.proofs.Turning.{Answering, begun, pull_may, answer_may, ended, turn}
use Rattle.inspect_line.specs.Inspect.{seen, seen_at_start}
use Rattle.shell.specs.Both.{both_machine, seen_stops}
use Rattle.shell.proofs.Both.{both_blind, stops_dead}
use Rattle.shell.proofs.run.Given as goal

abbrev pub invariant-loop-ends : goal.invariant-loop-ends
invariant-loop-ends g l =
    Turning (both_machine l.asks) 32769 seen_at_start most_printed l.moved.flow (seen l.moved.inspect l.arena) l.line l.chunk l.out
    × (length l.arena ≡ length l.initial.arena) × (length l.work ≡ length l.initial.work) × (length l.bytes ≡ length l.initial.bytes)
    × (length l.chunk ≡ length l.initial.chunk) × (length l.line ≡ length l.initial.line) × (length l.out ≡ length l.initial.out)

abbrev pub decreases-loop-ends : goal.decreases-loop-ends
decreases-loop-ends g l = l.moved.flow.turns
