-- `shell::answer` meets its contract: a line, by whether questions are asked, or none. Assumes nothing.
use Prim.Native.Nat.{◌-◌}
use native.Mathlib.Omega.{arith}
use mathlib.Core.Path.{◌≡◌, refl, sym, ap, ◌∙◌}
use mathlib.Core.Bool.{true, false}
use borrow.Author.Rules.{rules}
use Rattle.byte_parts.specs.Sizes.{most_printed}
use Rattle.text_turns.proofs.Answers.{answer-line, answer-rest, rest-none}
use Rattle.replay_state.specs.Phases.{finish_text}
use Rattle.inspect_line.specs.Inspect.{seen}
use Rattle.shell.specs.Both.{seen_with, both_machine, seen_stops}
use Rattle.shell.proofs.answer.Goals as goal

pub passed-requires : goal.passed-requires
passed-requires c =
    sym c.is_line.ensures ∙ c.if-is_line.true

pub returns-then-asks : goal.returns-then-asks
returns-then-asks c =
    let z : c.kept-len.result - 0 ≡ c.kept-len.result = omega arith in
    let o = rw (c.kept-len.ensures) at (rw z at c.line-looked.ensures.arena_after) in
    let w = rw (c.kept-len.ensures, c.made-made.ensures) at (rw z at c.line-looked.ensures.written) in
    rw c.if-asks.true
    (answer-line (both_machine true) seen_stops most_printed (sym c.is_line.ensures ∙ c.if-is_line.true) o w.0 w.1 refl c.passed.ensures)

pub passed-requires-then-is_line : goal.passed-requires-then-is_line
passed-requires-then-is_line c =
    sym c.is_line.ensures ∙ c.if-is_line.true

pub returns-then-is_line : goal.returns-then-is_line
returns-then-is_line c =
    let z : c.kept-len.result - 0 ≡ c.kept-len.result = omega arith in
    let o = rw (c.kept-len.ensures) at (rw z at c.line-taken.ensures.arena_after) in
    let w = rw (c.kept-len.ensures, c.made-made.ensures) at (rw z at c.line-taken.ensures.written) in
    let a = c.args in
    rw c.if-asks.false
    (answer-line (both_machine false) seen_stops most_printed (sym c.is_line.ensures ∙ c.if-is_line.true) (ap (seen_with (seen a.inspect a.arena.now)) o) w.0 w.1 refl c.passed-then-is_line.ensures)

pub close-rest-requires : goal.close-rest-requires
close-rest-requires c =
    (sym c.is_line.ensures ∙ c.if-is_line.false, omega (arith, c.requires.3))

pub returns-then-is_end : goal.returns-then-is_end
returns-then-is_end c =
    answer-rest (both_machine c.args.asks) seen_stops most_printed (sym c.is_line.ensures ∙ c.if-is_line.false) c.close-rest.ensures.rested (omega (arith, c.close-rest.ensures.made_bound))

pub returns : goal.returns
returns c =
    let a = c.args in
    answer-rest (both_machine a.asks) seen_stops most_printed (sym c.is_line.ensures ∙ c.if-is_line.false) (rest-none (finish_text a.inspect.replay.phase) (sym c.is_end.ensures ∙ c.if-is_end.false)) (omega arith)
