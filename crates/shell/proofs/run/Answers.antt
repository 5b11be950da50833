-- `shell::run` meets its contract: turn by turn what is read, taken, printed and written agrees, and the turns left fall. Assumes
-- nothing.
use native.Mathlib.Omega.{arith}
use mathlib.Core.Path.{◌≡◌, refl, sym, ◌∙◌}
use lib.ListN.{length}
use borrow.Author.Rules.{rules}
use Rattle.byte_parts.specs.Sizes.{most_printed}
use Rattle.text_turns.specs.Turn.{Turning}
use Rattle.text_turns.proofs.Turning.{Answering, begun, pull_may, answer_may, ended, turn}
use Rattle.inspect_line.specs.Inspect.{seen, seen_at_start}
use Rattle.shell.specs.Both.{both_machine, seen_stops}
use Rattle.shell.proofs.Both.{both_blind, stops_dead}
use Rattle.shell.proofs.run.Goals as goal

pub loop-ends-init : goal.loop-ends-init
loop-ends-init g c =
    let a = c.args in
    rw (c.start.ensures, c.requires.arena_value.1, c.requires.arena_value.0)
    (begun (both_machine a.asks) 32769 seen_at_start most_printed a.line.now a.chunk.now a.out.now (omega (arith, c.requires.work_len)) (omega (arith, c.requires.work_len)) (omega (arith, c.requires.work_len)) (omega arith), refl, refl, refl, refl, refl, refl)

pub pull-flow-requires : goal.pull-flow-requires
pull-flow-requires g c =
    let p = pull_may (both_machine c.args.asks) 32769 seen_at_start most_printed c.loop-ends.invariant.0 (sym c.goes_on.ensures ∙ c.loop-ends-test.true) in
    record { le_turns = p.0; at_le_filled = p.1.0; chunk_bound = p.1.1 }

pub answer-moved-requires : goal.answer-moved-requires
answer-moved-requires g c =
    let i = c.loop-ends.invariant in
    let p = c.requires.work_len in
    let m = answer_may (both_machine c.args.asks) 32769 seen_at_start most_printed i.0 c.pull-flow.ensures c.pull-flow.auto.line in
    (omega (arith, p, i.2), omega (arith, p, i.3), m.0, m.1)

pub flush-moved-requires : goal.flush-moved-requires
flush-moved-requires g c =
    let t = turn (both_machine c.args.asks) 32769 seen_at_start most_printed (omega arith) (both_blind c.args.asks) seen_stops (stops_dead c.args.asks) c.loop-ends.invariant.0 (sym c.goes_on.ensures ∙ c.loop-ends-test.true) c.pull-flow.ensures c.pull-flow.auto.chunk c.pull-flow.auto.line c.answer-moved.ensures c.answer-moved.auto.out in
    record { made_in_bounds = t.may; next = t.next }

pub loop-ends-smaller : goal.loop-ends-smaller
loop-ends-smaller g c =
    let t = turn (both_machine c.args.asks) 32769 seen_at_start most_printed (omega arith) (both_blind c.args.asks) seen_stops (stops_dead c.args.asks) c.loop-ends.invariant.0 (sym c.goes_on.ensures ∙ c.loop-ends-test.true) c.pull-flow.ensures c.pull-flow.auto.chunk c.pull-flow.auto.line c.answer-moved.ensures c.answer-moved.auto.out in
    (t.flushes c.flush-moved.result c.flush-moved.ensures).less

pub loop-ends-preserved : goal.loop-ends-preserved
loop-ends-preserved g c =
    let i = c.loop-ends.invariant in
    let k = c.pull-flow.auto in
    let w = c.answer-moved.auto in
    let t = turn (both_machine c.args.asks) 32769 seen_at_start most_printed (omega arith) (both_blind c.args.asks) seen_stops (stops_dead c.args.asks) c.loop-ends.invariant.0 (sym c.goes_on.ensures ∙ c.loop-ends-test.true) c.pull-flow.ensures c.pull-flow.auto.chunk c.pull-flow.auto.line c.answer-moved.ensures c.answer-moved.auto.out in
    ((t.flushes c.flush-moved.result c.flush-moved.ensures).on, w.arena ∙ i.1, w.work ∙ i.2, w.bytes ∙ i.3, k.chunk ∙ i.4, k.line ∙ i.5, w.out ∙ i.6)

pub returns : goal.returns
returns g c =
    let a = c.args in
    ended (both_machine a.asks) 32769 seen_at_start most_printed c.loop-ends.invariant.0 (omega arith) (both_blind a.asks) (sym c.goes_on.ensures ∙ c.loop-ends-test.false)
