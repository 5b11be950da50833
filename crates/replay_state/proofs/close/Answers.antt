-- `replay_state::close` meets its contract, by whether the text has ended. Assumes nothing.
use native.Mathlib.Omega.{arith}
use mathlib.Core.Path.{◌≡◌, sym, ap, ◌∙◌}
use borrow.Author.Rules.{rules}
use Rattle.text_pull.specs.declared.Flow.{Flow}
use Rattle.text_turns.proofs.Answers.{rest_end, rest-none}
use Rattle.replay_state.specs.Phases.{finish_text}
use Rattle.replay_state.proofs.close.Goals as goal

pub closed-requires : goal.closed-requires
closed-requires c =
    (c.requires.0, sym c.is_end.ensures ∙ c.if-is_end.true)

pub returns-then-is_end : goal.returns-then-is_end
returns-then-is_end c =
    let o = rw c.made-made.ensures at c.finish-last.ensures.written in
    let b = rw c.made-made.ensures at c.finish-last.ensures.upper_bound in
    let n = ap (λ (r : Flow). r.made) c.closed.ensures in
    (record { rested = rest_end (finish_text c.args.replay.phase) (sym c.is_end.ensures ∙ c.if-is_end.true) o c.closed.ensures; made_bound = omega (arith, n, b) })

pub returns : goal.returns
returns c = (record { rested = rest-none (finish_text c.args.replay.phase) (sym c.is_end.ensures ∙ c.if-is_end.false); made_bound = omega arith })
