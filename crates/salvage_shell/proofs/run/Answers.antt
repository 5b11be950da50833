-- `salvage_shell::run` meets its contract: a text that has ended is shorter than its buffer, and of any other nothing is printed. Assumes
-- nothing.
use native.Mathlib.Omega.{arith}
use mathlib.Core.Path.{sym, ◌∙◌}
use lib.ListN.{take, drop}
use Prim.Native.Nat.{◌-◌}
use borrow.Author.Rules.{rules}
use Rattle.salvage_shell.specs.Ran.{most_salvaged}
use Rattle.salvage_shell.proofs.Rooms.{lent_most}
use Rattle.salvage_shell.proofs.Ends.{end-over}
use Rattle.salvage_shell.proofs.Runs.{Holds, holds, filled_within, ended_held, short_over, short_ran, other_ran, took_ran}
use Rattle.salvage_shell.proofs.run.Goals as goal

pub slice_bounds-refuse-end : goal.slice_bounds-refuse-end
slice_bounds-refuse-end g c =
    omega (arith, c.held-n.ensures, filled_within (holds c.args.text.now c.slurp-flow.new.buffer c.slurp-flow.result c.slurp-flow.auto.buffer c.requires.0 c.slurp-flow.ensures))

pub refuse-requires : goal.refuse-requires
refuse-requires g c =
    end-over (take (c.held-n.result - 0) (drop 0 c.slurp-flow.new.buffer))
    (short_over (holds c.args.text.now c.slurp-flow.new.buffer c.slurp-flow.result c.slurp-flow.auto.buffer c.requires.0 c.slurp-flow.ensures) c.held-n.result (sym c.is_short.ensures ∙ c.if-is_short.true) c.held-n.ensures)

pub returns-then-is_short : goal.returns-then-is_short
returns-then-is_short g c =
    short_ran (holds c.args.text.now c.slurp-flow.new.buffer c.slurp-flow.result c.slurp-flow.auto.buffer c.requires.0 c.slurp-flow.ensures) (sym c.is_short.ensures ∙ c.if-is_short.true)

pub slice_bounds-take-end : goal.slice_bounds-take-end
slice_bounds-take-end g c =
    omega (arith, c.held-n.ensures, filled_within (holds c.args.text.now c.slurp-flow.new.buffer c.slurp-flow.result c.slurp-flow.auto.buffer c.requires.0 c.slurp-flow.ensures))

pub take-requires : goal.take-requires
take-requires g c =
    let q = sym c.is_end.ensures ∙ c.if-is_end.true in
    let h = holds c.args.text.now c.slurp-flow.new.buffer c.slurp-flow.result c.slurp-flow.auto.buffer c.requires.0 c.slurp-flow.ensures in
    let l = ended_held h q in
    record {
      flow_value = (l.1, q, c.slurp-flow.ensures.written);
      text_len_bound = (
        lent_most c.held-n.result most_salvaged c.slurp-flow.new.buffer (omega (arith, c.held-n.ensures, filled_within h))
            (omega (arith, c.held-n.ensures, l.0)),
        c.requires.1,
        c.requires.2,
      );
    }

pub returns-then-is_end : goal.returns-then-is_end
returns-then-is_end g c =
    let q = sym c.is_end.ensures ∙ c.if-is_end.true in
    took_ran (holds c.args.text.now c.slurp-flow.new.buffer c.slurp-flow.result c.slurp-flow.auto.buffer c.requires.0 c.slurp-flow.ensures) c.take.result c.held-n.result q c.held-n.ensures c.take.ensures

pub returns : goal.returns
returns g c =
    other_ran (holds c.args.text.now c.slurp-flow.new.buffer c.slurp-flow.result c.slurp-flow.auto.buffer c.requires.0 c.slurp-flow.ensures) (sym c.is_short.ensures ∙ c.if-is_short.false)
    (sym c.is_end.ensures ∙ c.if-is_end.false)
