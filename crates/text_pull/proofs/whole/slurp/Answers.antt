-- `text_pull::whole::slurp` meets its contract: read by read the buffer fills, and the reads left fall. Assumes nothing.
use Rattle.std.proofs.Common.{ℕ, List, true}
use Prim.Native.Nat.{◌-◌, ◌<◌}
use native.Mathlib.Omega.{arith}
use mathlib.Core.Path.{◌≡◌, refl, sym, subst, ◌∙◌}
use lib.ListN.{length, take, drop, length-take, length-drop}
use borrow.Rule.Slice.PartMut.{same_len_mid}
use Rattle.text_pull.specs.declared.Flow.{Flow}
use Rattle.text_pull.specs.Pull.{lacks_of, More}
use Rattle.text_pull.proofs.Slurps.{Slurping, slurp_start, slurp_more, lacking, slurped}
use Rattle.text_pull.proofs.whole.slurp.Goals as goal

pub loop-from-init : goal.loop-from-init
loop-from-init g c = rw c.start-flow.ensures (slurp_start (length c.args.buffer.now), refl)

pub more-flow-requires : goal.more-flow-requires
more-flow-requires g c =
    let e = lacking c.loop-from.flow (length c.loop-from.buffer) (sym c.lacks.ensures ∙ c.loop-from-test.true) in
    (e.0, simp (length-take, length-drop) (omega (arith, c.loop-from.invariant.0.read, c.loop-from.invariant.1)), simp (length-take, length-drop) (omega (arith, c.loop-from.invariant.1)))

pub returns : goal.returns
returns g c =
    let l = c.loop-from in
    rw (← l.invariant.1) (slurped (length l.buffer) l.flow c.settle.result l.invariant.0 (sym c.lacks.ensures ∙ c.loop-from-test.false) c.settle.ensures)

-- What a read behind the bytes held comes to.
read_on
    : (buffer : List ℕ) (f h : Flow) → Slurping (length buffer) f → lacks_of f (length buffer) ≡ true
    → More (length (take (length buffer - f.filled) (drop f.filled buffer))) f h → Slurping (length buffer) h × (h.turns < f.turns)
read_on buffer f h s l m =
    let e = lacking f (length buffer) l in
    let n : length (take (length buffer - f.filled) (drop f.filled buffer)) ≡ length buffer - f.filled = simp (length-take, length-drop) (omega arith) in
    slurp_more (length buffer) f h s l (rw n at m)

pub loop-from-smaller : goal.loop-from-smaller
loop-from-smaller g c =
    (read_on c.loop-from.buffer c.loop-from.flow c.more-flow.result c.loop-from.invariant.0 (sym c.lacks.ensures ∙ c.loop-from-test.true) c.more-flow.ensures).1

pub loop-from-preserved : goal.loop-from-preserved
loop-from-preserved g c =
    let f = c.loop-from.flow in
    let b = c.loop-from.buffer in
    let e = same_len_mid f.filled (length b - f.filled) b c.more-flow.new.part c.more-flow.auto.part in
    let s = read_on b f c.more-flow.result c.loop-from.invariant.0 (sym c.lacks.ensures ∙ c.loop-from-test.true) c.more-flow.ensures in
    (subst (λ (n : ℕ). Slurping n c.more-flow.result) (sym e) s.0, e ∙ c.loop-from.invariant.1)
