-- `text_pull::writing::write_out` meets its contract: call by call what was taken is written, and the turns left fall. Assumes nothing.
use native.Mathlib.Omega.{arith}
use mathlib.Core.Path.{refl, sym, ◌∙◌}
use lib.ListN.{length-take, length-drop}
use Rattle.text_pull.proofs.Writes.{write-start, left_of_lem, write_on, write_done}
use Rattle.text_pull.proofs.writing.write_out.Goals as goal

pub loop-from-init : goal.loop-from-init
loop-from-init g c = (write-start _, refl)

pub put-after-requires : goal.put-after-requires
put-after-requires g c =
    let l = c.loop-from in
    let n = left_of_lem l.after (sym c.is_left.ensures ∙ c.loop-from-test.true) in
    (n.0, simp (length-take, length-drop) (omega (arith, l.invariant.0.made, l.invariant.1)), omega (arith, l.invariant.0.made, l.invariant.0.written))

pub loop-from-smaller : goal.loop-from-smaller
loop-from-smaller g c =
    let l = c.loop-from in
    (write_on _ l.after c.put-after.result l.invariant.0 (sym c.is_left.ensures ∙ c.loop-from-test.true) c.put-after.ensures).1

pub loop-from-preserved : goal.loop-from-preserved
loop-from-preserved g c =
    let l = c.loop-from in
    ((write_on _ l.after c.put-after.result l.invariant.0 (sym c.is_left.ensures ∙ c.loop-from-test.true) c.put-after.ensures).0, l.invariant.1)

pub returns : goal.returns
returns g c =
    let l = c.loop-from in
    write_done _ l.after l.invariant.0 c.give_up.result c.give_up.ensures
