-- `apply_cyclic_write` meets its contract: each way out is a case of the rule. Assumes nothing.
use native.Mathlib.Omega.{arith}
use mathlib.Core.Path.{refl, sym, ◌∙◌}
use Rattle.rule_cyclic.proofs.Ring.{cyclic_long, cyclic_kept, cyclic_moved}
use Rattle.rule_cyclic.proofs.apply_cyclic_write.Goals as goal

pub returns-then-store-run : goal.returns-then-store-run
returns-then-store-run c =
    let a = c.args in
    rw (cyclic_long a.store.now a.run.now c.if-store-run.true) (record { value = refl; store_after = refl })

pub returns-then-begins : goal.returns-then-begins
returns-then-begins c =
    let a = c.args in
    let e = sym c.begins.ensures ∙ c.if-begins.true in
    rw (cyclic_kept a.store.now a.run.now (omega arith) e) (record { value = refl; store_after = refl })

pub returns : goal.returns
returns c =
    let a = c.args in
    let e = sym c.begins.ensures ∙ c.if-begins.false in
    rw (cyclic_moved a.store.now a.run.now (omega arith) e) (record { value = refl; store_after = c.push.ensures })
