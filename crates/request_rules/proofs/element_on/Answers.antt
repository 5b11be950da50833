-- `rules::element_on` meets its contract: the store was lent to the rule of its attribute. Assumes nothing.
use native.Mathlib.Omega.{arith}
use mathlib.Core.Path.{refl}
use borrow.Author.Rules.{rules}
use Rattle.request_rules.specs.Lens.{back, within}
use Rattle.request_rules.specs.Rules.{element_by, on_store}
use Rattle.request_rules.proofs.Lent.{store_lent}
use Rattle.request_rules.proofs.element_on.Goals as goal

pub returns-in-Some : goal.returns-in-Some
returns-in-Some c =
    let a = c.args in
    let k = c.element_by in
    let p = store_lent a.row a.stage.now (element_by a.row.attribute a.row.limit a.number a.mode a.block.now) k.result k.new.store c.place_of-at.result c.place_of-at.ensures (omega arith) k.auto.store
    (rw c.in-Some.is (k.ensures.value, k.ensures.store_after)) in
    record { value = p.0; stage_after = p.1 }

pub returns-in-None : goal.returns-in-None
unfolding on_store within back element_by
returns-in-None c = rw c.in-None.is (record { value = refl; stage_after = refl })
