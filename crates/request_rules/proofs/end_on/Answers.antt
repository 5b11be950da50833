-- `rules::end_on` meets its contract: the store was lent to the rule of its attribute. Assumes nothing.
use native.Mathlib.Omega.{arith}
use mathlib.Core.Path.{refl, sym}
use borrow.Author.Rules.{rules}
use Rattle.byte_parts.proofs.Part.{put-part}
use Rattle.request_rules.specs.Lens.{back, within}
use Rattle.request_rules.specs.Rules.{end_by, on_store}
use Rattle.request_rules.proofs.Lent.{store_lent}
use Rattle.request_rules.proofs.end_on.Goals as goal

pub returns-in-Some : goal.returns-in-Some
returns-in-Some c =
    let a = c.args in
    let k = c.end_by in
    let p = store_lent a.row a.stage.now (end_by a.row.attribute a.run.now) k.result k.new.store c.place_of-at.result c.place_of-at.ensures (omega arith) k.auto.store
    (rw c.in-Some.is (k.ensures.value, k.ensures.store_after)) in
    record { value = p.0; stage_after = p.1 }

pub returns-in-None : goal.returns-in-None
unfolding on_store within back end_by
returns-in-None c = rw c.in-None.is (record { value = refl; stage_after = sym (put-part _ _ _) })
