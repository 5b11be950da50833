-- `rules::element_by` meets its contract: each attribute is a case of the rule. Assumes nothing.
use mathlib.Core.Path.{refl, sym}
use mathlib.Core.Logic.{inl, inr}
use Rattle.request_rules.specs.Rules.{element_by}
use Rattle.request_rules.proofs.Lent.{cyclic_ends}
use Rattle.request_rules.proofs.element_by.Goals as goal

pub returns-in-RandomReadWrite : goal.returns-in-RandomReadWrite
unfolding element_by
returns-in-RandomReadWrite c = rw c.in-RandomReadWrite.is (record { value = refl; store_after = c.copy_block.ensures })

pub returns-in-CyclicReadWrite : goal.returns-in-CyclicReadWrite
unfolding element_by
returns-in-CyclicReadWrite c = rw c.in-CyclicReadWrite.is (let p = cyclic_ends c.args.number c.args.store.now c.cyclic_element.ensures in record { value = p.0; store_after = p.1 })

pub returns-in-PurseDirect : goal.returns-in-PurseDirect
unfolding element_by
returns-in-PurseDirect c = rw c.in-PurseDirect.is c.purse_in.ensures

pub returns-in-PurseCashback : goal.returns-in-PurseCashback
unfolding element_by
returns-in-PurseCashback c =
    rw (c.in-PurseCashback.is, sym c.cashback_in.ensures)
    c.purse_in-in-PurseCashback.ensures

pub returns-in-PurseDecrement : goal.returns-in-PurseDecrement
unfolding element_by
returns-in-PurseDecrement c = rw c.in-PurseDecrement.is c.purse_in-in-PurseDecrement.ensures

pub returns-in-RandomReadOnly : goal.returns-in-RandomReadOnly
unfolding element_by
returns-in-RandomReadOnly c = rw c.in-RandomReadOnly.is (record { value = refl; store_after = refl })

pub returns-in-CyclicReadOnly : goal.returns-in-CyclicReadOnly
unfolding element_by
returns-in-CyclicReadOnly c = elim c.in-CyclicReadOnly.is [
  | inl e ↦ rw e (record { value = refl; store_after = refl })
  | inr e ↦ rw e (record { value = refl; store_after = refl })
]
