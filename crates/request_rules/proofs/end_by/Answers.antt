-- `rules::end_by` meets its contract: a cyclic store takes the run in, any other is left. Assumes nothing.
use mathlib.Core.Path.{◌≡◌, refl}
use mathlib.Core.List.{List}
use Prim.Native.Nat.{ℕ}
use borrow.Author.Rules.{rules}
use Rattle.std.proofs.Common.{Some}
use Rattle.service_code.specs.declared.code.ServiceAttribute.{ServiceAttribute}
use Rattle.service_code.specs.declared.code.ServiceAttribute.TheVariants.{RandomReadWrite, RandomReadOnly, CyclicReadWrite, CyclicReadOnly, PurseDirect, PurseCashback, PurseDecrement, PurseReadOnly}
use Rattle.answers.specs.Outcome.{passed}
use Rattle.request_rules.specs.Rules.{end_by}
use Rattle.request_rules.proofs.end_by.Goals as goal

-- only the end of a cyclic run does something
left : (a : ServiceAttribute) (run s : List ℕ) → (a ≡ CyclicReadWrite → ⊥) → end_by (Some a) run s ≡ passed s
unfolding end_by
left RandomReadWrite run s n = refl
left RandomReadOnly run s n = refl
left CyclicReadWrite run s n = absurd (n refl)
left CyclicReadOnly run s n = refl
left PurseDirect run s n = refl
left PurseCashback run s n = refl
left PurseDecrement run s n = refl
left PurseReadOnly run s n = refl

pub returns-in-CyclicReadWrite : goal.returns-in-CyclicReadWrite
unfolding end_by
returns-in-CyclicReadWrite c = rw c.in-CyclicReadWrite.is c.apply_cyclic_write.ensures

pub returns-in_default : goal.returns-in_default
returns-in_default c =
    rw (left c.args.attribute c.args.run.now c.args.store.now c.in_default.not-CyclicReadWrite) (record { value = refl; store_after = refl })
