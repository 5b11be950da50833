-- What each attribute lets a request do, and the modes, as computed rows: a changed definition fails one of them, whatever the code says.
use Rattle.std.proofs.Common.{Ok, Err}
use Prim.Native.Nat.{ℕ}
use mathlib.Core.Path.{◌≡◌, refl}
use mathlib.Core.Bool.{true, false}
use Rattle.answers.specs.declared.status.Fault.TheVariants.{ReadOnly, NoCashback}
use Rattle.service_code.specs.declared.code.ServiceAttribute.{ServiceAttribute}
use Rattle.service_code.specs.declared.code.ServiceAttribute.TheVariants.{RandomReadWrite, RandomReadOnly, CyclicReadWrite, CyclicReadOnly, PurseDirect, PurseCashback, PurseDecrement, PurseReadOnly}
use Rattle.request_check.specs.Check.{mode_allowed, attribute_check}

-- a read may use mode 0, a write 0 and 1
pub modes
    : (mode_allowed false 0 ≡ true)
    × (mode_allowed false 1 ≡ false)
    × (mode_allowed false 2 ≡ false)
    × (mode_allowed true 0 ≡ true)
    × (mode_allowed true 1 ≡ true)
    × (mode_allowed true 2 ≡ false)
unfolding mode_allowed
modes = (refl, refl, refl, refl, refl, refl)

-- what may be written in mode 0
pub written
    : (attribute_check true RandomReadWrite 0 ≡ Ok tt)
    × (attribute_check true RandomReadOnly 0 ≡ Err ReadOnly)
    × (attribute_check true CyclicReadWrite 0 ≡ Ok tt)
    × (attribute_check true CyclicReadOnly 0 ≡ Err ReadOnly)
    × (attribute_check true PurseDirect 0 ≡ Ok tt)
    × (attribute_check true PurseCashback 0 ≡ Ok tt)
    × (attribute_check true PurseDecrement 0 ≡ Ok tt)
    × (attribute_check true PurseReadOnly 0 ≡ Err ReadOnly)
unfolding attribute_check
written = (refl, refl, refl, refl, refl, refl, refl, refl)

-- in mode 1 only a cashback purse is
pub given_back
    : (attribute_check true RandomReadWrite 1 ≡ Err NoCashback)
    × (attribute_check true RandomReadOnly 1 ≡ Err ReadOnly)
    × (attribute_check true CyclicReadWrite 1 ≡ Err NoCashback)
    × (attribute_check true CyclicReadOnly 1 ≡ Err ReadOnly)
    × (attribute_check true PurseDirect 1 ≡ Err NoCashback)
    × (attribute_check true PurseCashback 1 ≡ Ok tt)
    × (attribute_check true PurseDecrement 1 ≡ Err NoCashback)
    × (attribute_check true PurseReadOnly 1 ≡ Err ReadOnly)
unfolding attribute_check
given_back = (refl, refl, refl, refl, refl, refl, refl, refl)

-- a read may do anything
pub readable : (a : ServiceAttribute) (mode : ℕ) → attribute_check false a mode ≡ Ok tt
unfolding attribute_check
readable a mode = refl
