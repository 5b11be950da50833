-- The eight attributes and their rights, and what a code says, as antt computes them. Assumes nothing.
use mathlib.Core.Path.{◌≡◌, refl}
use mathlib.Core.Bool.{true, false}
use Rattle.service_code.specs.declared.code.ServiceKind.TheVariants.{Random, Cyclic, Purse}
use Rattle.service_code.specs.declared.code.ServiceAttribute.TheVariants.{RandomReadWrite, RandomReadOnly, CyclicReadWrite, CyclicReadOnly, PurseDirect, PurseCashback, PurseDecrement, PurseReadOnly}
use Rattle.service_code.specs.Code.{rights, rights_of, requires_key, number_of, attributes_of}

-- kind, whether it is written, whether it takes mode 1
pub rights_rows
    : (rights_of RandomReadWrite ≡ rights Random true false)
    × (rights_of RandomReadOnly ≡ rights Random false false)
    × (rights_of CyclicReadWrite ≡ rights Cyclic true false)
    × (rights_of CyclicReadOnly ≡ rights Cyclic false false)
    × (rights_of PurseDirect ≡ rights Purse true false)
    × (rights_of PurseCashback ≡ rights Purse true true)
    × (rights_of PurseDecrement ≡ rights Purse true false)
    × (rights_of PurseReadOnly ≡ rights Purse false false)
rights_rows = (refl, refl, refl, refl, refl, refl, refl, refl)

-- Code 1048 is number 65 with attribute 08 and needs a key; 1049 does not.
pub code_rows
    : (number_of 0x1048 ≡ 65)
    × (attributes_of 0x1048 ≡ 0x08)
    × (requires_key 0x1048 ≡ true)
    × (requires_key 0x1049 ≡ false)
unfolding number_of attributes_of requires_key
code_rows = (refl, refl, refl, refl)
