-- Service codes and their attributes. Manual, section 3.4.1: figure 3-9 parts a code into number and attribute,
-- table 3-2 lists the attributes, tables 3-3, 3-4 and 3-6 what each allows.
use Rattle.std.specs.Prelude.{ℕ, ◌*◌, ◌/◌, ◌%◌, Bool, true, false, cond, eqb, Option, Some, None}
use Rattle.service_code.specs.declared.code.ServiceKind.{ServiceKind}
use Rattle.service_code.specs.declared.code.ServiceKind.TheVariants.{Random, Cyclic, Purse}
use Rattle.service_code.specs.declared.code.ServiceAttribute.{ServiceAttribute}
use Rattle.service_code.specs.declared.code.ServiceAttribute.TheVariants.{RandomReadWrite, RandomReadOnly, CyclicReadWrite, CyclicReadOnly, PurseDirect, PurseCashback, PurseDecrement, PurseReadOnly}

-- figure 3-9: the service number is the code divided by 64
-- RULES 3.1
unfoldable pub number_of : ℕ → ℕ
number_of code = code / 64

-- figure 3-9: the attribute is the code's low six bits
-- RULES 3.1
unfoldable pub attributes_of : ℕ → ℕ
attributes_of code = code % 64

-- Table 3-2 of the manual (section 3.4.1) has an attribute's six bits as kkk u l a: three kind bits, two rights bits, and the bit that says whether a key is needed.
-- RULES 3.2
abbrev pub kind_bits : ℕ → ℕ
kind_bits attribute = attribute % 64 / 8

abbrev pub upper_bit : ℕ → Bool
upper_bit attribute = eqb (attribute / 4 % 2) 1

abbrev pub lower_bit : ℕ → Bool
lower_bit attribute = eqb (attribute / 2 % 2) 1

-- kind 001: u parts random from cyclic services, l read/write from read-only ones
-- RULES 3.2
abbrev pub plain_of : Bool → Bool → ServiceAttribute
plain_of false false = RandomReadWrite
plain_of false true = RandomReadOnly
plain_of true false = CyclicReadWrite
plain_of true true = CyclicReadOnly

-- kind 010: a purse, with its right in both bits
-- RULES 3.2
abbrev pub purse_of : Bool → Bool → ServiceAttribute
purse_of false false = PurseDirect
purse_of false true = PurseCashback
purse_of true false = PurseDecrement
purse_of true true = PurseReadOnly

-- every other kind is undefined
-- RULES 3.2
unfoldable pub table_of : ℕ → Bool → Bool → Option ServiceAttribute
table_of kind upper lower =
    cond (eqb kind 1) (Some (plain_of upper lower))
    (cond (eqb kind 2) (Some (purse_of upper lower))
    None)

-- the key bit says nothing of what a service is for
-- RULES 3.2
unfoldable pub decoded_of : ℕ → Option ServiceAttribute
decoded_of attribute = table_of (kind_bits attribute) (upper_bit attribute) (lower_bit attribute)

unfoldable pub attribute_of : ℕ → Option ServiceAttribute
attribute_of code = decoded_of (attributes_of code)

-- what an attribute says of its service: of what kind it is, whether it is ever written, whether mode 1 (cashback) is accepted
pub record Rights : Type 0 where
  pub kind : ServiceKind
  pub write : Bool
  pub cashback : Bool

abbrev pub rights : ServiceKind → Bool → Bool → Rights
rights kind write cashback = record { kind = kind; write = write; cashback = cashback }

-- tables 3-3, 3-4 and 3-6: a read-only service is never written, and cashback is for the one purse attribute that has it
-- RULES 3.2
abbrev pub rights_of : ServiceAttribute → Rights
rights_of RandomReadWrite = rights Random true false
rights_of RandomReadOnly = rights Random false false
rights_of CyclicReadWrite = rights Cyclic true false
rights_of CyclicReadOnly = rights Cyclic false false
rights_of PurseDirect = rights Purse true false
rights_of PurseCashback = rights Purse true true
rights_of PurseDecrement = rights Purse true false
rights_of PurseReadOnly = rights Purse false false

-- RULES 3.2
abbrev pub kind_of : ServiceAttribute → ServiceKind
kind_of a = (rights_of a).kind

-- RULES 3.2
abbrev pub allows_write : ServiceAttribute → Bool
allows_write a = (rights_of a).write

-- RULES 3.2
abbrev pub allows_cashback : ServiceAttribute → Bool
allows_cashback a = (rights_of a).cashback

-- the kind of a code whose attribute is defined
abbrev pub decoded_kind_of : Option ServiceAttribute → Option ServiceKind
decoded_kind_of (Some a) = Some (kind_of a)
decoded_kind_of None = None

unfoldable pub code_kind_of : ℕ → Option ServiceKind
code_kind_of code = decoded_kind_of (attribute_of code)

-- table 3-2: lowest bit 0 means that the service needs a key
-- RULES 3.3
unfoldable pub requires_key : ℕ → Bool
requires_key code = eqb (code % 2) 0
