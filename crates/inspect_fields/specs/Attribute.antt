-- The fields that answer `attr`: number, kind, right, and whether a key is needed.
use Rattle.std.specs.Prelude.{ℕ, Bool, true, false, List, [], ◌∷◌, ◌++◌, Option, Some, None}
use Rattle.byte_parts.specs.Letters.{dash, lf, tab, a, b, c, d, e, f, h, i, k, l, m, n, o, p, r, s, t, u, w, y}
use Rattle.service_code.specs.declared.code.ServiceKind.{ServiceKind}
use Rattle.service_code.specs.declared.code.ServiceKind.TheVariants.{Random, Cyclic, Purse}
use Rattle.service_code.specs.declared.code.ServiceAttribute.{ServiceAttribute}
use Rattle.service_code.specs.declared.code.ServiceAttribute.TheVariants.{RandomReadWrite, RandomReadOnly, CyclicReadWrite, CyclicReadOnly, PurseDirect, PurseCashback, PurseDecrement, PurseReadOnly}
use Rattle.service_code.specs.Code.{number_of, attribute_of, kind_of, requires_key}
use Rattle.text_numbers.specs.Decimal.{dec_text}
use Rattle.text_print.specs.Print.{closed}

-- `random`, `cyclic`, `purse`
abbrev pub kind_text : ServiceKind → List ℕ
kind_text Random = r ∷ a ∷ n ∷ d ∷ o ∷ m ∷ []
kind_text Cyclic = c ∷ y ∷ c ∷ l ∷ i ∷ c ∷ []
kind_text Purse = p ∷ u ∷ r ∷ s ∷ e ∷ []

-- `read-write`, `read-only`; of purses `direct`, `cashback`, `decrement`, `read-only`
abbrev pub read_write : List ℕ
read_write = r ∷ e ∷ a ∷ d ∷ dash ∷ w ∷ r ∷ i ∷ t ∷ e ∷ []

abbrev pub read_only : List ℕ
read_only = r ∷ e ∷ a ∷ d ∷ dash ∷ o ∷ n ∷ l ∷ y ∷ []

abbrev pub right_text : ServiceAttribute → List ℕ
right_text RandomReadWrite = read_write
right_text RandomReadOnly = read_only
right_text CyclicReadWrite = read_write
right_text CyclicReadOnly = read_only
right_text PurseDirect = d ∷ i ∷ r ∷ e ∷ c ∷ t ∷ []
right_text PurseCashback = c ∷ a ∷ s ∷ h ∷ b ∷ a ∷ c ∷ k ∷ []
right_text PurseDecrement = d ∷ e ∷ c ∷ r ∷ e ∷ m ∷ e ∷ n ∷ t ∷ []
right_text PurseReadOnly = read_only

-- `key`, `free`
abbrev pub key_text : Bool → List ℕ
key_text true = k ∷ e ∷ y ∷ []
key_text false = f ∷ r ∷ e ∷ e ∷ []

abbrev pub defined_fields : ServiceAttribute → Bool → List ℕ
defined_fields a keyed = closed tab (kind_text (kind_of a)) ++ closed tab (right_text a) ++ closed lf (key_text keyed)

-- an undefined attribute has `-` (45) three times
abbrev pub rights_fields : ℕ → Option ServiceAttribute → List ℕ
rights_fields code (Some a) = defined_fields a (requires_key code)
rights_fields code None = closed tab (dash ∷ []) ++ closed tab (dash ∷ []) ++ closed lf (dash ∷ [])

-- RULES 19.2
unfoldable pub attribute_fields : ℕ → List ℕ
attribute_fields code = closed tab (dec_text (number_of code)) ++ rights_fields code (attribute_of code)
