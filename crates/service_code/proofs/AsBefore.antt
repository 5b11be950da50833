-- An attribute decided by its kind bits and rights bits is what the list of eight values, by which the card decided once, says of it.
-- Assumes nothing.
use Rattle.std.proofs.Common.{Option, Some, None}
use Prim.Native.Nat.{ℕ, zero, suc, ◌<◌, ◌*◌, ◌/◌, ◌%◌}
use native.Mathlib.Omega.{arith}
use mathlib.Core.Path.{◌≡◌, refl, sym, ap, ◌∙◌}
use mathlib.Core.Bool.{cond}
use mathlib.Core.List.{List, [], ◌∷◌}
use lib.Dec.{eqb}
use lib.ListN.{get_or, drop}
use Rattle.service_code.specs.declared.code.ServiceAttribute.TheVariants.{RandomReadWrite, RandomReadOnly, CyclicReadWrite, CyclicReadOnly, PurseDirect, PurseCashback, PurseDecrement, PurseReadOnly}
use Rattle.service_code.specs.Code.{kind_bits, upper_bit, lower_bit, table_of, decoded_of}
use Rattle.service_code.specs.declared.code.ServiceAttribute.{ServiceAttribute}

-- the list of eight values, without the key bit
unfoldable pub eight_values : ℕ → Option ServiceAttribute
eight_values a =
    cond (eqb a 0x08) (Some RandomReadWrite)
    (cond (eqb a 0x0a) (Some RandomReadOnly)
    (cond (eqb a 0x0c) (Some CyclicReadWrite)
    (cond (eqb a 0x0e) (Some CyclicReadOnly)
    (cond (eqb a 0x10) (Some PurseDirect)
    (cond (eqb a 0x12) (Some PurseCashback)
    (cond (eqb a 0x14) (Some PurseDecrement)
    (cond (eqb a 0x16) (Some PurseReadOnly) None)))))))

unfoldable pub listed : ℕ → Option ServiceAttribute
listed attribute = eight_values (attribute % 64 / 2 * 2)

-- what f says of 0, 1, .. up to n - 1
unfoldable counted : (ℕ → Option ServiceAttribute) → ℕ → List (Option ServiceAttribute)
counted f zero = []
counted f (suc n) = f 0 ∷ counted (λ k. f (suc k)) n

-- Where two say the same of all below n, they say the same of each.
each : (f g : ℕ → Option ServiceAttribute) (n : ℕ) → counted f n ≡ counted g n → (k : ℕ) → k < n → f k ≡ g k
unfolding counted
each f g zero e k h = absurd (omega arith)
each f g (suc n) e zero h = ap (λ xs. get_or xs 0 None) e
each f g (suc n) e (suc k) h = each (λ j. f (suc j)) (λ j. g (suc j)) n (ap (λ xs. drop 1 xs) e) k (omega (arith, h))

-- All 64 attributes, computed.
all_64 : counted decoded_of 64 ≡ counted listed 64
unfolding counted decoded_of table_of listed eight_values
all_64 = refl

-- Only six bits count, for either.
six_bits_lem : (attribute : ℕ) → decoded_of attribute ≡ decoded_of (attribute % 64)
unfolding decoded_of
six_bits_lem attribute =
    let kind : attribute % 64 / 8 ≡ attribute % 64 % 64 / 8 = omega arith in
    let upper : attribute / 4 % 2 ≡ attribute % 64 / 4 % 2 = omega arith in
    let lower : attribute / 2 % 2 ≡ attribute % 64 / 2 % 2 = omega arith in
    rw (kind, upper, lower)

listed_six : (attribute : ℕ) → listed attribute ≡ listed (attribute % 64)
unfolding listed
listed_six attribute = ap (λ a. eight_values (a / 2 * 2)) (omega arith)

-- Every attribute, undefined ones included, is decoded as before.
pub as_before : (attribute : ℕ) → decoded_of attribute ≡ listed attribute
as_before attribute =
    six_bits_lem attribute ∙ each decoded_of listed 64 all_64 (attribute % 64) (omega arith) ∙ sym (listed_six attribute)
