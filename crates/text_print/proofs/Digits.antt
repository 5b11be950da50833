-- Numbers of 16 bits as four hex digits each. Assumes nothing.
use Prim.Native.Nat.{ℕ, ◌+◌, ◌/◌, ◌%◌, ◌<◌}
use native.Mathlib.Omega.{arith}
use native.Mathlib.Numerals.{add-one}
use mathlib.Core.Path.{◌≡◌, refl, ap}
use mathlib.Core.List.{List, [], ◌∷◌, ◌++◌}
use lib.ListN.{length, take, get_or}
use lib.Seq.{take-suc}
use Rattle.text_numbers.specs.Hex.{capital, to_hex, hex_text}
use Rattle.text_print.specs.Print.{high_first, four_digits}

high_append : (a b : List ℕ) → high_first (a ++ b) ≡ high_first a ++ high_first b
unfolding high_first
high_append [] b = refl
high_append (n ∷ a) b = ap (λ (r : List ℕ). (n / 256) ∷ (n % 256) ∷ r) (high_append a b)

hex_append : (a b : List ℕ) → to_hex (a ++ b) ≡ to_hex a ++ to_hex b
unfolding to_hex
hex_append [] b = refl
hex_append (x ∷ a) b = ap (λ (r : List ℕ). capital (x / 16) ∷ capital (x % 16) ∷ r) (hex_append a b)

-- One number more.
pub one_more : (ns : List ℕ) (i : ℕ) → i < length ns → to_hex (high_first (take (i + 1) ns)) ≡ to_hex (high_first (take i ns)) ++ to_hex (high_first (get_or ns i 0 ∷ []))
one_more ns i h =
    rw (add-one i, take-suc ns i 0 h, high_append (take i ns) (get_or ns i 0 ∷ []))
    (hex_append (high_first (take i ns)) (high_first (get_or ns i 0 ∷ [])))

-- No number yet.
pub none_yet : (ns : List ℕ) → to_hex (high_first (take 0 ns)) ≡ []
unfolding high_first to_hex
none_yet ns = refl

-- No number is `-`.
pub no_digits_lem : (ns : List ℕ) → length ns ≡ 0 → four_digits ns ≡ 45 ∷ []
unfolding high_first hex_text
no_digits_lem [] h = refl
no_digits_lem (n ∷ ns) h = absurd (omega arith)

-- Others are their digits.
pub some-digits : (ns : List ℕ) → (length ns ≡ 0 → ⊥) → four_digits ns ≡ to_hex (high_first ns)
unfolding high_first hex_text
some-digits [] h = absurd (h refl)
some-digits (n ∷ ns) h = refl

-- One number.
pub four : (n : ℕ) → hex_text ((n / 256) ∷ (n % 256) ∷ []) ≡ to_hex (high_first (n ∷ []))
unfolding high_first hex_text
four n = refl

pub four_long : (n : ℕ) → length (to_hex (high_first (n ∷ []))) ≡ 4
unfolding high_first to_hex
four_long n = refl
