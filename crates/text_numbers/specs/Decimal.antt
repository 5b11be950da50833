-- Decimals: no leading zero, and a sign only where the number is negative. Assumes nothing.
use Rattle.std.specs.Prelude.{ℕ, zero, suc, ◌+◌, ◌-◌, ◌/◌, ◌%◌, Bool, false, cond, List, [], ◌∷◌, ◌++◌, ltb, leb, eqb, pos, negsuc, length, get_or, drop, Option, Some, None, ℤ}
use Rattle.text_numbers.specs.Digit.{is_between, digits, spelt}

-- decimals have no leading zero (48): digits, one or more, and a first 0 stands alone
unfoldable pub plain : List ℕ → Bool
plain s =
    cond (eqb (length s) 0) false
    (cond (eqb (get_or s 0 0) 48) (eqb (length s) 1) (digits 10 s))

-- a number that its field's width can hold
unfoldable pub up_to : ℕ → ℕ → Option ℕ
up_to most n = cond (leb n most) (Some n) None

-- a decimal, none where it is malformed
-- RULES 11.4
unfoldable pub decimal : ℕ → List ℕ → Option ℕ
decimal most s = cond (plain s) (up_to most (spelt 10 0 s)) None

-- a decimal without a sign, as a number of 32 bits with a sign
unfoldable pub positive : Option ℕ → Option ℤ
positive (Some n) = cond (ltb n 2147483648) (Some (pos n)) None
positive None = None

-- a decimal after a sign: below 0, and no lower than 32 bits hold
unfoldable pub negative : Option ℕ → Option ℤ
negative (Some n) = cond (is_between 1 2147483648 n) (Some (negsuc (n - 1))) None
negative None = None

-- a decimal of 32 bits with a sign: only a negative one has a sign (45)
-- RULES 11.4
unfoldable pub signed : List ℕ → Option ℤ
signed s = cond (eqb (get_or s 0 0) 45) (negative (decimal 4294967295 (drop 1 s))) (positive (decimal 4294967295 s))

-- the last k digits of a number, none for 0
unfoldable pub digits_of : ℕ → ℕ → List ℕ
digits_of zero n = []
digits_of (suc k) zero = []
digits_of (suc k) (suc n) = digits_of k (suc n / 10) ++ ((48 + suc n % 10) ∷ [])

-- a number as a decimal: `0` (48), or its digits, of which n are enough
unfoldable pub dec_text : ℕ → List ℕ
dec_text zero = 48 ∷ []
dec_text (suc n) = digits_of (suc n) (suc n)
