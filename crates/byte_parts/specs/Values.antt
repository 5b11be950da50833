-- What bytes may hold.
use Rattle.std.specs.Prelude.{ℕ, ◌<◌, ◌^◌, List, Bool, true, false, get_or}

-- every element is a byte
abbrev pub Bytes : List ℕ → Type 0
Bytes s = (i : ℕ) → get_or s i 0 < 2 ^ 8

-- yes or no as a number
-- RULES 15.1
abbrev pub flag_of : Bool → ℕ
flag_of false = 0
flag_of true = 1
