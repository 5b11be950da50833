-- Codes in hex: one, or several joined. Assumes nothing.
use Rattle.std.specs.Prelude.{ℕ, ◌+◌, ◌*◌, Bool, cond, ◌&&◌, List, eqb, length, Option, Some, None}
use Rattle.text_numbers.specs.Digit.{digits, spelt}
use Rattle.text_numbers.specs.Hex.{grouped, pairs, unhex}

-- codes and versions are four hex digits
unfoldable pub hex16 : List ℕ → Option ℕ
hex16 s = cond (eqb (length s) 4 && digits 16 s) (Some (spelt 16 0 s)) None

-- several codes stand joined, four digits each; `-` for none
-- RULES 11.3
unfoldable pub codes_field : List ℕ → Bool
codes_field s = grouped 4 s

-- the codes that joined digits spell, each with its high byte first
-- RULES 11.3
unfoldable pub codes_of : List ℕ → List ℕ
codes_of s = pairs (λ high low. high * 256 + low) (unhex s)
