-- Each byte of a name is a digit or of `.in`.
use Rattle.std.proofs.Common.{[], ◌∷◌, rules}
use Rattle.std.proofs.lemmas.Str.Ascii.{IsAscii-from_all}
use Rattle.test_stored.proofs.name.Goals as goal

pub returns-clause-ascii : goal.returns-clause-ascii
returns-clause-ascii c =
    IsAscii-from_all (c.last_digit.result ∷ c.last_digit-2.result ∷ c.last_digit-3.result ∷ c.last_digit-4.result ∷ 46 ∷ 105 ∷ 110 ∷ []) (search rules)
