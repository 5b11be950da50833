-- What a test comes to, by what the code found. Assumes nothing.
use mathlib.Core.Path.{◌≡◌, sym, ◌∙◌}
use mathlib.Core.Bool.{Bool, true, false, cond}
use Rattle.std.proofs.Common.{Option}
use Rattle.inspect_ask.specs.declared.Question.{Question}

-- A test that was found to hold, or to fail, does.
pub so : {test found b : Bool} → found ≡ test → found ≡ b → test ≡ b
so p e = sym p ∙ e

module _ (test : Bool) (own rest : Option Question) {found : Bool} {r : Option Question} where
  -- A name that the line has decides what is asked,
  pub has_name_lem : found ≡ test → found ≡ true → r ≡ own → r ≡ cond test own rest
  has_name_lem p e k = rw (so p e) k

  -- and one that it has not leaves that to the names behind it.
  pub other_name : found ≡ test → found ≡ false → r ≡ rest → r ≡ cond test own rest
  other_name p e k = rw (so p e) k

pub ruleset names = (has_name_lem, other_name)
