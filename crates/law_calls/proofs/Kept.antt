-- What follows from a promise of so many clauses, where it is kept.
use seplogic.Ra.Ura.{Ura}
use base.Logic.{SProp, ent, sep, via, fst∗, snd∗}
use contract.Monad.{fact, fact_mono, fact_use}

module _ {M : Type 1} (𝓤 : Ura M) where
  -- of a clause and more of them
  more : {φ χ : Type 0} (P : SProp 𝓤) → (φ → ent 𝓤 P (fact 𝓤 χ)) → ent 𝓤 (sep 𝓤 (fact 𝓤 φ) P) (fact 𝓤 χ)
  more {φ} P f = fact_use 𝓤 φ (fst∗ 𝓤 (fact 𝓤 φ) P) (λ x. via 𝓤 P (snd∗ 𝓤 (fact 𝓤 φ) P) (f x))

  abbrev two : Type 0 → Type 0 → SProp 𝓤
  two φ φ' = sep 𝓤 (fact 𝓤 φ) (fact 𝓤 φ')

  abbrev three : Type 0 → Type 0 → Type 0 → SProp 𝓤
  three φ φ' φ'' = sep 𝓤 (fact 𝓤 φ) (two φ' φ'')

  -- of one
  pub of_one : {φ χ : Type 0} → (φ → χ) → ent 𝓤 (fact 𝓤 φ) (fact 𝓤 χ)
  of_one {φ} {χ} f = fact_mono 𝓤 φ χ f

  -- of two
  pub of_two : {φ φ' χ : Type 0} → (φ → φ' → χ) → ent 𝓤 (two φ φ') (fact 𝓤 χ)
  of_two {φ' = φ'} f = more (fact 𝓤 φ') (λ x. of_one (f x))

  -- of three
  pub of_three : {φ φ' φ'' χ : Type 0} → (φ → φ' → φ'' → χ) → ent 𝓤 (three φ φ' φ'') (fact 𝓤 χ)
  of_three {φ' = φ'} {φ'' = φ''} f = more (two φ' φ'') (λ x. of_two (f x))

  -- of four
  pub of_four : {φ φ' φ'' φ''' χ : Type 0} → (φ → φ' → φ'' → φ''' → χ) → ent 𝓤 (sep 𝓤 (fact 𝓤 φ) (three φ' φ'' φ''')) (fact 𝓤 χ)
  of_four {φ' = φ'} {φ'' = φ''} {φ''' = φ'''} f = more (three φ' φ'' φ''') (λ x. of_three (f x))
