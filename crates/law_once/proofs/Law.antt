-- The law that serves every promise that is an equation.
use mathlib.Core.Path.{◌≡◌, sym, ap, ◌∙◌}
use seplogic.Ra.Ura.{Ura}
use base.Logic.{SProp, ent, sep, via, mono∗, fst∗, snd∗}
use contract.Monad.{fact, fact_use, fact_i}

-- an equation admits one answer
pub once : {X : Type 0} {d x y : X} → x ≡ d → y ≡ d → x ≡ y
once p q = p ∙ sym q

-- and so does one that speaks of another answer
pub once_by : {X Y : Type 0} {x x' : X} {y y' : Y} (f : X → Y) → x ≡ x' → y ≡ f x → y' ≡ f x' → y ≡ y'
once_by f e p q = p ∙ ap f e ∙ sym q

module _ {M : Type 1} (𝓤 : Ura M) where
  -- promises of one clause
  pub of_one : {φ ψ χ : Type 0} → (φ → ψ → χ) → ent 𝓤 (sep 𝓤 (fact 𝓤 φ) (fact 𝓤 ψ)) (fact 𝓤 χ)
  of_one {φ} {ψ} {χ} f =
      fact_use 𝓤 φ (fst∗ 𝓤 (fact 𝓤 φ) (fact 𝓤 ψ)) (λ x. fact_use 𝓤 ψ (snd∗ 𝓤 (fact 𝓤 φ) (fact 𝓤 ψ)) (λ y. fact_i 𝓤 χ _ (f x y)))

  -- of a clause and more of them
  more : {φ ψ χ : Type 0} (P Q : SProp 𝓤) → (φ → ψ → ent 𝓤 (sep 𝓤 P Q) (fact 𝓤 χ)) → ent 𝓤 (sep 𝓤 (sep 𝓤 (fact 𝓤 φ) P) (sep 𝓤 (fact 𝓤 ψ) Q)) (fact 𝓤 χ)
  more {φ} {ψ} P Q f =
      let X = sep 𝓤 (fact 𝓤 φ) P in
      let Y = sep 𝓤 (fact 𝓤 ψ) Q in
      fact_use 𝓤 φ (via 𝓤 X (fst∗ 𝓤 X Y) (fst∗ 𝓤 (fact 𝓤 φ) P)) (λ x.
      fact_use 𝓤 ψ (via 𝓤 Y (snd∗ 𝓤 X Y) (fst∗ 𝓤 (fact 𝓤 ψ) Q)) (λ y.
      via 𝓤 (sep 𝓤 P Q) (mono∗ 𝓤 {P = X} {P' = P} {Q = Y} {Q' = Q} (snd∗ 𝓤 (fact 𝓤 φ) P) (snd∗ 𝓤 (fact 𝓤 ψ) Q)) (f x y)))

  abbrev two : Type 0 → Type 0 → SProp 𝓤
  two φ φ' = sep 𝓤 (fact 𝓤 φ) (fact 𝓤 φ')

  abbrev three : Type 0 → Type 0 → Type 0 → SProp 𝓤
  three φ φ' φ'' = sep 𝓤 (fact 𝓤 φ) (two φ' φ'')

  abbrev four : Type 0 → Type 0 → Type 0 → Type 0 → SProp 𝓤
  four φ φ' φ'' φ''' = sep 𝓤 (fact 𝓤 φ) (three φ' φ'' φ''')

  -- of two
  pub of_two : {φ φ' ψ ψ' χ : Type 0} → (φ → φ' → ψ → ψ' → χ) → ent 𝓤 (sep 𝓤 (two φ φ') (two ψ ψ')) (fact 𝓤 χ)
  of_two {φ' = φ'} {ψ' = ψ'} f = more (fact 𝓤 φ') (fact 𝓤 ψ') (λ x y. of_one (λ x' y'. f x x' y y'))

  -- of three
  pub of_three : {φ φ' φ'' ψ ψ' ψ'' χ : Type 0} → (φ → φ' → φ'' → ψ → ψ' → ψ'' → χ) → ent 𝓤 (sep 𝓤 (three φ φ' φ'') (three ψ ψ' ψ'')) (fact 𝓤 χ)
  of_three {φ' = φ'} {φ'' = φ''} {ψ' = ψ'} {ψ'' = ψ''} f = more (two φ' φ'') (two ψ' ψ'') (λ x y. of_two (λ x' x'' y' y''. f x x' x'' y y' y''))

  -- of four
  pub of_facts_lem
      : {φ φ' φ'' φ''' ψ ψ' ψ'' ψ''' χ : Type 0} → (φ → φ' → φ'' → φ''' → ψ → ψ' → ψ'' → ψ''' → χ)
      → ent 𝓤 (sep 𝓤 (four φ φ' φ'' φ''') (four ψ ψ' ψ'' ψ''')) (fact 𝓤 χ)
  of_facts_lem {φ' = φ'} {φ''} {φ'''} {ψ' = ψ'} {ψ''} {ψ'''} f =
      more (three φ' φ'' φ''') (three ψ' ψ'' ψ''') (λ x y. of_three (λ x' x'' x''' y' y'' y'''. f x x' x'' x''' y y' y'' y'''))

  -- of four equations
  pub of_four
      : {X X' X'' X''' χ : Type 0} {d x y : X} {d' x' y' : X'} {d'' x'' y'' : X''} {d''' x''' y''' : X'''}
      → (x ≡ y → x' ≡ y' → x'' ≡ y'' → x''' ≡ y''' → χ)
      → ent 𝓤 (sep 𝓤 (four (x ≡ d) (x' ≡ d') (x'' ≡ d'') (x''' ≡ d''')) (four (y ≡ d) (y' ≡ d') (y'' ≡ d'') (y''' ≡ d'''))) (fact 𝓤 χ)
  of_four f = of_facts_lem (λ p p' p'' p''' q q' q'' q'''. f (once p q) (once p' q') (once p'' q'') (once p''' q'''))

  -- of five
  pub of_five
      : {W X X' X'' X''' χ : Type 0} {c v w : W} {d x y : X} {d' x' y' : X'} {d'' x'' y'' : X''} {d''' x''' y''' : X'''}
      → (v ≡ w → x ≡ y → x' ≡ y' → x'' ≡ y'' → x''' ≡ y''' → χ)
      → ent 𝓤 (sep 𝓤 (sep 𝓤 (fact 𝓤 (v ≡ c)) (four (x ≡ d) (x' ≡ d') (x'' ≡ d'') (x''' ≡ d'''))) (sep 𝓤 (fact 𝓤 (w ≡ c)) (four (y ≡ d) (y' ≡ d') (y'' ≡ d'') (y''' ≡ d'''))))
      (fact 𝓤 χ)
  of_five {d = d} {x} {y} {d'} {x'} {y'} {d''} {x''} {y''} {d'''} {x'''} {y'''} f =
      more (four (x ≡ d) (x' ≡ d') (x'' ≡ d'') (x''' ≡ d''')) (four (y ≡ d) (y' ≡ d') (y'' ≡ d'') (y''' ≡ d''')) (λ p q. of_four (f (once p q)))

  -- of six
  pub of_six
      : {U W X X' X'' X''' χ : Type 0} {b t u : U} {c v w : W} {d x y : X} {d' x' y' : X'} {d'' x'' y'' : X''} {d''' x''' y''' : X'''}
      → (t ≡ u → v ≡ w → x ≡ y → x' ≡ y' → x'' ≡ y'' → x''' ≡ y''' → χ)
      → ent 𝓤 (sep 𝓤 (sep 𝓤 (fact 𝓤 (t ≡ b)) (sep 𝓤 (fact 𝓤 (v ≡ c)) (four (x ≡ d) (x' ≡ d') (x'' ≡ d'') (x''' ≡ d''')))) (sep 𝓤 (fact 𝓤 (u ≡ b)) (sep 𝓤 (fact 𝓤 (w ≡ c)) (four (y ≡ d) (y' ≡ d') (y'' ≡ d'') (y''' ≡ d''')))))
      (fact 𝓤 χ)
  of_six {c = c} {v} {w} {d} {x} {y} {d'} {x'} {y'} {d''} {x''} {y''} {d'''} {x'''} {y'''} f =
      more (sep 𝓤 (fact 𝓤 (v ≡ c)) (four (x ≡ d) (x' ≡ d') (x'' ≡ d'') (x''' ≡ d'''))) (sep 𝓤 (fact 𝓤 (w ≡ c)) (four (y ≡ d) (y' ≡ d') (y'' ≡ d'') (y''' ≡ d''')))
      (λ p q. of_five (f (once p q)))

  -- nothing was lent, and the result is given by an equation
  pub result : {X W : Type 0} {d x y : X} {u v : W} → u ≡ v → ent 𝓤 (sep 𝓤 (fact 𝓤 (x ≡ d)) (fact 𝓤 (y ≡ d))) (fact 𝓤 ((x ≡ y) × (u ≡ v)))
  result e = of_one (λ p q. (once p q, e))
