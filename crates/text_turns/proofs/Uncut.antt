-- A machine that tells no more of a line than what is kept of it says the same with every byte kept. Assumes nothing.
use Prim.Native.Nat.{ℕ}
use native.Mathlib.Decide.{ℕ_discrete}
use mathlib.Core.Path.{◌≡◌, refl, sym, ap, ◌∙◌}
use mathlib.Core.List.{List, [], ◌∷◌, ◌++◌}
use borrow.Author.Tests.{eq-eqb, ne_eqb}
use Rattle.text_stream.specs.Stream.{Machine, Mid, between, byte_fed, byte_said, said, Keeps, Blind}

module _ {S : Type 0} (M : Machine S) (keep : List ℕ → List ℕ) (K : Keeps keep) (B : Blind M keep) where
  abbrev cut : S → List ℕ → Mid S
  cut s k = record { state = s; kept = keep k }

  abbrev uncut : S → List ℕ → Mid S
  uncut s k = record { state = s; kept = k }

  on : (s : S) (k t : List ℕ) → said M keep (cut s k) t ≡ said M (λ l. l) (uncut s k) t
  unfolding said byte_fed byte_said
  on s k [] = refl
  on s k (x ∷ t) =
      elim (ℕ_discrete x 10) [
        | yes e ↦
            let n : between (M.line s (keep k)) ≡ cut (M.line s k) [] =
            λ i. record { state = B.line s k i; kept = sym K.none i } in
            rw (eq-eqb x 10 e, B.text s k)
            (ap (λ (m : Mid S). M.text s k ++ said M keep m t) n ∙ ap (λ (w : List ℕ). M.text s k ++ w) (on (M.line s k) [] t))
        | no e ↦
            rw (ne_eqb x 10 e)
            (ap (λ (l : List ℕ). said M keep (record { state = s; kept = l }) t) (K.again k (x ∷ [])) ∙ on s (k ++ (x ∷ [])) t)
      ]

  pub said_uncut : (s : S) (t : List ℕ) → said M keep (between s) t ≡ said M (λ l. l) (between s) t
  said_uncut s t = ap (λ (l : List ℕ). said M keep (record { state = s; kept = l }) t) (sym K.none) ∙ on s [] t
