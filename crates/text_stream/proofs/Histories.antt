-- Where nothing happens any more all is printed. Assumes nothing.
use Prim.Native.Nat.{ℕ}
use native.Mathlib.Decide.{ℕ_discrete}
use mathlib.Core.Path.{◌≡◌, sym, ap, ◌∙◌}
use mathlib.Core.List.{List, [], ◌∷◌, ◌++◌, append-nil, append_assoc}
use lib.ListN.{length}
use borrow.Author.Tests.{eq-eqb, ne_eqb}
use Rattle.text_stream.specs.Stream.{Machine, Mid, between, byte_fed, byte_said, fed, said, ended, says_of, Keeps, Blind, History, Dead}
use Rattle.text_stream.proofs.Whole.{fed-append, said-append, whole}

-- A machine in which nothing happens any more stays so, and prints nothing.
module _ {S : Type 0} (M : Machine S) (keep : List ℕ → List ℕ) (s : S) (d : Dead M s) where
  lf_dead : (k : List ℕ) (x : ℕ) → x ≡ 10 → byte_fed M keep (record { state = s; kept = k }) x ≡ between s
  unfolding byte_fed
  lf_dead k x e = rw (eq-eqb x 10 e, d.line k)

  other_dead : (k : List ℕ) (x : ℕ) → (x ≡ 10 → ⊥) → byte_fed M keep (record { state = s; kept = k }) x ≡ record { state = s; kept = keep (k ++ (x ∷ [])) }
  unfolding byte_fed
  other_dead k x e = rw (ne_eqb x 10 e)

  mute_dead : (k : List ℕ) (x : ℕ) → byte_said M keep (record { state = s; kept = k }) x ≡ []
  unfolding byte_said
  mute_dead k x = elim (ℕ_discrete x 10) [ yes e ↦ rw (eq-eqb x 10 e) (d.text k) | no e ↦ rw (ne_eqb x 10 e) ]

  -- what is said of a text, and at its end
  rest_dead : (k t : List ℕ) → said M keep (record { state = s; kept = k }) t ++ ended M (fed M keep (record { state = s; kept = k }) t) ≡ []
  unfolding fed said ended
  rest_dead k [] =
      elim (ℕ_discrete (length k) 0) [
        | yes e ↦ rw (eq-eqb (length k) 0 e) d.end
        | no e ↦ rw (ne_eqb (length k) 0 e, d.text k, d.line k) d.end
      ]
  rest_dead k (x ∷ t) =
      let f : Mid S → List ℕ = λ m. said M keep m t ++ ended M (fed M keep m t) in
      rw (mute_dead k x)
      (elim (ℕ_discrete x 10) [
        | yes e ↦ ap f (lf_dead k x e) ∙ rest_dead [] t
        | no e ↦ ap f (other_dead k x e) ∙ rest_dead (keep (k ++ (x ∷ []))) t
      ])

module _ {S : Type 0} {M : Machine S} {keep : List ℕ → List ℕ} {s : S} {text words : List ℕ} {m : Mid S} where
  -- Where nothing happens any more all is printed, whatever else the input has.
  pub history_dead
      : Keeps keep → Blind M keep → {rest : List ℕ} → History M keep s text words m rest → Dead M m.state → (more : List ℕ)
      → words ≡ says_of M s (text ++ more)
  history_dead K B {rest} h d more =
      let n = rest ++ more in
      let e : text ++ more ≡ h.past ++ n = ap (λ (l : List ℕ). l ++ more) h.read ∙ append_assoc h.past rest more in
      sym
      (ap (says_of M s) e
      ∙ sym (whole M keep K B s (h.past ++ n))
      ∙ rw (fed-append M keep (between s) h.past n, said-append M keep (between s) h.past n, ← h.machine, ← h.said_of, append_assoc words (said M keep m n) (ended M (fed M keep m n)), rest_dead M keep m.state d m.kept n)
      (append-nil words))
