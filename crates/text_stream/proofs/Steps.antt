-- Bytes up to a LF, and what a machine makes of them. Assumes nothing.
use Prim.Native.Nat.{ℕ, zero, suc, ◌≤◌, ◌<◌}
use native.Mathlib.Omega.{arith}
use native.Mathlib.Decide.{ℕ_discrete}
use mathlib.Core.Path.{◌≡◌, refl, sym, ap, ◌∙◌}
use mathlib.Core.List.{List, [], ◌∷◌, ◌++◌, append-nil, append_assoc}
use lib.ListN.{length, take, get_or}
use borrow.Author.Tests.{eq-eqb, ne_eqb}
use Rattle.byte_scan.specs.Bytes.{index_of, index_after}
use Rattle.text_stream.specs.Stream.{Machine, Mid, byte_fed, byte_said, fed, said, Keeps}

-- Where a LF was found one stands.
pub lf_at : (t : List ℕ) → index_of 10 t < length t → get_or t (index_of 10 t) 0 ≡ 10
unfolding index_of index_after
lf_at [] h = absurd (omega arith)
lf_at (x ∷ t) h =
    elim (ℕ_discrete x 10) [
      | yes e ↦ rw (eq-eqb x 10 e) e
      | no e ↦ rw (ne_eqb x 10 e) (lf_at t (omega (arith, rw (ne_eqb x 10 e) at h)))
    ]

-- It is found within the text.
pub lf_within : (t : List ℕ) → index_of 10 t ≤ length t
unfolding index_of index_after
lf_within [] = omega arith
lf_within (x ∷ t) =
    elim (ℕ_discrete x 10) [
      | yes e ↦ rw (eq-eqb x 10 e) (omega arith)
      | no e ↦ rw (ne_eqb x 10 e) (omega (arith, lf_within t))
    ]

-- Before it none stands.
head_not : (x : ℕ) (t : List ℕ) (k : ℕ) → suc k ≤ index_of 10 (x ∷ t) → (x ≡ 10 → ⊥) × (k ≤ index_of 10 t)
unfolding index_of index_after
head_not x t k h =
    elim (ℕ_discrete x 10) [
      | yes e ↦ absurd (omega (arith, rw (eq-eqb x 10 e) at h))
      | no e ↦ (e, omega (arith, rw (ne_eqb x 10 e) at h))
    ]

module _ {S : Type 0} (M : Machine S) (keep : List ℕ → List ℕ) where
  -- a machine that has kept more of its line
  abbrev pub kept_more : Mid S → List ℕ → Mid S
  kept_more m t = record { state = m.state; kept = keep (m.kept ++ t) }

  -- A byte that is no LF is kept and prints nothing.
  fed_other : (m : Mid S) (x : ℕ) → (x ≡ 10 → ⊥) → byte_fed M keep m x ≡ kept_more m (x ∷ [])
  unfolding byte_fed
  fed_other m x e = rw (ne_eqb x 10 e)

  said_other : (m : Mid S) (x : ℕ) → (x ≡ 10 → ⊥) → byte_said M keep m x ≡ []
  unfolding byte_said
  said_other m x e = rw (ne_eqb x 10 e)

  module _ (K : Keeps keep) where
    keep-keep : (l : List ℕ) → keep (keep l) ≡ keep l
    keep-keep l = rw (append-nil (keep l), append-nil l) at (K.again l [])

    kept-none : (m : Mid S) → keep m.kept ≡ m.kept → kept_more m [] ≡ m
    kept-none m e = ap (λ (r : List ℕ). record { state = m.state; kept = r }) (ap keep (append-nil m.kept) ∙ e)

    -- Bytes without a LF are kept.
    pub fed-plain : (m : Mid S) (t : List ℕ) (k : ℕ) → k ≤ index_of 10 t → keep m.kept ≡ m.kept → fed M keep m (take k t) ≡ kept_more m (take k t)
    unfolding fed byte_fed
    fed-plain m t zero h e = sym (kept-none m e)
    fed-plain m [] (suc k) h e = sym (kept-none m e)
    fed-plain m (x ∷ t) (suc k) h e =
        let n = head_not x t k h in
        let l : List ℕ = m.kept ++ (x ∷ []) in
        ap (λ (r : Mid S). fed M keep r (take k t)) (fed_other m x n.0)
        ∙ (fed-plain (kept_more m (x ∷ [])) t k n.1 (keep-keep l)
        ∙ ap (λ (r : List ℕ). record { state = m.state; kept = r }) (K.again l (take k t) ∙ ap keep (append_assoc m.kept (x ∷ []) (take k t))))

    -- They print nothing.
    pub said_plain : (m : Mid S) (t : List ℕ) (k : ℕ) → k ≤ index_of 10 t → said M keep m (take k t) ≡ []
    unfolding said byte_said
    said_plain m t zero h = refl
    said_plain m [] (suc k) h = refl
    said_plain m (x ∷ t) (suc k) h =
        let n = head_not x t k h in
        rw (said_other m x n.0) (said_plain (byte_fed M keep m x) t k n.1)
