-- What becomes of a value of the state over the walk of any runs, element by element, if no run's end changes it. Assumes nothing.
use Prim.Native.Nat.{ℕ, zero, suc, ◌+◌, ◌<◌}
use native.Mathlib.Omega.{arith}
use native.Mathlib.Nat.{add-zero}
use mathlib.Core.Path.{◌≡◌, refl, sym, ap, ◌∙◌}
use mathlib.Core.Bool.{Bool, true, false, cond}
use mathlib.Core.List.{List, [], ◌∷◌, ◌++◌}
use lib.ListN.{length, get_or}
use Rattle.request_runs.specs.Runs.{Walked, good, then, scan, walk}
use Rattle.request_runs.proofs.Steps.{then-good}
use Rattle.request_runs.proofs.WalkSteps.{flat, AllFrom, all_append}

-- a value, changed by each element in order
unfoldable pub folded : {E A : Type 0} → (ℕ → E → A → A) → ℕ → List E → A → A
folded change i [] v = v
folded change i (x ∷ xs) v = folded change (i + 1) xs (change i x v)

module _ {E A : Type 0} (P : ℕ → E → Type 0) (change : ℕ → E → A → A) where
  -- two lists, one after the other
  folded_append : (i : ℕ) (xs ys : List E) (v : A) → folded change i (xs ++ ys) v ≡ folded change (i + length xs) ys (folded change i xs v)
  unfolding folded
  folded_append i [] ys v = rw (add-zero i)
  folded_append i (x ∷ xs) ys v =
      let e : i + 1 + length xs ≡ i + suc (length xs) = omega arith in
      rw e at (folded_append (i + 1) xs ys (change i x v))

  module _ {S : Type 0} (one : ℕ → E → S → Walked S) (close : ℕ → E → ℕ → S → Walked S) (Fit : S → Type 0) (value : S → A) where
    -- each element that passes changes the value so, and no run's end changes it
    pub record Tracks : Type 0 where
      pub one_is_lem : (i : ℕ) (x : E) (s t : S) → P i x → Fit s → one i x s ≡ good t → Fit t × (value t ≡ change i x (value s))
      pub close_is : (i : ℕ) (x : E) (n : ℕ) (s t : S) → P i x → Fit s → close i x n s ≡ good t → Fit t × (value t ≡ value s)

    module _ (k : Tracks) where
      scan_tracks : (i : ℕ) (xs : List E) (s t : S) → AllFrom P i xs → Fit s → scan one close i xs s ≡ good t →
          Fit t × (value t ≡ folded change i xs (value s))
      unfolding scan folded
      scan_tracks i [] s t p f e = let q : s ≡ t = cc in (rw (← q) f, ap value (sym q))
      scan_tracks i (x ∷ xs) s t p f e =
          let h = then-good (one i x s) (λ u. scan one close (i + 1) xs u) e in
          let g = k.one_is_lem i x s h.0 p.0 f h.1 in
          let w = scan_tracks (i + 1) xs h.0 t p.1 g.0 h.2 in
          (w.0, w.1 ∙ ap (folded change (i + 1) xs) g.1)

      -- so the walk changes it as its elements do, in order
      pub walk_tracks : (i : ℕ) (rs : List (List E)) (s t : S) → AllFrom P i (flat rs) → Fit s → walk one close i rs s ≡ good t →
          Fit t × (value t ≡ folded change i (flat rs) (value s))
      unfolding walk flat folded
      walk_tracks i [] s t p f e = let q : s ≡ t = cc in (rw (← q) f, ap value (sym q))
      walk_tracks i ([] ∷ rs) s t p f e = walk_tracks i rs s t p f e
      walk_tracks i ((x ∷ xs) ∷ rs) s t p f e =
          let n = length (x ∷ xs) in
          let q = all_append P i (x ∷ xs) (flat rs) p in
          let h = then-good (scan one close i (x ∷ xs) s) (λ u. then (close i x n u) (λ v. walk one close (i + n) rs v)) e in
          let a = scan_tracks i (x ∷ xs) s h.0 q.0 f h.1 in
          let m = then-good (close i x n h.0) (λ v. walk one close (i + n) rs v) h.2 in
          let b = k.close_is i x n h.0 m.0 p.0 a.0 m.1 in
          let w = walk_tracks (i + n) rs m.0 t q.1 b.0 m.2 in (
            w.0,
            w.1 ∙ ap (folded change (i + n) (flat rs)) (b.1 ∙ a.1) ∙ sym (folded_append i (x ∷ xs) (flat rs) (value s)),
          )

-- an element that hits brings a new value
abbrev pub replaced : {E A : Type 0} → (E → Bool) → (ℕ → A) → ℕ → E → A → A
replaced hits brings i x v = cond (hits x) (brings i) v

module _ {E A : Type 0} (hits : E → Bool) (brings : ℕ → A) (none : E) where
  -- no hit, no change
  pub folded_none : (i : ℕ) (xs : List E) (v : A) → ((j : ℕ) → j < length xs → hits (get_or xs j none) ≡ false) →
      folded (replaced hits brings) i xs v ≡ v
  unfolding folded
  folded_none i [] v h = refl
  folded_none i (x ∷ xs) v h = rw (h 0 (omega arith)) (folded_none (i + 1) xs v (λ j l. h (suc j) (omega arith)))

  -- the last hit counts
  pub folded_last : (i : ℕ) (xs : List E) (v : A) (k : ℕ) → k < length xs → hits (get_or xs k none) ≡ true →
      ((j : ℕ) → k < j → j < length xs → hits (get_or xs j none) ≡ false) → folded (replaced hits brings) i xs v ≡ brings (i + k)
  unfolding folded
  folded_last i [] v k l t h = absurd (omega arith)
  folded_last i (x ∷ xs) v zero l t h =
      rw (t, add-zero i) (folded_none (i + 1) xs (brings i) (λ j m. h (suc j) (omega arith) (omega arith)))
  folded_last i (x ∷ xs) v (suc k) l t h =
      let e : i + 1 + k ≡ i + suc k = omega arith in
      rw e at (folded_last (i + 1) xs (replaced hits brings i x v) k (omega arith) t (λ j m o. h (suc j) (omega arith) (omega arith)))
