-- A run that is scanned in part, and what it comes to, for any elements and any state. Assumes nothing.
use Prim.Native.Nat.{ℕ, suc, ◌+◌}
use native.Mathlib.Omega.{arith}
use native.Mathlib.Decide.{ℕ_discrete}
use native.Mathlib.Nat.{add-zero, zero-add}
use mathlib.Core.Path.{◌≡◌, refl, sym, ap, ◌∙◌}
use mathlib.Core.Bool.{true, cond}
use mathlib.Core.List.{List, [], ◌∷◌}
use lib.Dec.{eqb}
use lib.ListN.{length}
use borrow.Author.Tests.{eq-eqb, ne_eqb}
use Rattle.answers.specs.declared.status.Fault.{Fault}
use Rattle.request_runs.specs.Runs.{Walked, bad, good, then, push, runs_of, scan, walk}

-- one step after another
pub then-then : {S : Type 0} (r : Walked S) (f g : S → Walked S) → then (then r f) g ≡ then r (λ s. then (f s) g)
unfolding then
then-then (bad i c) f g = refl
then-then (good s) f g = refl

-- steps that come to the same
pub then_ext : {S : Type 0} (r : Walked S) (f g : S → Walked S) → ((s : S) → f s ≡ g s) → then r f ≡ then r g
unfolding then
then_ext (bad i c) f g h = refl
then_ext (good s) f g h = h s

module _ {E : Type 0} (key : E → ℕ) where
  -- the first elements of key k
  first : ℕ → List E → List E
  first k [] = []
  first k (x ∷ xs) = cond (eqb (key x) k) (x ∷ first k xs) []

  -- what follows them
  rest : ℕ → List E → List E
  rest k [] = []
  rest k (x ∷ xs) = cond (eqb (key x) k) (rest k xs) (x ∷ xs)

  -- the first run is the longest stretch of the first element's key
  runs_first : (x : E) (xs : List E) → runs_of key (x ∷ xs) ≡ (x ∷ first (key x) xs) ∷ runs_of key (rest (key x) xs)
  unfolding runs_of push first rest
  runs_first x [] = refl
  runs_first x (y ∷ ys) =
      elim (ℕ_discrete (key y) (key x)) [
        | yes e ↦ rw (runs_first y ys, eq-eqb (key y) (key x) e, e)
        | no e ↦ rw (runs_first y ys, ne_eqb (key y) (key x) e) (ap (λ (r : List (List E)). (x ∷ []) ∷ r) (sym (runs_first y ys)))
      ]

  module _ {S : Type 0} (one : ℕ → E → S → Walked S) (close : ℕ → E → ℕ → S → Walked S) where
    -- the runs of xs, of which the first element is of index i
    abbrev pub walked : ℕ → List E → S → Walked S
    walked i xs s = walk one close i (runs_of key xs) s

    -- a run that began at index `at` with element k: its end after m elements, and then the runs of xs
    module _ (at : ℕ) (k : E) where
      pub after_run : ℕ → ℕ → S → List E → Walked S
      after_run m i s xs = then (close at k m s) (λ s'. walked i xs s')

      -- m of its elements are passed: what is left of it in xs, its end, and then the other runs
      pub within_run : ℕ → ℕ → S → List E → Walked S
      within_run m i s [] = after_run m i s []
      within_run m i s (x ∷ xs) =
          cond (eqb (key x) (key k)) (then (one i x s) (λ s'. within_run (m + 1) (i + 1) s' xs)) (after_run m i s (x ∷ xs))

      -- that is the scan of the elements that are left of it, and what follows
      within_is
          : (m i : ℕ) (s : S) (xs : List E)
          → let n = length (first (key k) xs) in
          within_run m i s xs ≡ then (scan one close i (first (key k) xs) s) (λ s'. after_run (m + n) (i + n) s' (rest (key k) xs))
      unfolding within_run first rest scan then
      within_is m i s [] = rw (add-zero m, add-zero i)
      within_is m i s (x ∷ xs) =
          let n = length (first (key k) xs) in
          let em : m + 1 + n ≡ m + suc n = omega arith in
          let ei : i + 1 + n ≡ i + suc n = omega arith in
          let f : S → Walked S = λ s'. scan one close (i + 1) (first (key k) xs) s' in
          let g : S → Walked S = λ s'. after_run (m + suc n) (i + suc n) s' (rest (key k) xs) in
          elim (ℕ_discrete (key x) (key k)) [
            | yes e ↦
                rw (eq-eqb (key x) (key k) e)
                (then_ext (one i x s) (λ s'. within_run (m + 1) (i + 1) s' xs) (λ s'. then (f s') g) (λ s'. rw (em, ei) at (within_is (m + 1) (i + 1) s' xs))
                ∙ sym (then-then (one i x s) f g))
            | no e ↦ rw (ne_eqb (key x) (key k) e, add-zero m, add-zero i)
          ]

      module _ (m i : ℕ) (s : S) where
        module _ (x : E) (xs : List E) where
          module _ (same : key x ≡ key k) where
            -- one element more in the run
            pub run_step : (s' : S) → one i x s ≡ good s' → within_run m i s (x ∷ xs) ≡ within_run (m + 1) (i + 1) s' xs
            unfolding within_run then
            run_step s' o = rw (eq-eqb (key x) (key k) same, o)

            -- an element of the run that fails
            pub run_fails_lem : (j : ℕ) (f : Fault) → one i x s ≡ bad j f → within_run m i s (x ∷ xs) ≡ bad j f
            unfolding within_run then
            run_fails_lem j f o = rw (eq-eqb (key x) (key k) same, o)

          -- an element of another key ends the run
          pub run_stops_lem : (key x ≡ key k → ⊥) → within_run m i s (x ∷ xs) ≡ after_run m i s (x ∷ xs)
          unfolding within_run
          run_stops_lem other = rw (ne_eqb (key x) (key k) other)

        -- so does the end of the elements
        pub run_over : within_run m i s [] ≡ after_run m i s []
        unfolding within_run
        run_over = refl

        module _ (xs : List E) where
          -- a run whose end passes
          pub end_passes : (s' : S) → close at k m s ≡ good s' → after_run m i s xs ≡ walked i xs s'
          unfolding after_run then
          end_passes s' o = rw o

          -- a run whose end fails
          pub end_fails : (j : ℕ) (f : Fault) → close at k m s ≡ bad j f → after_run m i s xs ≡ bad j f
          unfolding after_run then
          end_fails j f o = rw o

    module _ (at : ℕ) (s : S) where
      -- a run in front of the rest
      pub run_starts_lem : (x : E) (xs : List E) → walked at (x ∷ xs) s ≡ within_run at x 0 at s (x ∷ xs)
      unfolding first rest walk after_run
      run_starts_lem x xs =
          let t : eqb (key x) (key x) ≡ true = eq-eqb (key x) (key x) refl in
          rw (runs_first x xs, within_is at x 0 at s (x ∷ xs), t, zero-add)

      -- no element, no run
      pub walk-over : walked at [] s ≡ good s
      unfolding runs_of walk
      walk-over = refl
