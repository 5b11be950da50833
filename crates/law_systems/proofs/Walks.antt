-- The same elements over rows that are alike, on stages that are alike: what is read, each step, and the runs of a write. Assumes nothing.
use Prim.Native.Nat.{ℕ, ◌*◌}
use native.Mathlib.Omega.{arith}
use mathlib.Core.Path.{◌≡◌, refl, ap, ap₂, ◌∙◌}
use mathlib.Core.List.{List, [], ◌∷◌, ◌++◌}
use mathlib.Core.Logic.{inl, inr, ⊎_elim}
use Rattle.service_code.specs.Code.{number_of}
use Rattle.block_list.specs.declared.element.BlockListElement.{BlockListElement}
use Rattle.byte_parts.specs.Part.{part}
use Rattle.answers.specs.Outcome.{Outcome, passed, failed}
use Rattle.request_check.specs.declared.table.Row.{Row}
use Rattle.request_check.specs.Row.{row_at_index, number_in}
use Rattle.request_rules.specs.Lens.{back, within}
use Rattle.request_rules.specs.Rules.{element_by, end_by, on_store}
use Rattle.request_runs.specs.Runs.{Walked, bad, good, then, runs_of}
use Rattle.request_runs.specs.Staged.{at_index, element_on, end_on, staged}
use Rattle.request_runs.proofs.Steps.{stepped}
use Rattle.request_runs.proofs.WalkSteps.{Step, element, close, steps_of, act, walk-stepped}
use Rattle.request_plan.specs.Serve.{store_in, blocks_read}
use Rattle.request_plan.proofs.Frame.{LiesIn}
use Rattle.law_systems.specs.Rows.{RowAlike, RowsAlike}
use Rattle.law_systems.proofs.Shifted.{Shifted, Place, parts_alike, puts_alike}

-- Two walks by the same steps, whatever these do to each state.
module _ {S : Type 0} (R : S → S → Type 0) where
  -- the same failure, or related states
  abbrev pub Both : Walked S → Walked S → Type 0
  Both (bad i f) (bad j g) = (i ≡ j) × (f ≡ g)
  Both (bad i f) (good u) = ⊥
  Both (good s) (bad j g) = ⊥
  Both (good s) (good u) = R s u

  -- two steps, one after the other
  both-then : (x y : Walked S) (f g : S → Walked S) → Both x y → ((s u : S) → R s u → Both (f s) (g u)) → Both (then x f) (then y g)
  unfolding then
  both-then (bad i k) (bad j l) f g h w = h
  both-then (bad i k) (good u) f g h w = absurd h
  both-then (good s) (bad j l) f g h w = absurd h
  both-then (good s) (good u) f g h w = w s u h

  -- the same failure, or related states, after any steps of which each keeps it so
  pub both-stepped : {Q : Type 0} (one two : Q → S → Walked S) → ((q : Q) (s u : S) → R s u → Both (one q s) (two q u)) →
      (qs : List Q) (s u : S) → R s u → Both (stepped one qs s) (stepped two qs u)
  unfolding stepped
  both-stepped one two f [] s u h = h
  both-stepped one two f (q ∷ qs) s u h =
      both-then (one q s) (two q u) (λ t. stepped one qs t) (λ t. stepped two qs t) (f q s u h) (λ t v k. both-stepped one two f qs t v k)

-- The rows ws, whose stores lie k blocks after those of vs, among the places of P.
module _ (P : ℕ → Type 0) (k : ℕ) (ws vs : List Row) (x : RowsAlike k ws vs) (mine : (j i : ℕ) → LiesIn (row_at_index vs j) i → P i) where
  -- arenas that hold the places of P alike
  abbrev Near : List ℕ → List ℕ → Type 0
  Near = Shifted P (16 * k)

  -- and walks that end so
  abbrev BothNear : Walked (List ℕ) → Walked (List ℕ) → Type 0
  BothNear = Both Near

  -- where a row's store lies
  row_place_lem : (w v : Row) → RowAlike k w v → Place P (16 * k) (16 * w.start) (16 * v.start) (16 * v.blocks)
  row_place_lem w v y = ⊎_elim (λ z. inl (omega (arith, z))) (λ e. inr (omega (arith, e))) y.start_moved

  -- a row's store holds the same bytes
  store_alike : (j : ℕ) (a b : List ℕ) → Near a b → store_in a (row_at_index ws j) ≡ store_in b (row_at_index vs j)
  store_alike j a b h =
      let w = row_at_index ws j in
      let v = row_at_index vs j in
      let y = x.row-alike j in
      ap (λ n. part a (16 * w.start) (16 * n)) y.blocks-alike
      ∙ parts_alike P (16 * k) a b (16 * w.start) (16 * v.start) (16 * v.blocks) (row_place_lem w v y) h (λ i l r. mine j i (l, r))

  -- the same bytes are read
  pub read_alike : (a b : List ℕ) → Near a b → (es : List BlockListElement) → blocks_read ws a es ≡ blocks_read vs b es
  unfolding blocks_read
  read_alike a b h [] = refl
  read_alike a b h (e ∷ es) =
      ap₂ (λ (s l : List ℕ). part s (16 * e.number) 16 ++ l) (store_alike e.index a b h) (read_alike a b h es)

  -- a step on a row's store, whatever its rule is
  step_alike_lem : (i j : ℕ) (rule role : List ℕ → Outcome) → ((t : List ℕ) → rule t ≡ role t) → (s u : List ℕ) → Near s u →
      BothNear (at_index i (on_store (row_at_index ws j) rule s)) (at_index i (on_store (row_at_index vs j) role u))
  unfolding on_store within back
  step_alike_lem i j rule role same s u h =
      rw (store_alike j s u h, same (store_in u v), (x.row-alike j).blocks-alike) (by_outcome_lem (role (store_in u v)))
    where
      w : Row
      w = row_at_index ws j

      v : Row
      v = row_at_index vs j

      by_outcome_lem : (o : Outcome) →
          BothNear (at_index i (back s (16 * w.start) (16 * v.blocks) o)) (at_index i (back u (16 * v.start) (16 * v.blocks) o))
      by_outcome_lem (failed f) = (refl, refl)
      by_outcome_lem (passed t) =
          puts_alike P (16 * k) s u (16 * w.start) (16 * v.start) (16 * v.blocks) t (row_place_lem w v (x.row-alike j)) h

  -- the rows have the same numbers, so the elements the same runs
  numbers : number_in ws ≡ number_in vs
  numbers = λ i e. number_of ((x.row-alike e.index).code_alike i)

  -- the runs of a write
  module _ (d : List ℕ) where
    -- each step of a run
    each_step : (q : Step BlockListElement) (s u : List ℕ) → Near s u →
        BothNear (act (element_on ws d) (end_on ws d) q s) (act (element_on vs d) (end_on vs d) q u)
    each_step (element i e) s u h =
        step_alike_lem i e.index _ _
        (λ t.
        ap₂ (λ a l. element_by a l e.number e.mode (part d (16 * i) 16) t) (x.row-alike e.index).attribute-alike
        (x.row-alike e.index).limit-alike)
        s u h
    each_step (close i e n) s u h =
        step_alike_lem i e.index _ _ (λ t. ap (λ a. end_by a (part d (16 * i) (16 * n)) t) (x.row-alike e.index).attribute-alike) s u h

    -- all of them fail alike, or leave the stores alike
    pub staged_alike : (es : List BlockListElement) (s u : List ℕ) → Near s u → BothNear (staged ws d es s) (staged vs d es u)
    unfolding staged
    staged_alike es s u h =
        rw (
          numbers,
          walk-stepped (element_on ws d) (end_on ws d) 0 (runs_of (number_in vs) es) s,
          walk-stepped (element_on vs d) (end_on vs d) 0 (runs_of (number_in vs) es) u,
        )
        (both-stepped Near (act (element_on ws d) (end_on ws d)) (act (element_on vs d) (end_on vs d)) each_step
        (steps_of 0 (runs_of (number_in vs) es)) s u h)
