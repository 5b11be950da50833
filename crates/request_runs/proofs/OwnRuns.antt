-- A store after the runs of a write is what the runs of its own number leave of it; and runs that fail, fail so on one store alone.
-- Assumes nothing.
use Prim.Native.Nat.{ℕ, ◌+◌, ◌*◌, ◌≤◌}
use native.Mathlib.Omega.{arith}
use native.Mathlib.Decide.{ℕ_discrete}
use mathlib.Core.Path.{◌≡◌, refl, sym, ap, ◌∙◌}
use mathlib.Core.Bool.{cond}
use mathlib.Core.List.{List}
use mathlib.Core.Logic.{◌⊎◌, inl, inr, ⊎_elim}
use lib.Dec.{eqb}
use lib.ListN.{length}
use lib.Seq.{take_all}
use borrow.Author.Tests.{eq-eqb, ne_eqb}
use Rattle.answers.specs.declared.status.Fault.{Fault}
use Rattle.answers.specs.Outcome.{Outcome, passed, failed}
use Rattle.block_list.specs.declared.element.BlockListElement.{BlockListElement}
use Rattle.byte_parts.specs.Part.{part, put}
use Rattle.byte_parts.proofs.Part.{length_part, length-put, part-put, part-put_apart}
use Rattle.request_check.specs.declared.table.Row.{Row}
use Rattle.request_check.specs.Row.{row_in, number_in}
use Rattle.request_rules.specs.Lens.{back, within}
use Rattle.request_rules.specs.Rules.{on_store}
use Rattle.request_runs.specs.Runs.{Walked, bad, good, runs_of}
use Rattle.request_runs.specs.Staged.{at_index, element_on, end_on, staged}
use Rattle.request_runs.specs.Own.{own_element, own_end, own_runs}
use Rattle.request_rules.proofs.Long.{Long, element_long, end-long}
use Rattle.request_runs.proofs.Steps.{failure, Each, stepped, stepped_leads, stepped-shows, stepped_tells}
use Rattle.request_runs.proofs.WalkSteps.{Step, element, close, element_of, steps_of, AllFrom, act, walk-stepped, steps_each, flat_runs}

-- the bytes of a row's store in a stage
abbrev pub store_of : Row → List ℕ → List ℕ
store_of w s = part s (16 * w.start) (16 * w.blocks)

-- a step on a row's store that passes: what was put
pub step_put : (i : ℕ) (w : Row) (rule : List ℕ → Outcome) (s t : List ℕ) → at_index i (on_store w rule s) ≡ good t →
    (u : List ℕ) × (rule (store_of w s) ≡ passed u) × (t ≡ put s (16 * w.start) (16 * w.blocks) u)
unfolding on_store within back
step_put i w rule s t e = by_outcome_lem (rule (store_of w s)) refl e
  where
    by_outcome_lem : (o : Outcome) → rule (store_of w s) ≡ o → at_index i (back s (16 * w.start) (16 * w.blocks) o) ≡ good t →
        (u : List ℕ) × (rule (store_of w s) ≡ passed u) × (t ≡ put s (16 * w.start) (16 * w.blocks) u)
    by_outcome_lem (failed f) q k = failure k
    by_outcome_lem (passed u) q k = let z : put s (16 * w.start) (16 * w.blocks) u ≡ t = cc in (u, q, sym z)

-- one that fails: on the store
step_fails : (i : ℕ) (w : Row) (rule : List ℕ → Outcome) (s : List ℕ) (j : ℕ) (f : Fault) → at_index i (on_store w rule s) ≡ bad j f →
    at_index i (rule (store_of w s)) ≡ bad j f
unfolding on_store within back
step_fails i w rule s j f e = by_outcome_lem (rule (store_of w s)) e
  where
    by_outcome_lem : (o : Outcome) → at_index i (back s (16 * w.start) (16 * w.blocks) o) ≡ bad j f → at_index i o ≡ bad j f
    by_outcome_lem (failed g) k = k
    by_outcome_lem (passed u) k = failure (sym k)

-- Elements of which each is `Ok`, on a stage of `size` bytes.
module _ (rows : List Row) (d : List ℕ) (size : ℕ) (Ok : BlockListElement → Type 0) where
  -- The row v is that of the number n: it lies in the stage, elements of the number have its store, all others lie apart from it.
  pub record Owns (n : ℕ) (v : Row) : Type 0 where
    pub fits : 16 * v.start + 16 * v.blocks ≤ size
    pub same : (x : BlockListElement) → Ok x → number_in rows x ≡ n → ((row_in rows x).start ≡ v.start) × ((row_in rows x).blocks ≡ v.blocks)
    pub other : (x : BlockListElement) → Ok x → (number_in rows x ≡ n → ⊥) →
        ((row_in rows x).start + (row_in rows x).blocks ≤ v.start) ⊎ (v.start + v.blocks ≤ (row_in rows x).start)

  -- a step on the store of the element x: what it does to the store of n
  module _ (n : ℕ) (v : Row) (o : Owns n v) (i : ℕ) (x : BlockListElement) (k : Ok x) (rule : List ℕ → Outcome) (long : Long rule) where
    step_shows : (s t : List ℕ) → length s ≡ size → at_index i (on_store (row_in rows x) rule s) ≡ good t →
        (length t ≡ size) × (cond (eqb (number_in rows x) n) (at_index i (rule (store_of v s))) (good (store_of v s)) ≡ good (store_of v t))
    step_shows s t l e =
        let w = row_in rows x in
        let q = step_put i w rule s t e in (
          ap length q.2 ∙ length-put s (16 * w.start) (16 * w.blocks) q.0 ∙ l,
          elim (ℕ_discrete (number_in rows x) n) [
            | yes same ↦
                let z = o.same x k same in
                let f : 16 * v.start + 16 * v.blocks ≤ length s = omega (arith, o.fits, l) in
                let r : rule (store_of v s) ≡ passed q.0 = rw (← z.0, ← z.1) q.1 in
                let m : length q.0 ≡ 16 * v.blocks = long (store_of v s) q.0 r ∙ length_part s (16 * v.start) (16 * v.blocks) f in
                let p : t ≡ put s (16 * v.start) (16 * v.blocks) q.0 = q.2 ∙ rw (z.0, z.1) in
                rw (eq-eqb (number_in rows x) n same, r)
                (ap good (sym (ap (store_of v) p ∙ part-put s (16 * v.start) (16 * v.blocks) q.0 f (omega (arith, m))
                ∙ take_all (16 * v.blocks) q.0 (omega (arith, m)))))
            | no other ↦
                let z = o.other x k other in
                rw (ne_eqb (number_in rows x) n other)
                (ap good (sym (ap (store_of v) q.2 ∙ part-put_apart s (16 * w.start) (16 * w.blocks) q.0 (16 * v.start) (16 * v.blocks)
                (⊎_elim (λ b. inr (omega arith)) (λ b. inl (omega arith)) z))))
          ],
        )

  -- a step of the walk is on an element that is Ok
  abbrev Fine : Step BlockListElement → Type 0
  Fine p = Ok (element_of p)

  -- the stage has its length
  abbrev Staged : List ℕ → Type 0
  Staged s = length s ≡ size

  -- a step of the runs, and one of the runs of n
  abbrev step_on : Step BlockListElement → List ℕ → Walked (List ℕ)
  step_on = act (element_on rows d) (end_on rows d)

  abbrev pub step_own : ℕ → Step BlockListElement → List ℕ → Walked (List ℕ)
  step_own n = act (own_element rows d n) (own_end rows d n)

  -- a number and its row
  abbrev Owner : (ℕ × Row) → Type 0
  Owner m = Owns m.0 m.1

  -- each step does to the store of a number what its own step does
  shows : (m : ℕ × Row) (p : Step BlockListElement) (s t : List ℕ) → Owner m → Fine p → Staged s → step_on p s ≡ good t →
      Staged t × (step_own m.0 p (store_of m.1 s) ≡ good (store_of m.1 t))
  shows m (element i x) s t o k l e =
      step_shows m.0 m.1 o i x k _
      (element_long (row_in rows x).attribute (row_in rows x).limit x.number x.mode (part d (16 * i) 16)) s t l e
  shows m (close i x n) s t o k l e =
      step_shows m.0 m.1 o i x k _ (end-long (row_in rows x).attribute (part d (16 * i) (16 * n))) s t l e

  -- the elements are Ok
  module _ (es : List BlockListElement) (fine : AllFrom (λ i x. Ok x) 0 es) where
    abbrev pub steps : List (Step BlockListElement)
    steps = steps_of 0 (runs_of (number_in rows) es)

    each_fine : Each Fine steps
    each_fine = steps_each (λ i x. Ok x) 0 (runs_of (number_in rows) es) (rw (flat_runs (number_in rows) es) fine)

    -- the runs as their steps
    staged_steps : (s : List ℕ) → staged rows d es s ≡ stepped step_on steps s
    unfolding staged
    staged_steps s = walk-stepped (element_on rows d) (end_on rows d) 0 (runs_of (number_in rows) es) s

    pub own_steps : (n : ℕ) (u : List ℕ) → own_runs rows d n es u ≡ stepped (step_own n) steps u
    unfolding own_runs
    own_steps n u = walk-stepped (own_element rows d n) (own_end rows d n) 0 (runs_of (number_in rows) es) u

    -- a store after the runs is what the runs of its own number leave of it
    pub store_alone : (n : ℕ) (v : Row) (s t : List ℕ) → Owns n v → length s ≡ size → staged rows d es s ≡ good t →
        (length t ≡ size) × (own_runs rows d n es (store_of v s) ≡ good (store_of v t))
    store_alone n v s t o l e =
        let w = stepped-shows step_on Fine Staged Owner (λ m. store_of m.1) (λ m. step_own m.0) shows (n, v) steps s t o each_fine l
        (sym (staged_steps s) ∙ e) in
        (w.0, own_steps n (store_of v s) ∙ w.1)

    -- runs that pass lead to what each put into a named store leads to, where that goes on; the stage keeps its length
    pub staged_leads
        : (R : List ℕ → List ℕ → Type 0) → ((s : List ℕ) → R s s) → ((s u t : List ℕ) → R s u → R u t → R s t)
        → ((x : BlockListElement) (s u : List ℕ) → Ok x → length s ≡ size → R s (put s (16 * (row_in rows x).start) (16 * (row_in rows x).blocks) u))
        → (s t : List ℕ) → length s ≡ size → staged rows d es s ≡ good t → (length t ≡ size) × R s t
    staged_leads R stay join puts s t l e =
        stepped_leads step_on Fine Staged R stay join by_step steps s t each_fine l (sym (staged_steps s) ∙ e)
      where
        on_store_lem : (i : ℕ) (x : BlockListElement) (rule : List ℕ → Outcome) (u v : List ℕ) → Ok x → Staged u →
            at_index i (on_store (row_in rows x) rule u) ≡ good v → Staged v × R u v
        on_store_lem i x rule u v k m h =
            let q = step_put i (row_in rows x) rule u v h in
            rw q.2 (length-put u (16 * (row_in rows x).start) (16 * (row_in rows x).blocks) q.0 ∙ m, puts x u q.0 k m)

        by_step : (p : Step BlockListElement) (u v : List ℕ) → Fine p → Staged u → step_on p u ≡ good v → Staged v × R u v
        by_step (element i x) u v k m h = on_store_lem i x _ u v k m h
        by_step (close i x n) u v k m h = on_store_lem i x _ u v k m h

    -- each element's row is that of its number
    module _ (own : (x : BlockListElement) → Ok x → Owns (number_in rows x) (row_in rows x)) where
      abbrev pub view_of : BlockListElement → List ℕ → List ℕ
      view_of x = store_of (row_in rows x)

      abbrev step_by : BlockListElement → Step BlockListElement → List ℕ → Walked (List ℕ)
      step_by x = step_own (number_in rows x)

      shows_each : (x : BlockListElement) (p : Step BlockListElement) (s t : List ℕ) → Ok x → Fine p → Staged s → step_on p s ≡ good t →
          Staged t × (step_by x p (view_of x s) ≡ good (view_of x t))
      shows_each x p s t k = shows (number_in rows x, row_in rows x) p s t (own x k)

      -- a step that fails, fails on its own store
      tells_own : (p : Step BlockListElement) (s : List ℕ) (i : ℕ) (f : Fault) → Fine p → Staged s → step_on p s ≡ bad i f →
          (x : BlockListElement) × Ok x × (step_by x p (view_of x s) ≡ bad i f)
      tells_own (element j x) s i f k l e =
          (x, k, rw (eq-eqb (number_in rows x) (number_in rows x) refl) (step_fails j (row_in rows x) _ s i f e))
      tells_own (close j x n) s i f k l e =
          (x, k, rw (eq-eqb (number_in rows x) (number_in rows x) refl) (step_fails j (row_in rows x) _ s i f e))

      -- so do all
      pub store_fails : (s : List ℕ) (i : ℕ) (f : Fault) → length s ≡ size → staged rows d es s ≡ bad i f →
          (x : BlockListElement) × Ok x × (own_runs rows d (number_in rows x) es (view_of x s) ≡ bad i f)
      store_fails s i f l e =
          let w = stepped_tells step_on Fine Staged Ok view_of step_by shows_each
          (λ p u t k m h. (shows_each (element_of p) p u t k k m h).0) tells_own steps s i f each_fine l (sym (staged_steps s) ∙ e) in
          (w.0, w.1, own_steps (number_in rows w.0) (view_of w.0 s) ∙ w.2)
