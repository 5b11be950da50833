-- The steps of a walk: its elements and the ends of its runs, in order. Assumes nothing.
use Prim.Native.Nat.{ℕ, suc, ◌+◌, ◌≤◌, ◌<◌}
use native.Mathlib.Omega.{arith}
use native.Mathlib.Decide.{ℕ_discrete}
use native.Mathlib.Nat.{add-zero, zero-add}
use mathlib.Core.Path.{◌≡◌, refl, sym, ap, ◌∙◌}
use mathlib.Core.Bool.{Bool, true, false, cond}
use mathlib.Core.List.{List, [], ◌∷◌, ◌++◌}
use lib.Dec.{eqb}
use lib.ListN.{length, get_or}
use borrow.Author.Tests.{eq-eqb, ne_eqb}
use Rattle.request_runs.specs.Runs.{Walked, then, push, runs_of, scan, walk}
use Rattle.request_runs.proofs.RunLaws.{then-then, then_ext}
use Rattle.request_runs.proofs.Steps.{Each, Pairs, stepped, each_map}

-- element x, of index i; the end of a run of n elements, of which x is the first, of index i
pub data Step (E : Type 0) : Type 0 where
  element : ℕ → E → Step E
  close : ℕ → E → ℕ → Step E

module _ {E : Type 0} where
  -- the index of its element
  abbrev pub index_of : Step E → ℕ
  index_of (element i x) = i
  index_of (close i x n) = i

  -- its element
  abbrev pub element_of : Step E → E
  element_of (element i x) = x
  element_of (close i x n) = x

  -- the elements of a run, and more steps
  unfoldable pub scan_steps : ℕ → List E → List (Step E) → List (Step E)
  scan_steps i [] more = more
  scan_steps i (x ∷ xs) more = element i x ∷ scan_steps (i + 1) xs more

  -- the steps of all runs
  unfoldable pub steps_of : ℕ → List (List E) → List (Step E)
  steps_of i [] = []
  steps_of i ([] ∷ rs) = steps_of i rs
  steps_of i ((x ∷ xs) ∷ rs) = scan_steps i (x ∷ xs) (close i x (length (x ∷ xs)) ∷ steps_of (i + length (x ∷ xs)) rs)

  -- the elements of all runs, in order
  unfoldable pub flat : List (List E) → List E
  flat [] = []
  flat (r ∷ rs) = r ++ flat rs

  -- each of a list, the first of them counted i
  abbrev pub AllFrom : (ℕ → E → Type 0) → ℕ → List E → Type 0
  AllFrom F i [] = Unit {0}
  AllFrom F i (x ∷ xs) = F i x × AllFrom F (i + 1) xs

  module _ {S : Type 0} (one : ℕ → E → S → Walked S) (end : ℕ → E → ℕ → S → Walked S) where
    -- what a step does
    abbrev pub act : Step E → S → Walked S
    act (element i x) s = one i x s
    act (close i x n) s = end i x n s

    scan-stepped : (i : ℕ) (xs : List E) (more : List (Step E)) (s : S) →
        stepped act (scan_steps i xs more) s ≡ then (scan one end i xs s) (λ t. stepped act more t)
    unfolding scan scan_steps stepped then
    scan-stepped i [] more s = refl
    scan-stepped i (x ∷ xs) more s =
        then_ext (one i x s) (λ t. stepped act (scan_steps (i + 1) xs more) t) (λ t. then (scan one end (i + 1) xs t) (λ u. stepped act more u))
        (λ t. scan-stepped (i + 1) xs more t)
        ∙ sym (then-then (one i x s) (λ t. scan one end (i + 1) xs t) (λ u. stepped act more u))

    -- a walk is its steps, one after the other
    pub walk-stepped : (i : ℕ) (rs : List (List E)) (s : S) → walk one end i rs s ≡ stepped act (steps_of i rs) s
    unfolding walk steps_of stepped
    walk-stepped i [] s = refl
    walk-stepped i ([] ∷ rs) s = walk-stepped i rs s
    walk-stepped i ((x ∷ xs) ∷ rs) s =
        let n = length (x ∷ xs) in
        then_ext (scan one end i (x ∷ xs) s) (λ t. then (end i x n t) (λ u. walk one end (i + n) rs u))
        (λ t. stepped act (close i x n ∷ steps_of (i + n) rs) t)
        (λ t. then_ext (end i x n t) (λ u. walk one end (i + n) rs u) (λ u. stepped act (steps_of (i + n) rs) u) (λ u. walk-stepped (i + n) rs u))
        ∙ sym (scan-stepped i (x ∷ xs) (close i x n ∷ steps_of (i + n) rs) s)

  -- two lists, one after the other
  pub all_append : (F : ℕ → E → Type 0) (i : ℕ) (xs ys : List E) → AllFrom F i (xs ++ ys) → AllFrom F i xs × AllFrom F (i + length xs) ys
  all_append F i [] ys p = (tt, rw (add-zero i) p)
  all_append F i (x ∷ xs) ys p =
      let e : i + 1 + length xs ≡ i + suc (length xs) = omega arith in
      let q = all_append F (i + 1) xs ys p.1 in
      ((p.0, q.0), rw e at q.1)

  -- what holds of a run's elements holds of their steps
  scan_each : (F : Step E → Type 0) (i : ℕ) (xs : List E) (more : List (Step E)) → AllFrom (λ j x. F (element j x)) i xs → Each F more →
      Each F (scan_steps i xs more)
  unfolding scan_steps
  scan_each F i [] more a h = h
  scan_each F i (x ∷ xs) more a h = (a.0, scan_each F (i + 1) xs more a.1 h)

  -- what holds of the elements holds of all steps
  pub steps_each : (F : ℕ → E → Type 0) (i : ℕ) (rs : List (List E)) → AllFrom F i (flat rs) → Each (λ p. F (index_of p) (element_of p)) (steps_of i rs)
  unfolding steps_of flat
  steps_each F i [] a = tt
  steps_each F i ([] ∷ rs) a = steps_each F i rs a
  steps_each F i ((x ∷ xs) ∷ rs) a =
      let q = all_append F i (x ∷ xs) (flat rs) a in
      scan_each (λ p. F (index_of p) (element_of p)) i (x ∷ xs) _ q.0 (a.0, steps_each F (i + length (x ∷ xs)) rs q.1)

  -- what holds of every index from k on
  all_from : (F : ℕ → E → Type 0) (k : ℕ) → ((j : ℕ) (x : E) → k ≤ j → F j x) → (i : ℕ) (xs : List E) → k ≤ i → AllFrom F i xs
  all_from F k f i [] h = tt
  all_from F k f i (x ∷ xs) h = (f i x h, all_from F k f (i + 1) xs (omega arith))

  -- An element comes before those of a greater index. A run's end comes before the ends of later runs.
  abbrev pub Before : Step E → Step E → Type 0
  Before (element i x) (element j y) = i < j
  Before (element i x) (close j y m) = Unit {0}
  Before (close i x n) (element j y) = Unit {0}
  Before (close i x n) (close j y m) = (i < i + n) × (i + n ≤ j)

  before_steps : (i : ℕ) (x : E) (j : ℕ) (rs : List (List E)) → i < j → Each (Before (element i x)) (steps_of j rs)
  unfolding steps_of
  before_steps i x j [] h = tt
  before_steps i x j ([] ∷ rs) h = before_steps i x j rs h
  before_steps i x j ((y ∷ ys) ∷ rs) h =
      scan_each (Before (element i x)) j (y ∷ ys) _ (all_from (λ k z. i < k) j (λ k z l. omega arith) j (y ∷ ys) (omega arith))
      (tt, before_steps i x (j + length (y ∷ ys)) rs (omega arith))

  before_closes : (i : ℕ) (x : E) (n j : ℕ) (rs : List (List E)) → i < i + n → i + n ≤ j → Each (Before (close i x n)) (steps_of j rs)
  unfolding steps_of
  before_closes i x n j [] h k = tt
  before_closes i x n j ([] ∷ rs) h k = before_closes i x n j rs h k
  before_closes i x n j ((y ∷ ys) ∷ rs) h k =
      scan_each (Before (close i x n)) j (y ∷ ys) _ (all_from (λ l z. Unit {0}) j (λ l z m. tt) j (y ∷ ys) (omega arith))
      ((h, k), before_closes i x n (j + length (y ∷ ys)) rs h (omega arith))

  scan_ordered : (i : ℕ) (xs : List E) (more : List (Step E)) → ((j : ℕ) (x : E) → i ≤ j → j < i + length xs → Each (Before (element j x)) more) →
      Pairs Before more → Pairs Before (scan_steps i xs more)
  unfolding scan_steps
  scan_ordered i [] more f h = h
  scan_ordered i (x ∷ xs) more f h = (
    scan_each (Before (element i x)) (i + 1) xs more (all_from (λ k z. i < k) (i + 1) (λ k z l. omega arith) (i + 1) xs (omega arith))
        (f i x (omega arith) (omega arith)),
    scan_ordered (i + 1) xs more (λ j y k l. f j y (omega arith) (omega arith)) h,
  )

  -- the steps come in this order
  pub steps_ordered : (i : ℕ) (rs : List (List E)) → Pairs Before (steps_of i rs)
  unfolding steps_of
  steps_ordered i [] = tt
  steps_ordered i ([] ∷ rs) = steps_ordered i rs
  steps_ordered i ((x ∷ xs) ∷ rs) =
      let n = length (x ∷ xs) in
      scan_ordered i (x ∷ xs) (close i x n ∷ steps_of (i + n) rs)
      (λ j y k l. (tt, before_steps j y (i + n) rs l))
      (before_closes i x n (i + n) rs (omega arith) (omega arith), steps_ordered (i + n) rs)

  module _ (key : E → ℕ) where
    -- the runs of a list of elements hold that list
    pub flat_runs : (xs : List E) → flat (runs_of key xs) ≡ xs
    unfolding runs_of push flat
    flat_runs [] = refl
    flat_runs (x ∷ xs) = pushed (runs_of key xs) ∙ ap (λ (l : List E). x ∷ l) (flat_runs xs)
      where
        by_key : (t : Bool) (ys : List E) (rs : List (List E)) → flat (cond t ((x ∷ ys) ∷ rs) ((x ∷ []) ∷ ys ∷ rs)) ≡ x ∷ flat (ys ∷ rs)
        by_key true ys rs = refl
        by_key false ys rs = refl

        pushed : (rs : List (List E)) → flat (push key x rs) ≡ x ∷ flat rs
        pushed [] = refl
        pushed ([] ∷ rs) = refl
        pushed ((y ∷ ys) ∷ rs) = by_key (eqb (key y) (key x)) (y ∷ ys) rs

    -- no run is empty, and the next one is of another key
    Longest : List (List E) → Type 0
    Longest [] = Unit {0}
    Longest ([] ∷ rs) = ⊥
    Longest ((x ∷ xs) ∷ []) = Unit {0}
    Longest ((x ∷ xs) ∷ [] ∷ rs) = ⊥
    Longest ((x ∷ xs) ∷ (y ∷ ys) ∷ rs) = (key y ≡ key x → ⊥) × Longest ((y ∷ ys) ∷ rs)

    push_longest : (x : E) (rs : List (List E)) → Longest rs → Longest (push key x rs)
    unfolding push Longest
    push_longest x [] l = tt
    push_longest x ([] ∷ rs) l = absurd l
    push_longest x ((y ∷ ys) ∷ rs) l =
        elim (ℕ_discrete (key y) (key x)) [
          | yes e ↦ rw (eq-eqb (key y) (key x) e) (longer rs e l)
          | no e ↦ rw (ne_eqb (key y) (key x) e) (e, l)
        ]
      where
        longer : (qs : List (List E)) → key y ≡ key x → Longest ((y ∷ ys) ∷ qs) → Longest ((x ∷ y ∷ ys) ∷ qs)
        longer [] e h = tt
        longer ([] ∷ qs) e h = absurd h
        longer ((z ∷ zs) ∷ qs) e h = (λ k. h.0 (k ∙ sym e), h.1)

    runs_longest : (xs : List E) → Longest (runs_of key xs)
    unfolding runs_of Longest
    runs_longest [] = tt
    runs_longest (x ∷ xs) = push_longest x (runs_of key xs) (runs_longest xs)

    -- Runs of the list es, of which each element stands where it is counted.
    module _ (es : List E) (none : E) where
      -- an element stands there
      abbrev pub Stands : ℕ → E → Type 0
      Stands i x = (i < length es) × (get_or es i none ≡ x)

      -- between the ends of two runs there is an element of another key
      abbrev pub Parted : Step E → Step E → Type 0
      Parted (element i x) q = Unit {0}
      Parted (close i x n) (element j y) = Unit {0}
      Parted (close i x n) (close j y m) = (i < i + n) × (i + n ≤ j) × (key (get_or es (i + n) none) ≡ key x → ⊥)

      scan_parted : (i : ℕ) (xs : List E) (more : List (Step E)) → Pairs Parted more → Pairs Parted (scan_steps i xs more)
      unfolding scan_steps
      scan_parted i [] more h = h
      scan_parted i (x ∷ xs) more h = (any (scan_steps (i + 1) xs more), scan_parted (i + 1) xs more h)
        where
          any : (qs : List (Step E)) → Each (Parted (element i x)) qs
          any [] = tt
          any (q ∷ qs) = (tt, any qs)

      steps_parted : (i : ℕ) (rs : List (List E)) → Longest rs → AllFrom Stands i (flat rs) → Pairs Parted (steps_of i rs)
      unfolding steps_of flat Longest
      steps_parted i [] l a = tt
      steps_parted i ([] ∷ rs) l a = absurd l
      steps_parted i ((x ∷ xs) ∷ []) l a = scan_parted i (x ∷ xs) _ (tt, tt)
      steps_parted i ((x ∷ xs) ∷ [] ∷ rs) l a = absurd l
      steps_parted i ((x ∷ xs) ∷ (y ∷ ys) ∷ rs) l a =
          let n = length (x ∷ xs) in
          let q = all_append Stands i (x ∷ xs) ((y ∷ ys) ++ flat rs) a in
          let other : key (get_or es (i + n) none) ≡ key x → ⊥ = λ e. l.0 (ap key (sym q.1.0.1) ∙ e) in
          scan_parted i (x ∷ xs) _ (
            each_map (Before (close i x n)) (Parted (close i x n)) (part_of i x n other) (steps_of (i + n) ((y ∷ ys) ∷ rs))
                (before_closes i x n (i + n) ((y ∷ ys) ∷ rs) (omega arith) (omega arith)),
            steps_parted (i + n) ((y ∷ ys) ∷ rs) l.1 q.1,
          )
        where
          part_of : (i : ℕ) (x : E) (n : ℕ) → (key (get_or es (i + n) none) ≡ key x → ⊥) → (p : Step E) → Before (close i x n) p → Parted (close i x n) p
          part_of i x n f (element j z) h = tt
          part_of i x n f (close j z m) h = (h.0, h.1, f)

      all_stand_lem : (i : ℕ) (xs : List E) → ((j : ℕ) → j < length xs → (i + j < length es) × (get_or es (i + j) none ≡ get_or xs j none)) →
          AllFrom Stands i xs
      all_stand_lem i [] h = tt
      all_stand_lem i (x ∷ xs) h = (
        rw (add-zero i) at (h 0 (omega arith)),
        all_stand_lem (i + 1) xs (λ j l. let e : i + 1 + j ≡ i + suc j = omega arith in rw e (h (suc j) (omega arith))),
      )

      stand : AllFrom Stands 0 (flat (runs_of key es))
      stand = rw (flat_runs es) (all_stand_lem 0 es (λ j l. rw (zero-add j) (l, refl)))

      -- so it does in the runs of es
      pub runs_stand : Each (λ p. Stands (index_of p) (element_of p)) (steps_of 0 (runs_of key es))
      runs_stand = steps_each Stands 0 (runs_of key es) stand

      -- which are as long as they can be
      pub runs_parted : Pairs Parted (steps_of 0 (runs_of key es))
      runs_parted = steps_parted 0 (runs_of key es) (runs_longest es) stand
