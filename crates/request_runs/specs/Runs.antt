-- Runs of elements of equal key, and what walking them run by run comes to, for any elements and any state.
use Rattle.std.specs.Prelude.{ℕ, ◌+◌, List, [], ◌∷◌, cond, eqb, length}
use Rattle.answers.specs.declared.status.Fault.{Fault}

-- a state, or the index of the element that failed first and its fault
pub data Walked (S : Type 0) : Type 0 where
  bad : ℕ → Fault → Walked S
  good : S → Walked S

unfoldable pub then : {S : Type 0} → Walked S → (S → Walked S) → Walked S
then (bad i f) more = bad i f
then (good s) more = more s

module _ {E : Type 0} (key : E → ℕ) where
  -- an element in front of the runs of those after it
  unfoldable pub push : E → List (List E) → List (List E)
  push x [] = (x ∷ []) ∷ []
  push x ([] ∷ rs) = (x ∷ []) ∷ rs
  push x ((y ∷ ys) ∷ rs) = cond (eqb (key y) (key x)) ((x ∷ y ∷ ys) ∷ rs) ((x ∷ []) ∷ (y ∷ ys) ∷ rs)

  -- the longest stretches of consecutive elements of equal key
  -- RULES 9.3
  unfoldable pub runs_of : List E → List (List E)
  runs_of [] = []
  runs_of (x ∷ xs) = push x (runs_of xs)

-- `one i x`: element x, of index i; `close i x n`: the end of a run of n elements, of which x is the first, of index i
module _ {E S : Type 0} (one : ℕ → E → S → Walked S) (close : ℕ → E → ℕ → S → Walked S) where
  -- the elements of a run, in order
  unfoldable pub scan : ℕ → List E → S → Walked S
  scan i [] s = good s
  scan i (x ∷ xs) s = then (one i x s) (λ s'. scan (i + 1) xs s')

  -- the runs, in order
  unfoldable pub walk : ℕ → List (List E) → S → Walked S
  walk i [] s = good s
  walk i ([] ∷ rs) s = walk i rs s
  walk i ((x ∷ xs) ∷ rs) s =
      then (scan i (x ∷ xs) s) (λ s'. then (close i x (length (x ∷ xs)) s') (λ s''. walk (i + length (x ∷ xs)) rs s''))
