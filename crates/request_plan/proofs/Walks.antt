-- What holds of each step, and is kept in sequence, holds of the walk of any runs. Assumes nothing.
use Prim.Native.Nat.{ℕ, ◌+◌}
use mathlib.Core.List.{List, [], ◌∷◌}
use lib.ListN.{length}
use Rattle.request_runs.specs.Runs.{Walked, good, then, scan, walk}

module _ {E S : Type 0} (one : ℕ → E → S → Walked S) (close : ℕ → E → ℕ → S → Walked S) (Q : (S → Walked S) → Type 0) where
  pub record Steps : Type 0 where
    pub stay : Q good
    pub both : (f g : S → Walked S) → Q f → Q g → Q (λ s. then (f s) g)
    pub one_is_lem : (i : ℕ) (x : E) → Q (one i x)
    pub close_is : (i : ℕ) (x : E) (n : ℕ) → Q (close i x n)

  module _ (q : Steps) where
    -- of the elements of a run
    scan_is_lem : (i : ℕ) (xs : List E) → Q (scan one close i xs)
    unfolding scan
    scan_is_lem i [] = q.stay
    scan_is_lem i (x ∷ xs) = q.both (one i x) (scan one close (i + 1) xs) (q.one_is_lem i x) (scan_is_lem (i + 1) xs)

    -- of the runs
    pub walk_is : (i : ℕ) (rs : List (List E)) → Q (walk one close i rs)
    unfolding walk
    walk_is i [] = q.stay
    walk_is i ([] ∷ rs) = walk_is i rs
    walk_is i ((x ∷ xs) ∷ rs) =
        let n = length (x ∷ xs) in
        q.both (scan one close i (x ∷ xs)) (λ s. then (close i x n s) (walk one close (i + n) rs)) (scan_is_lem i (x ∷ xs))
        (q.both (close i x n) (walk one close (i + n) rs) (q.close_is i x n) (walk_is (i + n) rs))
