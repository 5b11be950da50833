-- A loop over the first elements of a list, and what it knows on its way: the answer of the whole is that of what is left.
use mathlib.Core.Path.{◌≡◌, refl, sym, ◌∙◌}
use mathlib.Core.List.{List, [], ◌∷◌}
use Prim.Native.Nat.{ℕ, zero, suc, ◌+◌, ◌≤◌, ◌<◌, min}
use native.Mathlib.Numerals.{add-one}
use native.Mathlib.Omega.{arith}
use lib.ListN.{take, drop, length, get_or, length-take, drop_of_length-le}
use lib.Seq.{drop-cons, get_or-take}

module _ {A : Type 0} (l : List A) (n i : ℕ) where
  -- what is left of the first n elements from i on is the element at i and what is left from i + 1 on
  pub next : (z : A) → i < n → i < length l → drop i (take n l) ≡ get_or l i z ∷ drop (i + 1) (take n l)
  next z h k =
      let b : i < length (take n l) = simp length-take (omega arith) in
      rw (add-one, ← get_or-take n l i z, drop-cons (take n l) i z)

  -- nothing is left from their end on
  pub over : min n (length l) ≤ i → drop i (take n l) ≡ []
  over h = let k : length (take n l) ≤ i = simp length-take h in drop_of_length-le (take n l) k

-- at i, of n turns over the first `count` elements
pub record Left {A B : Type 0} (l : List A) (count n : ℕ) (whole : B) (answer : ℕ → List A → B) (i : ℕ) : Type 0 where
  pub within : i ≤ n
  pub all : n ≡ min count (length l)
  pub same : answer i (drop i (take count l)) ≡ whole

module _
    {A B : Type 0} {l : List A} {count n : ℕ} {whole : B} {answer : ℕ → List A → B} {i : ℕ}
    (left : Left l count n whole answer i)
  where
    -- the next element, and what is left after it
    pub here : (z : A) → i < n → answer i (get_or l i z ∷ drop (i + 1) (take count l)) ≡ whole
    here z h = rw (next l count i z (omega arith) (omega arith)) at left.same

    -- a turn that leaves the answer of the rest
    pub turn : (z : A) (then : ℕ → List A → B) → i < n → ((rest : List A) → answer i (get_or l i z ∷ rest) ≡ then (suc i) rest) →
        Left l count n whole then (i + 1)
    turn z then h step = record {
      within = omega arith;
      all = left.all;
      same = rw add-one (sym (step _) ∙ rw add-one at (here z h));
    }

    -- no element is left
    pub done : n ≤ i → answer i [] ≡ whole
    done h = rw (over l count i (omega arith)) at left.same

-- an element among the first n is read in the whole list, whatever a read past the end gives
pub read : {A : Type 0} (l : List A) (n i : ℕ) (y z : A) → i < length (take n l) → get_or (take n l) i y ≡ get_or l i z
read l zero i y z h = absurd (omega arith)
read [] (suc n) i y z h = absurd (omega arith)
read (x ∷ l) (suc n) zero y z h = refl
read (x ∷ l) (suc n) (suc i) y z h = read l n i y z (omega arith)
