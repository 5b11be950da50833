-- Laws of the parts of a list: what a put leaves, and what a part of it shows. Assumes nothing.
use Prim.Native.Nat.{ℕ, zero, suc, ◌+◌, ◌-◌, ◌≤◌, ◌<◌}
use native.Mathlib.Omega.{arith}
use native.Mathlib.Decide.{dec_lt}
use native.Mathlib.Numerals.{add-one}
use native.Mathlib.Nat.{add-zero, zero-add, add-suc, suc-add}
use mathlib.Core.Path.{◌≡◌, refl, sym, ap, ◌∙◌}
use mathlib.Core.Logic.{◌⊎◌, inl, inr}
use mathlib.Core.Bool.{Bool, true, false, and-eq-true_iff}
use mathlib.Core.List.{List, [], ◌∷◌, ◌++◌, append_assoc}
use lib.Dec.{eqb}
use lib.ListN.{length, get_or, set, take, drop, length-take, length-drop, drop_of_length-le}
use lib.Seq.{sets, length-sets, sets-eq, set-get_or, set-set, set_comm, take-set-le, drop-set-lt, take-nil, take-suc, take-take, drop-drop, take_at, drop_at, get_or-take, get_or-drop, take_all, drop-cons, length-take-le}
use borrow.Author.Tests.{eq-eqb, eqb-true}
use Rattle.std.specs.Cmp.Lexicographic.{pointwise}
use Rattle.byte_parts.specs.Part.{part, put, same_bytes}

-- Stores of two runs, one after the other.
pub sets-append : (xs ys l : List ℕ) (i : ℕ) → sets l i (xs ++ ys) ≡ sets (sets l i xs) (i + length xs) ys
sets-append [] ys l i = rw (add-zero i)
sets-append (x ∷ xs) ys l i = rw (add-suc i (length xs), ← suc-add i (length xs)) (sets-append xs ys (set l i x) (suc i))

-- Stores from i on leave what stands before i.
take-sets : (vs l : List ℕ) (n i : ℕ) → n ≤ i → take n (sets l i vs) ≡ take n l
take-sets [] l n i h = refl
take-sets (v ∷ vs) l n i h = take-sets vs (set l i v) n (suc i) (omega arith) ∙ take-set-le n l i v h

-- They leave what stands past them.
drop-sets : (vs l : List ℕ) (n i : ℕ) → i + length vs ≤ n → drop n (sets l i vs) ≡ drop n l
drop-sets [] l n i h = refl
drop-sets (v ∷ vs) l n i h = drop-sets vs (set l i v) n (suc i) (omega arith) ∙ drop-set-lt n l i v (omega arith)

-- A store before them may as well come first.
set-sets : (vs l : List ℕ) (i j v : ℕ) → j < i → set (sets l i vs) j v ≡ sets (set l j v) i vs
set-sets [] l i j v h = refl
set-sets (w ∷ vs) l i j v h = set-sets vs (set l i w) (suc i) j v (omega arith) ∙ rw (set_comm l i j w v (λ e. omega arith))

-- Stores in the same places count alone.
sets-sets : (xs ys l : List ℕ) (i : ℕ) → length xs ≤ length ys → sets (sets l i xs) i ys ≡ sets l i ys
sets-sets [] ys l i h = refl
sets-sets (x ∷ xs) [] l i h = absurd (omega arith)
sets-sets (x ∷ xs) (y ∷ ys) l i h =
    rw (set-sets xs (set l i x) (suc i) i y (omega arith), set-set l i x y) (sets-sets xs ys (set l i y) (suc i) (omega arith))

-- A list's own elements, stored where they stand.
sets_own : (n : ℕ) (l : List ℕ) (i : ℕ) → sets l i (take n (drop i l)) ≡ l
sets_own zero l i = refl
sets_own (suc n) l i =
    elim (dec_lt i (length l)) [
      | yes h ↦
          ap (λ (r : List ℕ). sets l i (take (suc n) r)) (drop-cons l i 0 h)
          ∙ ap (λ (r : List ℕ). sets r (suc i) (take n (drop (suc i) l))) (set-get_or l i 0)
          ∙ sets_own n l (suc i)
      | no h ↦ let g : length l ≤ i = omega arith in rw (drop_of_length-le l g)
    ]

-- A part is the end of a front.
take-drop : (n m : ℕ) (l : List ℕ) → take m (drop n l) ≡ drop n (take (n + m) l)
take-drop zero m l = rw (zero-add m)
take-drop (suc n) m [] = rw (suc-add n m) (take-nil m)
take-drop (suc n) m (x ∷ l) = rw (suc-add n m) (take-drop n m l)

-- The rest at i is the byte there, and the rest after it.
pub here : (s : List ℕ) (i : ℕ) → i < length s → drop i s ≡ get_or s i 0 ∷ drop (i + 1) s
here s i h = rw (add-one i) (drop-cons s i 0 h)

-- A part has its length.
pub length_part : (s : List ℕ) (at n : ℕ) → at + n ≤ length s → length (part s at n) ≡ n
unfolding part
length_part s at n h = length-take-le n (drop at s) (simp length-drop (omega arith))

-- A byte of a part.
pub get_d_part : (s : List ℕ) (at n i : ℕ) → i < n → get_or (part s at n) i 0 ≡ get_or s (at + i) 0
unfolding part
get_d_part s at n i h = get_or-take n (drop at s) i 0 h ∙ get_or-drop at s i 0

-- A put keeps the length.
pub length-put : (s : List ℕ) (at n : ℕ) (t : List ℕ) → length (put s at n t) ≡ length s
unfolding put
length-put s at n t = length-sets s at (take n t)

-- A put as what stands before it, what is put, and what stands past it.
pub put-split
    : (s : List ℕ) (at n : ℕ) (t : List ℕ) → at + n ≤ length s → n ≤ length t
    → put s at n t ≡ take at s ++ take n t ++ drop (at + n) s
unfolding put
put-split s at n t h k =
    let e : length (take n t) ≡ n = length-take-le n t k in
    sets-eq (take n t) s at (omega arith) ∙ rw e

-- A put of nothing.
pub put_zero : (s : List ℕ) (at : ℕ) (t : List ℕ) → put s at 0 t ≡ s
unfolding put
put_zero s at t = refl

-- A turn of a loop that puts: one byte more.
pub put_suc
    : (s : List ℕ) (at n : ℕ) (t : List ℕ) → n < length t → put s at (n + 1) t ≡ set (put s at n t) (at + n) (get_or t n 0)
unfolding put
put_suc s at n t h =
    let e : length (take n t) ≡ n = length-take-le n t (omega arith) in
    rw (add-one n, take-suc t n 0 h, sets-append (take n t) (get_or t n 0 ∷ []) s at, e)

-- The same from the last byte on: one byte more in front.
pub put_cons
    : (s : List ℕ) (at n x : ℕ) (t : List ℕ) → put s at (n + 1) (x ∷ t) ≡ set (put s (at + 1) n t) at x
unfolding put
put_cons s at n x t = rw (add-one n, add-one at) (sym (set-sets (take n t) s (suc at) at x (omega arith)))

-- A put takes no more than the first n bytes.
pub put-take : (s : List ℕ) (at n : ℕ) (t : List ℕ) → put s at n (take n t) ≡ put s at n t
unfolding put
put-take s at n t = rw (take-take n n t (omega arith))

-- What was put is there.
pub part-put
    : (s : List ℕ) (at n : ℕ) (t : List ℕ) → at + n ≤ length s → n ≤ length t → part (put s at n t) at n ≡ take n t
unfolding part
part-put s at n t h k =
    let e : length (take at s) ≡ at = length-take-le at s (omega arith) in
    let f : length (take n t) ≡ n = length-take-le n t k in
    rw (put-split s at n t h k, append_assoc (take at s) (take n t) (drop (at + n) s), drop_at (take at s) (take n t ++ drop (at + n) s) at e)
    (take_at (take n t) (drop (at + n) s) n f)

-- A part elsewhere is as it was.
pub part-put_apart
    : (s : List ℕ) (at n : ℕ) (t : List ℕ) (from m : ℕ) → (from + m ≤ at) ⊎ (at + n ≤ from)
    → part (put s at n t) from m ≡ part s from m
unfolding part put
part-put_apart s at n t from m (inl h) =
    rw (take-drop from m (sets s at (take n t)), take-sets (take n t) s (from + m) at h) (sym (take-drop from m s))
part-put_apart s at n t from m (inr h) = rw (drop-sets (take n t) s from at (simp length-take (omega arith)))

-- So is a byte.
pub get_d_put_apart
    : (s : List ℕ) (at n : ℕ) (t : List ℕ) (i : ℕ) → (i + 1 ≤ at) ⊎ (at + n ≤ i)
    → get_or (put s at n t) i 0 ≡ get_or s i 0
get_d_put_apart s at n t i h =
    let e : i + 0 ≡ i = add-zero i in
    let f : (l : List ℕ) → get_or l i 0 ≡ get_or (part l i 1) 0 0 = λ l. sym (get_d_part l i 1 0 (omega arith) ∙ rw e) in
    f (put s at n t) ∙ rw (part-put_apart s at n t i 1 h) (sym (f s))

-- Of two puts in one place the second counts.
pub put-put
    : (s : List ℕ) (at n : ℕ) (t u : List ℕ) → n ≤ length u → put (put s at n t) at n u ≡ put s at n u
unfolding put
put-put s at n t u h = sets-sets (take n t) (take n u) s at (simp length-take (omega arith))

-- To put back what is there changes nothing.
pub put-part : (s : List ℕ) (at n : ℕ) → put s at n (part s at n) ≡ s
unfolding put part
put-part s at n = rw (take-take n n (drop at s) (omega arith)) (sets_own n s at)

-- A part of a part is a part of the whole.
pub part-part
    : (s : List ℕ) (at n from m : ℕ) → from + m ≤ n → part (part s at n) from m ≡ part s (at + from) m
unfolding part
part-part s at n from m h =
    rw (take-drop from m (take n (drop at s)), take-take (from + m) n (drop at s) h, ← drop-drop from at s)
    (sym (take-drop from m (drop at s)))

-- A part that was lent and comes back as ys: what a walk leaves of `&mut s[at..at + n]`.
pub put_lent
    : (s : List ℕ) (at n : ℕ) (ys : List ℕ) → at + n ≤ length s → length ys ≡ n
    → take at s ++ (ys ++ drop (at + n - at) (drop at s)) ≡ put s at n ys
put_lent s at n ys h e =
    let k : at + n - at ≡ n = omega arith in
    rw (k, drop-drop n at s, put-split s at n ys h (omega arith), take_all n ys (omega arith))
    (sym (append_assoc (take at s) ys (drop (at + n) s)))

-- Lists that hold the same bytes are equal.
pub same_equal : (s t : List ℕ) → same_bytes s t ≡ true → s ≡ t
unfolding same_bytes
same_equal [] [] e = refl
same_equal [] (y ∷ t) e = cc
same_equal (x ∷ s) [] e = cc
same_equal (x ∷ s) (y ∷ t) e =
    let h = (and-eq-true_iff (eqb x y) (same_bytes s t)).0 e in
    rw (eqb-true x y h.0, same_equal s t h.1)

-- What `==` says of two slices is whether they hold the same bytes.
pub pointwise_same : (s t : List ℕ) → pointwise eqb s t ≡ same_bytes s t
unfolding same_bytes
pointwise_same [] [] = refl
pointwise_same [] (y ∷ t) = refl
pointwise_same (x ∷ s) [] = refl
pointwise_same (x ∷ s) (y ∷ t) = rw (pointwise_same s t)

-- A list holds the same bytes as itself.
same_refl : (s : List ℕ) → same_bytes s s ≡ true
unfolding same_bytes
same_refl [] = refl
same_refl (x ∷ s) = rw (eq-eqb x x refl, same_refl s)

-- Equal lists hold the same bytes.
pub equal_same_lem : (s t : List ℕ) → s ≡ t → same_bytes s t ≡ true
equal_same_lem s t e = rw e (same_refl t)

-- A test that is not true is false.
ne_true : (b : Bool) → (b ≡ true → ⊥) → b ≡ false
ne_true true h = absurd (h refl)
ne_true false h = refl

-- Lists that are not equal do not hold the same bytes.
pub unequal_same : (s t : List ℕ) → (s ≡ t → ⊥) → same_bytes s t ≡ false
unequal_same s t h = ne_true (same_bytes s t) (λ e. h (same_equal s t e))
