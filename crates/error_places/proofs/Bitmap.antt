-- What writing both runs of places leaves: the bitmap.
use Prim.Native.Nat.{ℕ, zero, suc, ◌+◌, ◌%◌, ◌≤◌, ◌<◌}
use native.Mathlib.Omega.{arith}
use native.Mathlib.Nat.{add-zero, zero-add, add-suc, suc-add}
use mathlib.Core.Path.{◌≡◌, refl, sym, ◌∙◌, ap}
use mathlib.Core.List.{List, [], ◌∷◌, ◌++◌}
use lib.Count.{ones, ones-le}
use lib.ListN.{length, take, drop, replicate, length-replicate}
use lib.Seq.{sets, sets-eq}
use Rattle.error_places.specs.Bitmap.{places_from, places_of, bitmap_of}
use Rattle.byte_parts.specs.Part.{padded}
use Rattle.error_places.proofs.Places.{count-from, low_bits, count}

-- stores of one run after another are the stores of both
sets-append : (l : List ℕ) (i : ℕ) (xs ys : List ℕ) → sets l i (xs ++ ys) ≡ sets (sets l i xs) (i + length xs) ys
sets-append l i [] ys = rw add-zero
sets-append l i (x ∷ xs) ys = rw (add-suc, ← suc-add) (sets-append _ (suc i) xs ys)

-- a list of zeros
zeros : ℕ → List ℕ
zeros n = replicate n 0

-- of m zeros the first n are n zeros
take_zeros : (n m : ℕ) → n ≤ m → take n (zeros m) ≡ zeros n
unfolding zeros
take_zeros zero m h = refl
take_zeros (suc n) zero h = absurd (omega arith)
take_zeros (suc n) (suc m) h = ap (λ (l : List ℕ). 0 ∷ l) (take_zeros n m (omega arith))

-- a list is padded with the zeros that it leaves
pads : (xs : List ℕ) (n m : ℕ) → length xs ≤ n → n ≤ m → take n (xs ++ zeros m) ≡ xs ++ drop (length xs) (zeros n)
unfolding zeros
pads [] n m h l = take_zeros n m l
pads (x ∷ xs) zero m h l = absurd (omega arith)
pads (x ∷ xs) (suc n) m h l = ap (λ (t : List ℕ). x ∷ t) (pads xs n m (omega arith) (omega arith))

-- a list stored in front of zeros
stored : (n : ℕ) (xs : List ℕ) → length xs ≤ n → sets (replicate n 0) 0 xs ≡ padded n xs
unfolding padded zeros
stored n xs h =
    let e : sets (zeros n) 0 xs ≡ _ = sets-eq xs (zeros n) 0 (simp (length-replicate, zero-add) h) in
    e ∙ rw zero-add (sym (pads xs n n h (omega arith)))

-- the two runs of places that a byte denotes, one written after the other
pub both_runs
    : (l : List ℕ) (v : ℕ) (low all : List ℕ) → v < 256 → low ≡ sets l 0 (places_from 8 1 v)
    → all ≡ sets low (ones v) (places_from 8 9 (v % 128)) → all ≡ sets l 0 (places_of v)
unfolding places_of
both_runs l v low all byte e a =
    let first = count-from 8 1 v byte in
    let k : ones v ≡ 0 + length (places_from 8 1 v) = omega (arith, first) in
    a ∙ rw (e, low_bits 7 9 v, k) (sym (sets-append l 0 (places_from 8 1 v) (places_from 7 9 v)))

-- at most fifteen
pub fifteen : (v : ℕ) → v < 256 → length (places_of v) ≤ 15
fifteen v byte = omega (arith, count v byte, ones-le 8 v byte, ones-le 7 (v % 128) (omega arith))

-- written in front of zeros, and counted, they are the byte's bitmap
pub bitmap
    : (v n : ℕ) (all : List ℕ) → v < 256 → all ≡ sets (replicate 15 0) 0 (places_of v) → n ≡ length (places_of v)
    → record { places = all; count = n } ≡ bitmap_of v
unfolding bitmap_of
bitmap v n all byte a e =
    let p : all ≡ padded 15 (places_of v) = a ∙ stored 15 (places_of v) (fifteen v byte) in λ i. record { places = p i; count = e i }
