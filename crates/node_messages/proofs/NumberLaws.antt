-- Numbers of 16 bits one after the other: how many bytes they take, which those are, and what is read of them. Assumes nothing.
use Prim.Native.Nat.{ℕ, zero, suc, ◌+◌, ◌-◌, ◌*◌, ◌/◌, ◌%◌, ◌≤◌, ◌<◌}
use native.Mathlib.Omega.{arith}
use native.Mathlib.Nat.{zero-add}
use mathlib.Core.Path.{◌≡◌, refl, sym, ap, ◌∙◌}
use mathlib.Core.List.{List, [], ◌∷◌, ◌++◌}
use lib.ListN.{length, get_or, set, take, drop, replicate, length-append, length-take, length-replicate}
use lib.Seq.{get_or-drop, take_all, take-take, take_at, take-append-add, sets-eq}
use Rattle.byte_parts.specs.Values.{Bytes}
use Rattle.byte_parts.specs.Half.{half_bytes, half_at}
use Rattle.byte_parts.specs.Part.{put, padded}
use Rattle.byte_parts.proofs.Put.{put_pair_lem, put_snoc}
use Rattle.byte_parts.proofs.Halves.{half_back, half_says}
use Rattle.node_messages.specs.Numbers.{numbers_bytes, numbers_in}
use Rattle.node_messages.specs.Kept.{Halves}

-- two bytes each
pub length-bytes : (vs : List ℕ) → length (numbers_bytes vs) ≡ 2 * length vs
unfolding numbers_bytes half_bytes
length-bytes [] = refl
length-bytes (v ∷ vs) = omega (arith, length-bytes vs)

-- the low byte of each
low_at : (vs : List ℕ) (i : ℕ) → i < length vs → get_or (numbers_bytes vs) (2 * i) 0 ≡ get_or vs i 0 % 256
unfolding numbers_bytes half_bytes
low_at [] i h = absurd (omega arith)
low_at (v ∷ vs) zero h = refl
low_at (v ∷ vs) (suc i) h = let e : 2 * suc i ≡ suc (suc (2 * i)) = omega arith in rw e (low_at vs i (omega arith))

-- and its high byte
high_at : (vs : List ℕ) (i : ℕ) → i < length vs → get_or (numbers_bytes vs) (2 * i + 1) 0 ≡ get_or vs i 0 / 256 % 256
unfolding numbers_bytes half_bytes
high_at [] i h = absurd (omega arith)
high_at (v ∷ vs) zero h = refl
high_at (v ∷ vs) (suc i) h = let e : 2 * suc i + 1 ≡ suc (suc (2 * i + 1)) = omega arith in rw e (high_at vs i (omega arith))

-- as many as are asked for
pub length_in : (n : ℕ) (s : List ℕ) → length (numbers_in n s) ≡ n
unfolding numbers_in
length_in zero s = refl
length_in (suc n) s = ap suc (length_in n (drop 2 s))

-- two bytes further on
half_drop : (n at : ℕ) (s : List ℕ) → half_at (drop n s) at ≡ half_at s (n + at)
unfolding half_at
half_drop n at s =
    let e : n + (at + 1) ≡ n + at + 1 = omega arith in
    rw (get_or-drop n s at 0, get_or-drop n s (at + 1) 0, e)

-- each is what its two bytes make
in_at : (n : ℕ) (s : List ℕ) (i : ℕ) → i < n → get_or (numbers_in n s) i 0 ≡ half_at s (2 * i)
unfolding numbers_in
in_at zero s i h = absurd (omega arith)
in_at (suc n) s zero h = refl
in_at (suc n) s (suc i) h =
    let e : 2 + 2 * i ≡ 2 * suc i = omega arith in
    in_at n (drop 2 s) i (omega arith) ∙ half_drop 2 (2 * i) s ∙ rw e

-- the same, from a place on
pub in_from_lem : (n : ℕ) (s : List ℕ) (at i : ℕ) → i < n → get_or (numbers_in n (drop at s)) i 0 ≡ half_at s (at + 2 * i)
in_from_lem n s at i h = in_at n (drop at s) i h ∙ half_drop at (2 * i) s

-- one number more
pub put-number : (d : List ℕ) (at : ℕ) (vs : List ℕ) (i : ℕ) → i < length vs →
    put (put d at (2 * i) (numbers_bytes vs)) (at + 2 * i) 2 (half_bytes (get_or vs i 0)) ≡ put d at (2 * (i + 1)) (numbers_bytes vs)
unfolding half_bytes
put-number d at vs i h =
    let e : 2 * (i + 1) ≡ 2 * i + 2 = omega arith in
    rw e (put_pair_lem d at (numbers_bytes vs) (2 * i) _ _ (omega (arith, length-bytes vs)) (sym (low_at vs i h)) (sym (high_at vs i h)))

-- the rest of zeros
abbrev zeros : ℕ → List ℕ
zeros n = replicate n 0

drop_zeros : (n m : ℕ) → drop n (zeros (n + m)) ≡ zeros m
drop_zeros zero m = let e : 0 + m ≡ m = omega arith in rw e
drop_zeros (suc n) m = let e : suc n + m ≡ suc (n + m) = omega arith in rw e (drop_zeros n m)

take_zeros : (n m : ℕ) → take m (zeros (n + m)) ≡ zeros m
take_zeros n zero = refl
take_zeros n (suc m) = let e : n + suc m ≡ suc (n + m) = omega arith in rw e (ap (λ (l : List ℕ). 0 ∷ l) (take_zeros n m))

-- with as many zeros as a list needs
pad : (xs : List ℕ) (m : ℕ) → put (zeros (length xs + m)) 0 (length xs) xs ≡ padded (length xs + m) xs
unfolding put padded
pad xs m =
    let own : take (length xs) xs ≡ xs = take_all (length xs) xs (omega arith) in
    let z : 0 + length xs ≡ length xs = zero-add (length xs) in
    rw own (sets-eq xs (zeros (length xs + m)) 0 (simp length-replicate (omega arith))
    ∙ rw (z, drop_zeros (length xs) m, take-append-add xs (zeros (length xs + m)) m, take_zeros (length xs) m))

-- numbers put to the front of zeros are padded
pub put-padded : (most n : ℕ) (xs : List ℕ) → length xs ≡ n → n ≤ most → put (replicate most 0) 0 n xs ≡ padded most xs
put-padded most n xs e h =
    let q : most ≡ length xs + (most - length xs) = omega arith in
    rw (sym e, q) (pad xs (most - length xs))

-- as long as asked
pub padded-long : (n : ℕ) (xs : List ℕ) → length (padded n xs) ≡ n
unfolding padded
padded-long n xs = simp (length-take, length-append, length-replicate) (omega arith)

-- and stand in front of them
pub padded_front : (most n : ℕ) (xs : List ℕ) → length xs ≡ n → n ≤ most → take n (padded most xs) ≡ xs
unfolding padded
padded_front most n xs e h = take-take n most (xs ++ replicate most 0) h ∙ take_at xs (replicate most 0) n e

-- one number more
pub padded-more : (most : ℕ) (xs : List ℕ) (v : ℕ) → length xs < most → padded most (xs ++ (v ∷ [])) ≡ set (padded most xs) (length xs) v
padded-more most xs v h =
    let k : length (xs ++ (v ∷ [])) ≤ most = simp length-append (omega arith) in
    let z : 0 + length xs ≡ length xs = zero-add (length xs) in
    sym (put-padded most (length (xs ++ (v ∷ []))) (xs ++ (v ∷ [])) refl k)
    ∙ sym (put_snoc (replicate most 0) 0 xs v)
    ∙ rw (z, put-padded most (length xs) xs refl (omega arith))

-- what is written is read back, whatever follows it
pub numbers_back : (vs rest : List ℕ) → Halves vs → numbers_in (length vs) (numbers_bytes vs ++ rest) ≡ vs
unfolding numbers_in numbers_bytes half_bytes half_at
numbers_back [] rest h = refl
numbers_back (v ∷ vs) rest h = rw (half_back v (h 0), numbers_back vs rest (λ i. h (suc i)))

-- bytes are those of the numbers that they make
pub numbers_say : (n : ℕ) (s : List ℕ) → Bytes s → 2 * n ≤ length s → numbers_bytes (numbers_in n s) ≡ take (2 * n) s
unfolding numbers_bytes numbers_in
numbers_say zero s b h = refl
numbers_say (suc n) [] b h = absurd (omega arith)
numbers_say (suc n) (x ∷ []) b h = absurd (omega arith)
numbers_say (suc n) (x ∷ y ∷ s) b h =
    let e : 2 * suc n ≡ suc (suc (2 * n)) = omega arith in
    rw (e, half_says (x ∷ y ∷ s) 0 (b 0) (b 1), numbers_say n s (λ i. b (suc (suc i))) (omega arith))
