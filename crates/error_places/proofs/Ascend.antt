-- The places of set bits ascend, and they are the places of all set bits and of no other.
use Prim.Native.Nat.{ℕ, zero, suc, ◌+◌, ◌/◌, ◌%◌, ◌^◌, ◌≤◌, ◌<◌}
use native.Mathlib.Omega.{arith}
use native.Mathlib.Nat.{add-zero, div-one}
use mathlib.Core.Path.{◌≡◌}
use mathlib.Core.Logic.{◌⊎◌, inl, inr, ⊎_elim}
use mathlib.Core.List.Memᴰ
use mathlib.Core.List.{List, [], ◌∷◌, ◌++◌, Memᴰ}
use Rattle.error_places.specs.Bitmap.{place_if, places_from, places_of}
use Rattle.error_places.proofs.Places.{up}

-- a list that ascends from `low` on, below `high`
abbrev pub Ascends : ℕ → List ℕ → ℕ → Type 0
Ascends low [] high = low ≤ high
Ascends low (x ∷ xs) high = (low ≤ x) × Ascends (x + 1) xs high

-- it does so from any lower number on
lower : (low low' : ℕ) (xs : List ℕ) (high : ℕ) → low' ≤ low → Ascends low xs high → Ascends low' xs high
lower low low' [] high h a = omega arith
lower low low' (x ∷ xs) high h a = (omega arith, a.1)

-- and two such lists do, one after the other
join : (low mid high : ℕ) (xs ys : List ℕ) → Ascends low xs mid → Ascends mid ys high → Ascends low (xs ++ ys) high
join low mid high [] ys a b = lower mid low ys high a b
join low mid high (x ∷ xs) ys a b = (a.0, join (x + 1) mid high xs ys a.1 b)

-- a place before them, or none, keeps that
place_ascends : (b p high : ℕ) (ps : List ℕ) → Ascends (p + 1) ps high → Ascends p (place_if b p ps) high
place_ascends zero p high ps a = lower (p + 1) p ps high (omega arith) a
place_ascends (suc b) p high ps a = (omega arith, a)

-- the places of d bits ascend
pub ascend_from : (d p v : ℕ) → Ascends p (places_from d p v) (p + d)
unfolding places_from
ascend_from zero p v = omega arith
ascend_from (suc d) p v =
    let e : p + 1 + d ≡ p + suc d = omega arith in
    place_ascends (v % 2) p (p + suc d) (places_from d (p + 1) (v / 2)) (rw e at (ascend_from d (p + 1) (v / 2)))

-- the places of a byte ascend, from 1 to 15
pub ascend : (v : ℕ) → Ascends 1 (places_of v) 16
unfolding places_of
ascend v = join 1 9 16 (places_from 8 1 v) (places_from 7 9 v) (ascend_from 8 1 v) (ascend_from 7 9 v)

-- x is the place of a set bit, one of d, the lowest bit's place being p
pub record Denoted (d p v x : ℕ) : Type 0 where
  pub bit : ℕ
  pub low : bit < d
  pub place : x ≡ p + bit
  pub is_set : v / 2 ^ bit % 2 ≡ 1

-- what is listed stays listed after a bit more
in_place : (b p x : ℕ) (ps : List ℕ) → Memᴰ x ps → Memᴰ x (place_if b p ps)
in_place zero p x ps m = m
in_place (suc b) p x ps m = Memᴰ.tail m

-- every set bit has its place
pub placed : (d p v k : ℕ) → k < d → v / 2 ^ k % 2 ≡ 1 → Memᴰ (p + k) (places_from d p v)
unfolding places_from
placed zero p v k h b = absurd (omega arith)
placed (suc d) p v zero h b = rw (rw div-one at b) (Memᴰ.head (add-zero p))
placed (suc d) p v (suc k) h b =
    let e : p + suc k ≡ p + 1 + k = omega arith in
    in_place (v % 2) p (p + suc k) (places_from d (p + 1) (v / 2))
    (Memᴰ.cast e (placed d (p + 1) (v / 2) k (omega arith) (rw (up v k) b)))

-- what is listed is that bit's place or was listed
of_place : (b p x : ℕ) (ps : List ℕ) → Memᴰ x (place_if b p ps) → ((x ≡ p) × (0 < b)) ⊎ Memᴰ x ps
of_place zero p x ps m = inr m
of_place (suc b) p x ps m = ⊎_elim (λ e. inl (e, omega arith)) inr (Memᴰ.cases_cons m)

-- and every place is a set bit's
pub denoted : (d p v x : ℕ) → Memᴰ x (places_from d p v) → Denoted d p v x
unfolding places_from
denoted zero p v x m = absurd (Memᴰ.not-nil m)
denoted (suc d) p v x m =
    ⊎_elim (λ h. record { bit = 0; low = omega arith; place = rw add-zero h.0; is_set = rw div-one (omega (arith, h.1)) })
    (λ m'.
    let n = denoted d (p + 1) (v / 2) x m' in
    record { bit = suc n.bit; low = omega (arith, n.low); place = omega (arith, n.place); is_set = rw (up v n.bit) at n.is_set })
    (of_place (v % 2) p x (places_from d (p + 1) (v / 2)) m)

-- a byte's set bit k has the place k + 1, and k + 9 if k is at most 6
pub byte_placed : (v k : ℕ) → v / 2 ^ k % 2 ≡ 1 → (k < 8 → Memᴰ (1 + k) (places_of v)) × (k < 7 → Memᴰ (9 + k) (places_of v))
unfolding places_of
byte_placed v k b = (
  λ h. Memᴰ.append_left (places_from 7 9 v) (placed 8 1 v k h b),
  λ h. Memᴰ.append_right (places_from 8 1 v) (placed 7 9 v k h b),
)

-- and there is no other place
pub byte_denoted : (v x : ℕ) → Memᴰ x (places_of v) → Denoted 8 1 v x ⊎ Denoted 7 9 v x
unfolding places_of
byte_denoted v x m =
    ⊎_elim (λ l. inl (denoted 8 1 v x l)) (λ r. inr (denoted 7 9 v x r)) (Memᴰ.append_cases (places_from 8 1 v) m)
