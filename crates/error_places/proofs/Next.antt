-- Writing places one by one: the next is found by trailing zeros, and writing it leaves the others.
use Prim.Native.Nat.{ℕ, zero, suc, ◌+◌, ◌-◌, ◌/◌, ◌%◌, ◌^◌, ◌≤◌, ◌<◌}
use native.Mathlib.Omega.{arith}
use native.Mathlib.Decide.{dec_lt}
use native.Mathlib.Nat.{add-zero, div-one}
use native.Mathlib.Numerals.{add-one}
use mathlib.Core.Path.{◌≡◌, ap}
use mathlib.Core.List.{List, ◌∷◌}
use lib.Count.{ones, count_trailing_zeros}
use lib.ListN.{length, set, length-set}
use lib.Pow.{shr_lt, shr-shr}
use lib.Seq.{sets, length-sets}
use Rattle.error_places.specs.Bitmap.{places_from}
use Rattle.error_places.proofs.Places.{half, up, no_places, count-from}

-- the lowest set bit of d has z zeros below it: its place is z up, and the other places are those of the bits above
pub record Next (d p v z : ℕ) : Type 0 where
  pub low : z < d
  pub first : places_from d p v ≡ (p + z) ∷ places_from (d - (z + 1)) (p + z + 1) (v / 2 ^ z / 2)

-- no zero below it, where the lowest bit is set
next_odd : (d p v : ℕ) → v % 2 ≡ 1 → Next (suc d) p v 0
unfolding places_from
next_odd d p v odd =
    let e : suc d - 1 ≡ d = omega arith in record { low = omega arith; first = rw (odd, add-zero, div-one, e) }

-- one zero more than in the half, where it is not
next_even : (d p v z : ℕ) → v % 2 ≡ 0 → Next d (p + 1) (v / 2) z → Next (suc d) p v (suc z)
unfolding places_from
next_even d p v z even n =
    let here : p + 1 + z ≡ p + suc z = omega arith in
    let left : d - (z + 1) ≡ suc d - (suc z + 1) = omega arith in
    record { low = omega (arith, n.low); first = rw even (rw (here, left, up v z) at n.first) }

-- trailing zeros find the next place
pub next_place : (d k p v : ℕ) → v < 2 ^ d → d ≤ k → 0 < v → Next d p v (count_trailing_zeros k v)
unfolding count_trailing_zeros
next_place zero k p v small wide some = absurd (omega arith)
next_place (suc d) zero p v small wide some = absurd (omega arith)
next_place (suc d) (suc k) p v small wide some =
    elim (dec_lt 0 (v % 2)) [
      | yes h ↦ let odd : v % 2 ≡ 1 = omega arith in rw odd (next_odd d p v odd)
      | no h ↦
          let even : v % 2 ≡ 0 = omega arith in
          rw even (next_even d p v (count_trailing_zeros k (v / 2)) even (next_place d k (p + 1) (v / 2) (half d small) (omega arith) (omega arith)))
    ]

-- the bits above the lowest set one are that many fewer
rest_below : (d v z : ℕ) → v < 2 ^ d → z < d → v / 2 ^ z / 2 < 2 ^ (d - (z + 1))
rest_below d v z small low =
    let e : d - (z + 1) + (z + 1) ≡ d = omega arith in
    rw (shr-shr v z 1) (shr_lt (d - (z + 1)) (z + 1) (rw e small))

-- what is left to write: the places of the bits `rest`, the lowest being that of `next`, from index i on
pub record Left (before : List ℕ) (at bits place : ℕ) (places : List ℕ) (rest next i : ℕ) : Type 0 where
  pub from : place ≤ next
  pub to : next ≤ place + 8
  pub small : rest < 2 ^ (place + 8 - next)
  pub room : i + length (places_from (place + 8 - next) next rest) ≤ length places
  pub same : sets places i (places_from (place + 8 - next) next rest) ≡ sets before at (places_from 8 place bits)

-- at first all of it is left
pub started
    : {places : List ℕ} {at bits place : ℕ} → bits < 256 → at + ones bits ≤ length places
    → Left places at bits place places bits place at
started {places} {at} {bits} {place} byte room =
    let e : place + 8 - place ≡ 8 = omega arith in
    record { from = omega arith; to = omega arith; small = rw e byte; room = rw (e, count-from 8 place bits byte) room; same = rw e }

module _ {before : List ℕ} {at bits place : ℕ} {places : List ℕ} {rest next i : ℕ}
    (l : Left before at bits place places rest next i) where
  -- all is written, where no bit is left
  pub written : rest ≡ 0 → places ≡ sets before at (places_from 8 place bits)
  written none = rw (none, no_places) at l.same

  -- writing keeps the length
  pub length-left : length places ≡ length before
  length-left = simp length-sets at (ap length l.same)

  -- the next place is found by trailing zeros
  pub next-left : 0 < rest → Next (place + 8 - next) next rest (count_trailing_zeros 8 rest)
  next-left some = next_place (place + 8 - next) 8 next rest l.small (omega (arith, l.from)) some

  module _ {z : ℕ} (n : Next (place + 8 - next) next rest z) where
    -- there is room for it
    pub room-left : i < length places
    room-left = omega (arith, rw n.first at l.room)

    -- and writing it leaves the others
    pub turn : Left before at bits place (set places i (next + z)) (rest / 2 ^ z / 2) (next + z + 1) (i + 1)
    turn =
        let e : place + 8 - (next + z + 1) ≡ place + 8 - next - (z + 1) = omega arith in record {
          from = omega (arith, l.from);
          to = omega (arith, n.low);
          small = rw e (rest_below (place + 8 - next) rest z l.small n.low);
          room = rw (e, length-set) (omega (arith, rw n.first at l.room));
          same = rw (e, add-one i) (rw n.first at l.same);
        }
