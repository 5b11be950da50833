-- Laws of eight lanes, one after the other, and of what one lane comes to. Assumes nothing.
use Rattle.std.proofs.Common.{Result, Ok, Err}
use Prim.Native.Nat.{ℕ, zero, suc, ◌+◌, ◌-◌, ◌≤◌, ◌<◌}
use native.Mathlib.Omega.{arith}
use native.Mathlib.Nat.{add-zero}
use mathlib.Core.Path.{◌≡◌, refl, ap}
use mathlib.Core.Bool.{true, false}
use mathlib.Core.List.{List, [], ◌∷◌, ◌++◌}
use Rattle.board_lanes.specs.declared.refusal.BoardRefusal.TheVariants.{WrongLane, BadCrew, TailNotZero}
use lib.Dec.{eqb}
use lib.ListN.{length, get_or, drop, length-take}
use Rattle.byte_parts.specs.Part.{part}
use Rattle.board_lanes.specs.Board.{block_at, is_empty, race_of, are_crew, crew_bytes, filled_judged, lane_judged, and_then, lanes_judged, of_race, same_race, one_race, crew_length, crew_of, Lane, empty, filled, lane_of, lanes_from}
use Rattle.board_lanes.specs.declared.refusal.BoardRefusal.{BoardRefusal}

-- What is judged first, then next, then last.
pub then-then : (a b c : Result Unit BoardRefusal) → and_then (and_then a b) c ≡ and_then a (and_then b c)
then-then (Ok tt) b c = refl
then-then (Err x) b c = refl

-- Nothing wrong at the end.
pub then_sound : (a : Result Unit BoardRefusal) → and_then a (Ok tt) ≡ a
then_sound (Ok tt) = refl
then_sound (Err x) = refl

module _ (bytes : List ℕ) (k : ℕ) where
  -- The lanes from k on, where there is one.
  pub lanes_here : k < 8 → lanes_judged bytes (8 - k) k ≡ and_then (lane_judged k (block_at bytes k)) (lanes_judged bytes (8 - (k + 1)) (k + 1))
  unfolding lanes_judged
  lanes_here h = let e : 8 - k ≡ suc (8 - (k + 1)) = omega arith in rw e

  -- Where there is none.
  pub lanes_end : 8 ≤ k → lanes_judged bytes (8 - k) k ≡ Ok tt
  unfolding lanes_judged
  lanes_end h = let e : 8 - k ≡ 0 = omega arith in rw e

  -- The same of the races: a lane of this race, or empty.
  pub same_here : (race : ℕ) → k < 8 → of_race race (block_at bytes k) ≡ true → same_race bytes race (8 - k) k ≡ same_race bytes race (8 - (k + 1)) (k + 1)
  unfolding same_race
  same_here race h q = let e : 8 - k ≡ suc (8 - (k + 1)) = omega arith in rw (e, q)

  -- One of another.
  pub same_not : (race : ℕ) → k < 8 → of_race race (block_at bytes k) ≡ false → same_race bytes race (8 - k) k ≡ false
  unfolding same_race
  same_not race h q = let e : 8 - k ≡ suc (8 - (k + 1)) = omega arith in rw (e, q)

  -- No more lanes.
  pub same_end : (race : ℕ) → 8 ≤ k → same_race bytes race (8 - k) k ≡ true
  unfolding same_race
  same_end race h = let e : 8 - k ≡ 0 = omega arith in rw e

  -- An empty lane ahead of the first that is filled.
  pub one_empty_lem : k < 8 → is_empty (block_at bytes k) ≡ true → one_race bytes (8 - k) k ≡ one_race bytes (8 - (k + 1)) (k + 1)
  unfolding one_race
  one_empty_lem h q = let e : 8 - k ≡ suc (8 - (k + 1)) = omega arith in rw (e, q)

  -- The first that is filled.
  pub one_filled : k < 8 → is_empty (block_at bytes k) ≡ false → one_race bytes (8 - k) k ≡ same_race bytes (race_of (block_at bytes k)) (8 - (k + 1)) (k + 1)
  unfolding one_race
  one_filled h q = let e : 8 - k ≡ suc (8 - (k + 1)) = omega arith in rw (e, q)

  -- All lanes are empty.
  pub one_end : 8 ≤ k → one_race bytes (8 - k) k ≡ true
  unfolding one_race
  one_end h = let e : 8 - k ≡ 0 = omega arith in rw e

-- A filled block, by its first test that fails.
module _ (k : ℕ) (b : List ℕ) where
  pub block-lane : eqb (get_or b 0 0) (k + 1) ≡ false → filled_judged k b ≡ Err WrongLane
  unfolding filled_judged
  block-lane p = rw p

  pub block_crew : eqb (get_or b 0 0) (k + 1) ≡ true → are_crew (crew_bytes b) ≡ false → filled_judged k b ≡ Err BadCrew
  unfolding filled_judged
  block_crew p q = rw (p, q)

  pub block_tail : eqb (get_or b 0 0) (k + 1) ≡ true → are_crew (crew_bytes b) ≡ true → eqb (get_or b 15 0) 0 ≡ false → filled_judged k b ≡ Err TailNotZero
  unfolding filled_judged
  block_tail p q r = rw (p, q, r)

  pub block_sound : eqb (get_or b 0 0) (k + 1) ≡ true → are_crew (crew_bytes b) ≡ true → eqb (get_or b 15 0) 0 ≡ true → filled_judged k b ≡ Ok tt
  unfolding filled_judged
  block_sound p q r = rw (p, q, r)

-- One lane more.
pub lanes-more : (bytes : List ℕ) (n k : ℕ) → lanes_from bytes (suc n) k ≡ lanes_from bytes n k ++ (lane_of (block_at bytes (k + n)) ∷ [])
unfolding lanes_from
lanes-more bytes zero k = rw (add-zero k)
lanes-more bytes (suc n) k =
    let e : k + suc n ≡ k + 1 + n = omega arith in
    rw e (ap (λ (ls : List Lane). lane_of (block_at bytes k) ∷ ls) (lanes-more bytes n (k + 1)))

pub lanes_count : (bytes : List ℕ) (n k : ℕ) → length (lanes_from bytes n k) ≡ n
unfolding lanes_from
lanes_count bytes zero k = refl
lanes_count bytes (suc n) k = ap suc (lanes_count bytes n (k + 1))

-- What an empty lane's block comes to, and a filled one's.
module _ (b : List ℕ) where
  pub lane-empty : is_empty b ≡ true → lane_of b ≡ empty
  unfolding lane_of
  lane-empty e = rw e

  pub lane-filled : is_empty b ≡ false → lane_of b ≡ filled (race_of b) (crew_of b)
  unfolding lane_of
  lane-filled e = rw e

  -- No crew has more than twelve bytes.
  pub crew_most : length (crew_of b) ≤ 12
  unfolding part
  crew_most = omega (arith, length-take (crew_length (crew_bytes b)) (crew_bytes b), length-take 12 (drop 3 b))
