-- Laws of one block: its parts, whether it is empty, and its crew. Assumes nothing.
use Prim.Native.Nat.{ℕ, suc, ◌+◌, ◌-◌, ◌≤◌, ◌<◌}
use native.Mathlib.Omega.{arith}
use native.Mathlib.Numerals.{add-one}
use mathlib.Core.Path.{◌≡◌, refl, sym, ◌∙◌}
use mathlib.Core.Bool.{Bool, true, false, cond, ◌&&◌}
use mathlib.Core.List.{List, [], ◌∷◌, ◌++◌}
use lib.Dec.{eqb, leb}
use Rattle.std.specs.List.{list_all}
use lib.ListN.{length, get_or, take, drop, drop_of_length-le, length-take, length-drop}
use lib.Seq.{take_all, take-nil, take-suc}
use borrow.Author.Tests.{eq-eqb, ne_eqb, le-leb, lt-leb}
use Rattle.byte_parts.specs.Part.{part}
use Rattle.byte_parts.proofs.Part.{here}
use Rattle.board_lanes.specs.Board.{is_empty, are_crew, crew_length}

module _ (s : List ℕ) (at n : ℕ) where
  -- Past the end there is no part.
  pub part-past : length s ≤ at → part s at n ≡ []
  unfolding part
  part-past h = rw (drop_of_length-le s h) (take-nil n)

  -- Near the end a part is what is left.
  pub part-rest : length s - at ≤ n → part s at n ≡ take (length s - at) (drop at s)
  unfolding part
  part-rest h =
      let e : length (drop at s) ≡ length s - at = length-drop at s in
      take_all n (drop at s) (omega arith) ∙ sym (take_all (length s - at) (drop at s) (omega arith))

-- A space at the end does not count.
space_more : (t : List ℕ) → crew_length (t ++ (32 ∷ [])) ≡ crew_length t
unfolding crew_length
space_more [] = refl
space_more (x ∷ t) = rw (space_more t)

-- Any other byte does, and all before it.
byte_more : (t : List ℕ) (x : ℕ) → (x ≡ 32 → ⊥) → crew_length (t ++ (x ∷ [])) ≡ suc (length t)
unfolding crew_length
byte_more [] x h = rw (ne_eqb x 32 h)
byte_more (y ∷ t) x h =
    rw (byte_more t x h) (no_cut (eqb y 32) (length t))
  where
    no_cut : (b : Bool) (n : ℕ) → cond (b && eqb (suc n) 0) 0 (suc (suc n)) ≡ suc (suc n)
    no_cut true n = rw (ne_eqb (suc n) 0 (λ e. omega arith))
    no_cut false n = refl

module _ (s : List ℕ) (n : ℕ) (h : n < length s) where
  -- The first n + 1 bytes, the last of them a space.
  pub length_space : get_or s n 0 ≡ 32 → crew_length (take (n + 1) s) ≡ crew_length (take n s)
  length_space e = rw (add-one n, take-suc s n 0 h, e) (space_more (take n s))

  -- Or another byte.
  pub length_byte : (get_or s n 0 ≡ 32 → ⊥) → crew_length (take (n + 1) s) ≡ n + 1
  length_byte e =
      let k : length (take n s) ≡ n = length-take n s ∙ omega arith in
      rw (add-one n, take-suc s n 0 h, byte_more (take n s) (get_or s n 0) e, k)

-- What `all` says of bytes that are to be zero.
pub empty_all : (s : List ℕ) → list_all (λ x. eqb x 0) s ≡ is_empty s
unfolding is_empty
empty_all [] = refl
empty_all (x ∷ s) = rw (empty_all s)

-- What `all` says of bytes that are to be printed.
pub crew_all : (s : List ℕ) → list_all (λ x. leb 0x20 x && leb x 0x7e) s ≡ are_crew s
unfolding are_crew
crew_all [] = refl
crew_all (x ∷ s) = rw (crew_all s)
