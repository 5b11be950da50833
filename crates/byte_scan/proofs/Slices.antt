-- Laws of a part of a list, and of where a byte first stands in one. Assumes nothing.
use Rattle.std.proofs.Common.{◌≡◌, ◌≢◌, ℕ, suc, ◌+◌, ◌-◌, ◌<◌, ◌≤◌, List, [], ◌∷◌, length, get_or, refl, arith, add-one, eq-eqb}
use Rattle.std.proofs.Math.Seq.{drop-cons}
use lib.ListN.{take, length-take, drop_of_length-le}
use Rattle.std.proofs.lemmas.Bool.{ne_eqb}
use Rattle.std.proofs.lemmas.List.{get_or-take}
use Rattle.byte_scan.specs.Bytes.{slice, index_after, index_of}

-- Nothing is from an index on up to itself.
pub slice-none : (i : ℕ) (s : List ℕ) → slice i i s ≡ []
unfolding slice
slice-none i s = drop_of_length-le (take i s) (simp length-take (omega arith))

-- A part that is not empty is its first item and the part behind it.
pub slice-more : (i to : ℕ) (s : List ℕ) → i < to → to ≤ length s → slice i to s ≡ get_or s i 0 ∷ slice (i + 1) to s
unfolding slice
slice-more i to s h k =
    let lt : i < length (take to s) = simp length-take (omega arith) in
    rw (drop-cons (take to s) i 0 lt, add-one i, get_or-take to s i 0 h) refl

-- Nothing is found in nothing, and so the place is its length.
pub index_of-none : (b : ℕ) → index_of b [] ≡ 0
unfolding index_of
index_of-none b = refl

-- A byte is found where it is the first.
pub index_of-here : (b x : ℕ) (s : List ℕ) → x ≡ b → index_of b (x ∷ s) ≡ 0
unfolding index_of index_after
index_of-here b x s e = rw (eq-eqb x b e) refl

-- Behind another byte it is found one further.
pub index_of-more : (b x : ℕ) (s : List ℕ) → x ≢ b → index_of b (x ∷ s) ≡ suc (index_of b s)
unfolding index_of index_after
index_of-more b x s n = rw (ne_eqb x b n) refl
