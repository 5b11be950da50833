-- Where the loop over a list begins and ends: the answer of the whole is the answer of what is left from the reader's place on.
use mathlib.Core.Path.{◌≡◌, refl}
use Prim.Native.Nat.{ℕ}
use mathlib.Core.List.{List}
use lib.Dec.{eqb}
use lib.ListN.{length}
use Rattle.block_list.specs.Element.{ends_from, ends_after}

-- none is left exactly where the place is the list's end
pub none_left : (s : List ℕ) (p : ℕ) → eqb p (length s) ≡ ends_from s 0 p
unfolding ends_from
none_left s p = refl

-- all are left at the start
pub all_left : (s : List ℕ) (count : ℕ) → ends_after s count ≡ ends_from s count 0
unfolding ends_after
all_left s count = refl
