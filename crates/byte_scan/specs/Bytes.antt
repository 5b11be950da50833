-- Parts of a list, and where a byte first stands in one.
use Rattle.std.specs.Prelude.{ℕ, Bool, true, false, suc, List, [], ◌∷◌, eqb, take, drop}

-- the items from an index on, up to another
unfoldable pub slice : ℕ → ℕ → List ℕ → List ℕ
slice from to s = drop from (take to s)

-- where a byte is found: here, or one behind where it is found in the rest
unfoldable pub index_after : Bool → ℕ → ℕ
index_after true rest = 0
index_after false rest = suc rest

-- the first index of a byte, or the length where there is none
unfoldable pub index_of : ℕ → List ℕ → ℕ
index_of b [] = 0
index_of b (x ∷ s) = index_after (eqb x b) (index_of b s)
