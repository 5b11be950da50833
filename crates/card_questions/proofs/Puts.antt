-- Answers to a list of numbers, put one after the other.
use mathlib.Core.Path.{◌≡◌, refl, sym, ◌∙◌}
use mathlib.Core.List.{List, [], ◌∷◌, map}
use Prim.Native.Nat.{ℕ, zero, suc, ◌+◌, ◌<◌}
use native.Mathlib.Nat.{zero-add}
use native.Mathlib.Omega.{arith}
use lib.ListN.{length, get_or, set, length-map}
use Rattle.byte_parts.specs.Part.{put}
use Rattle.byte_parts.proofs.Put.{put_next}

-- what a function gives of a list is read there
map_read : (f : ℕ → ℕ) (l : List ℕ) (i : ℕ) → i < length l → get_or (map f l) i 0 ≡ f (get_or l i 0)
map_read f [] i h = absurd (omega arith)
map_read f (x ∷ l) zero h = refl
map_read f (x ∷ l) (suc i) h = map_read f l i (omega arith)

-- one answer more
pub one_put : (f : ℕ → ℕ) (asked first : List ℕ) {i x : ℕ} {cells : List ℕ} → i < length asked → cells ≡ put first 0 i (map f asked) →
    x ≡ f (get_or asked i 0) → set cells i x ≡ put first 0 (i + 1) (map f asked)
one_put f asked first {i = i} {x = x} h q e =
    let k : i < length (map f asked) = simp length-map h in
    rw q (rw (zero-add i) at (put_next first 0 (map f asked) i x k (e ∙ sym (map_read f asked i h))))

-- one number alone is told as what the function gives of it
pub one_told : (f : ℕ → ℕ) (n : ℕ) {cells : List ℕ} → cells ≡ put (0 ∷ []) 0 1 (map f (n ∷ [])) → get_or cells 0 0 ≡ f n
unfolding put
one_told f n e = rw e
