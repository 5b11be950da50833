-- What is put by way of the array is what stands in the source.
use Prim.Native.Nat.{ℕ, ◌≤◌}
use native.Mathlib.Omega.{arith}
use mathlib.Core.Path.{◌≡◌, refl, ◌∙◌}
use mathlib.Core.List.{List, [], ◌++◌, append-nil}
use lib.ListN.{length, take, length-drop}
use Rattle.byte_parts.specs.Part.{put, part}
use Rattle.byte_parts.proofs.Part.{length-put, part-put, put-take}
use Rattle.byte_block.proofs.copy_block.Goals as goal

-- the array keeps its length
long : {b : List ℕ} (z t : List ℕ) → b ≡ put z 0 16 t → length z ≡ 16 → length (b ++ []) ≡ 16
long z t e h = rw (append-nil, e) (length-put z 0 16 t ∙ h)

-- what it holds goes on
by_way : {b new : List ℕ} (z t d : List ℕ) (at : ℕ) → b ≡ put z 0 16 t → length z ≡ 16 → 16 ≤ length t → new ≡ put d at 16 (take 16 (b ++ [])) →
    new ≡ put d at 16 t
unfolding part
by_way z t d at e h k n =
    n ∙ rw (append-nil, e, part-put z 0 16 t (omega arith) k) (put-take d at 16 t)

pub slice_bounds-copy-end : goal.slice_bounds-copy-end
slice_bounds-copy-end c = omega (arith, long _ _ c.copy.ensures refl)

pub returns : goal.returns
returns c =
    by_way _ _ _ _ c.copy.ensures refl (simp length-drop (omega arith)) c.copy-2.ensures
