-- A list of numbers is filled with another's, one by one from the first.
use mathlib.Core.Path.{◌≡◌, refl, sym, ◌∙◌, ap}
use mathlib.Core.List.{List, [], ◌∷◌, ◌++◌, append-nil}
use Prim.Native.Nat.{ℕ, suc, ◌+◌, ◌≤◌, ◌<◌}
use native.Mathlib.Nat.{zero-add}
use native.Mathlib.Numerals.{add-one}
use native.Mathlib.Omega.{arith}
use lib.ListN.{length, take, drop, get_or, set, drop_of_length-le}
use lib.Seq.{paste, paste-zero, paste-suc, take_all}

-- the first i are the source's, those after them as they were
pub record Filled (source first cells : List ℕ) (i : ℕ) : Type 0 where
  pub within : i ≤ length source
  pub fits : length source ≡ length first
  pub same : cells ≡ paste first 0 source i

module _ {source first : List ℕ} (e : length source ≡ length first) where
  -- none yet
  pub none_filled : Filled source first first 0
  none_filled = record { within = omega arith; fits = e; same = paste-zero first 0 source }

module _ {source first cells : List ℕ} {i : ℕ} (f : Filled source first cells i) where
  -- one more
  pub one_filled : {x : ℕ} → i < length source → x ≡ get_or source i 0 → Filled source first (set cells i x) (i + 1)
  one_filled h e = record {
    within = omega arith;
    fits = f.fits;
    same = rw (f.same, e, add-one) (ap (λ (k : ℕ). set (paste first 0 source i) k (get_or source i 0)) (sym (zero-add i)) ∙ paste-suc first 0 source i 0 (omega (arith, f.fits)) h);
  }

  -- all of them
  pub all-filled : length source ≤ i → cells ≡ source
  all-filled h =
      let k : length first ≤ 0 + i = omega (arith, f.fits) in
      f.same ∙ rw (drop_of_length-le first k, take_all i source h) (append-nil source)
