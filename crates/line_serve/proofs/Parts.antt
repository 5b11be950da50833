-- What stands at the front of a buffer after one or two puts. Assumes nothing.
use Prim.Native.Nat.{ℕ, ◌+◌, ◌-◌, ◌≤◌, min}
use native.Mathlib.Omega.{arith}
use native.Mathlib.Decide.{dec_lt}
use native.Mathlib.Nat.{sub-zero, zero-add}
use mathlib.Core.Path.{◌≡◌, refl, sym, ap, ◌∙◌}
use mathlib.Core.List.{List, ◌++◌, append_assoc}
use lib.ListN.{length, take, drop, length-append}
use lib.Seq.{take-length, take_all, take_at, drop_at}
use Rattle.byte_parts.specs.Part.{part, put}
use Rattle.byte_parts.proofs.Part.{part-put, put-split}
use Rattle.byte_parts.proofs.Put.{put-append}

-- What was put at the front is there.
pub front_put : (s t : List ℕ) → length t ≤ length s → take (length t) (put s 0 (length t) t) ≡ t
unfolding part
front_put s t h = part-put s 0 (length t) t (omega arith) (omega arith) ∙ take-length t

-- As many as there is room for are at the front.
pub as_many
    : (old t : List ℕ) {r : ℕ} {new : List ℕ} → r ≡ min (length old) (length t) → new ≡ put old 0 r t
    → (r ≤ length old) × (take r new ≡ take (length old) t)
unfolding part
as_many old t {r} {new} e p =
    let front : take r new ≡ take r t = rw p (part-put old 0 r t (omega arith) (omega arith)) in
    let same : take r t ≡ take (length old) t =
    elim (dec_lt (length old) (length t)) [
      | yes h ↦ let k : r ≡ length old = omega arith in rw k refl
      | no h ↦
          let k : r ≡ length t = omega arith in
          let g : length t ≤ length old = omega arith in
          rw (k, take-length t) (sym (take_all (length old) t g))
    ] in
    (omega arith, front ∙ same)

-- Two texts, one after the other.
module _ (s t u : List ℕ) (h : 0 + length t + length u ≤ length s) {end last : ℕ} {a b : List ℕ}
    (e : end ≡ 0 + length t) (f : last ≡ end + length u) (p : a ≡ put s 0 (length t) t) (q : b ≡ put a end (length u) u) where
  -- they are put as one
  pub both : b ≡ put s 0 (length (t ++ u)) (t ++ u)
  both = q ∙ rw (p, e) (put-append s 0 t u)

  -- then comes the rest
  split : b ≡ t ++ (u ++ drop (length (t ++ u)) s)
  split =
      let n = length-append t u in
      both ∙ put-split s 0 (length (t ++ u)) (t ++ u) (omega arith) (omega arith)
      ∙ rw (zero-add (length (t ++ u)), take-length (t ++ u)) (append_assoc t u (drop (length (t ++ u)) s))

  -- the first is at the front
  pub first : take (end - 0) (drop 0 b) ≡ t
  first = let k : length t ≡ end - 0 = omega arith in rw split (take_at t (u ++ drop (length (t ++ u)) s) (end - 0) k)

  -- the second comes after it
  pub second : take (last - end) (drop end b) ≡ u
  second =
      let k : length t ≡ end = omega arith in
      let m : length u ≡ last - end = omega arith in
      rw (split, drop_at t (u ++ drop (length (t ++ u)) s) end k) (take_at u (drop (length (t ++ u)) s) (last - end) m)
