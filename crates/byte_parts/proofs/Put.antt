-- Laws of `put` for what is written a byte or two at a time. Assumes nothing.
use Prim.Native.Nat.{ℕ, suc, ◌+◌, ◌<◌}
use native.Mathlib.Omega.{arith}
use native.Mathlib.Numerals.{add-one}
use mathlib.Core.Path.{◌≡◌, refl, sym, ◌∙◌}
use mathlib.Core.List.{List, [], ◌∷◌, ◌++◌, append-nil}
use lib.ListN.{length, get_or, set, take, length-append}
use lib.Seq.{append_snoc, take-append_seam, get_or-append_seam}
use Rattle.byte_parts.specs.Part.{put}
use Rattle.byte_parts.proofs.Part.{put_suc, put-take, put_zero}

-- One byte.
pub put_one : (d : List ℕ) (at x : ℕ) → set d at x ≡ put d at 1 (x ∷ [])
unfolding put
put_one d at x = refl

-- Two bytes.
pub put_two : (d : List ℕ) (at x y : ℕ) → set (set d at x) (at + 1) y ≡ put d at 2 (x ∷ y ∷ [])
unfolding put
put_two d at x y = rw (add-one at)

-- The first byte, then the others.
put_first : (d : List ℕ) (at n x : ℕ) (t : List ℕ) → put d at (suc n) (x ∷ t) ≡ put (set d at x) (at + 1) n t
unfolding put
put_first d at n x t = rw (add-one at)

module _ (d : List ℕ) (at : ℕ) (t : List ℕ) where
  -- One byte more.
  pub put_next : (n x : ℕ) → n < length t → x ≡ get_or t n 0 → set (put d at n t) (at + n) x ≡ put d at (n + 1) t
  put_next n x h e = rw e (sym (put_suc d at n t h))

  -- Two bytes more.
  pub put_pair_lem
      : (n x y : ℕ) → n + 1 < length t → x ≡ get_or t n 0 → y ≡ get_or t (n + 1) 0
      → put (put d at n t) (at + n) 2 (x ∷ y ∷ []) ≡ put d at (n + 2) t
  put_pair_lem n x y h e f =
      let k : at + n + 1 ≡ at + (n + 1) = omega arith in
      let m : n + 2 ≡ n + 1 + 1 = omega arith in
      sym (put_two (put d at n t) (at + n) x y)
      ∙ rw (put_next n x (omega arith) e, k, m) (put_next (n + 1) y h f)

-- One byte at the end of a text.
pub put_snoc
    : (d : List ℕ) (at : ℕ) (t : List ℕ) (x : ℕ)
    → set (put d at (length t) t) (at + length t) x ≡ put d at (length (t ++ (x ∷ []))) (t ++ (x ∷ []))
put_snoc d at t x =
    let u = t ++ (x ∷ []) in
    let n : length u ≡ length t + 1 = omega (arith, length-append t (x ∷ [])) in
    let e : put d at (length t) (take (length t) u) ≡ put d at (length t) u = put-take d at (length t) u in
    rw (rw (take-append_seam t (x ∷ [])) at e, n) (put_next d at u (length t) x (omega arith) (sym (get_or-append_seam t x [] 0)))

-- Two texts, one after the other.
pub put-append
    : (d : List ℕ) (at : ℕ) (t u : List ℕ)
    → put (put d at (length t) t) (at + length t) (length u) u ≡ put d at (length (t ++ u)) (t ++ u)
put-append d at t [] = rw (append-nil t) (put_zero (put d at (length t) t) (at + length t) [])
put-append d at t (x ∷ u) =
    let n : at + length (t ++ (x ∷ [])) ≡ at + length t + 1 = omega (arith, length-append t (x ∷ [])) in
    put_first (put d at (length t) t) (at + length t) (length u) x u
    ∙ rw (put_snoc d at t x, ← n) (rw (append_snoc t x u) at (put-append d at (t ++ (x ∷ [])) u))
