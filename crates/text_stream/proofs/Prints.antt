-- Texts put one after the other, and what the end of a text prints. Assumes nothing.
use Prim.Native.Nat.{ℕ, ◌+◌, ◌≤◌}
use native.Mathlib.Omega.{arith}
use native.Mathlib.Nat.{add-zero}
use mathlib.Core.Path.{◌≡◌, refl, sym, ◌∙◌}
use mathlib.Core.List.{List, [], ◌∷◌, ◌++◌}
use lib.ListN.{length, set, length-append}
use Rattle.byte_parts.proofs.Part.{put_zero}
use Rattle.byte_parts.proofs.Put.{put_snoc, put-append}
use borrow.Author.Tests.{ne_eqb}
use Rattle.text_stream.specs.Stream.{Machine, between, ended, Written}

-- Nothing yet.
pub written_none : (d : List ℕ) (at : ℕ) → Written d at [] at d
written_none d at = record { place = sym (add-zero at); bytes = sym (put_zero d at []) }

-- One text more.
pub written-more
    : {d s r : List ℕ} {at a b : ℕ} (t u : List ℕ) → Written d at t a s → Written s a u b r → Written d at (t ++ u) b r
written-more {d} {at = at} t u w v = record {
  place = omega (arith, length-append t u, w.place, v.place);
  bytes = v.bytes ∙ rw (w.bytes, w.place) (put-append d at t u);
}

-- One byte more.
pub written_byte : {d s : List ℕ} {at a : ℕ} (t : List ℕ) (x : ℕ) → Written d at t a s → Written d at (t ++ (x ∷ [])) (a + 1) (set s a x)
written_byte {d} {at = at} t x w = record {
  place = omega (arith, length-append t (x ∷ []), w.place);
  bytes = rw (w.bytes, w.place) (put_snoc d at t x);
}

-- The end of a text prints what the machine's end prints, where no line is at hand.
pub ended-none : {S : Type 0} (M : Machine S) (s : S) → ended M (between s) ≡ M.end s
unfolding ended
ended-none M s = refl

-- A line at hand is one more line.
pub ended_Some
    : {S : Type 0} (M : Machine S) (s : S) (l : List ℕ) → 1 ≤ length l
    → ended M (record { state = s; kept = l }) ≡ M.text s l ++ M.end (M.line s l)
unfolding ended
ended_Some M s l h = rw (ne_eqb (length l) 0 (λ e. omega arith))
