-- Whether there is room for image and report, and what a walk has written. Assumes nothing.
use Rattle.std.proofs.Common.{None}
use Prim.Native.Nat.{ℕ, ◌≤◌, ◌<◌}
use mathlib.Core.Path.{◌≡◌, refl, sym}
use mathlib.Core.Bool.{Bool, true, false, cond}
use mathlib.Core.List.{List}
use lib.Dec.{ltb}
use borrow.Author.Tests.{lt-ltb, le-ltb}
use Rattle.salvage_print.specs.Print.{put_if}
use Rattle.salvage_walk.specs.Walk.{extent_by, WroteIf}
use Rattle.salvage_walk.specs.Extent.{both_fit}

pub extent_first : (r1 r2 a b : ℕ) → r1 < a → None ≡ extent_by r1 r2 a b
unfolding extent_by
extent_first r1 r2 a b h = rw (lt-ltb r1 a h)

pub extent_second : (r1 r2 a b : ℕ) → r2 < b → None ≡ extent_by r1 r2 a b
unfolding extent_by
extent_second r1 r2 a b h = by_test_lem (ltb r1 a)
  where
    by_test_lem : (x : Bool) → None ≡ cond x None (cond (ltb r2 b) None (both_fit a b))
    by_test_lem true = refl
    by_test_lem false = rw (lt-ltb r2 b h)

pub extent_fit : (r1 r2 a b : ℕ) → a ≤ r1 → b ≤ r2 → both_fit a b ≡ extent_by r1 r2 a b
unfolding extent_by
extent_fit r1 r2 a b h g = rw (le-ltb r1 a h, le-ltb r2 b g)

-- nothing was written where a walk stops short without writing; all that is due where it ends
pub wrote_short
    : (w : Bool) (d e due : List ℕ) (at : ℕ) → (w ≡ false → e ≡ d) → WroteIf w None d at due e
wrote_short true d e due at q = tt
wrote_short false d e due at q = q refl

pub wrote_fit : (w : Bool) (d e : List ℕ) (at x y : ℕ) (t : List ℕ) → put_if w d at t ≡ e → WroteIf w (both_fit x y) d at t e
wrote_fit true d e at x y t q = sym q
wrote_fit false d e at x y t q = sym q
