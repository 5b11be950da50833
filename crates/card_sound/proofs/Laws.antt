-- What is known of a card that is sound.
use mathlib.Core.Path.{◌≡◌, refl}
use mathlib.Core.Bool.{Bool, true, false, cond}
use mathlib.Core.List.{List}
use Prim.Native.Nat.{ℕ, ◌≤◌, ◌<◌}
use native.Mathlib.Omega.{arith}
use lib.Dec.{eqb, ltb}
use lib.ListN.{length, get_or}
use lib.Seq.{drop-cons}
use borrow.Author.Tests.{eqb-false, ltb-false}
use Rattle.card_nodes.specs.declared.node.Node.{Node}
use Rattle.card_sound.specs.Sound.{sound_of}

-- an element is read alike, whatever a read past the end would give
pub same_read : {A : Type 0} (l : List A) (i : ℕ) (y z : A) → i < length l → get_or l i y ≡ get_or l i z
same_read l i y z h = cc (drop-cons l i y h, drop-cons l i z h)

-- a test that must fail for what follows to hold
pub passed : (b x : Bool) → cond b false x ≡ true → (b ≡ false) × (x ≡ true)
passed true x e = absurd (let z : ◌≡◌ {A = ℕ} 0 1 = cc in (omega arith))
passed false x e = (refl, e)

-- how many records are nodes
pub record Counted (count : ℕ) : Type 0 where
  pub some : 1 ≤ count
  pub most : count ≤ 64

-- a card that is sound has its root, and at most 64 nodes
pub sound_count : (nodes : List Node) (count used : ℕ) → sound_of nodes count used ≡ true → Counted count
unfolding sound_of
sound_count nodes count used e =
    let a = passed (eqb count 0) _ e in
    let n = eqb-false count 0 a.0 in
    record { some = omega arith; most = ltb-false 64 count (passed (ltb 64 count) _ a.1).0 }
