-- Whether there is room for what is put, both ways. Assumes nothing.
use Rattle.std.proofs.Common.{Option, Some, None}
use Prim.Native.Nat.{ℕ, ◌+◌, ◌-◌, ◌≤◌, ◌<◌}
use native.Mathlib.Omega.{arith}
use native.Mathlib.Decide.{dec_lt}
use mathlib.Core.Path.{◌≡◌, refl, sym, ap, subst, ◌∙◌}
use mathlib.Core.Bool.{Bool, true, false, false≢true}
use mathlib.Core.List.{List}
use lib.ListN.{length, take, drop}
use lib.Seq.{take_all}
use borrow.Author.Tests.{lt-ltb, le-ltb}
use Rattle.byte_parts.specs.Part.{part, put}
use Rattle.byte_parts.proofs.Part.{part-put}
use Rattle.text_stream.specs.Stream.{Written}
use Rattle.salvage_rule.specs.declared.Fate.{Fate}
use Rattle.salvage_rule.specs.declared.Fate.TheVariants.{Kept, Parent, Number}
use Rattle.salvage_print.specs.Print.{gain_of, gain_by, spot_by, spotted}

-- there is none, or there is
pub spot_full : (room at n : ℕ) → room < at + n → None ≡ spot_by room at n
unfolding spot_by
spot_full room at n h = rw (lt-ltb room (at + n) h)

pub spot-at : (room at n : ℕ) → at + n ≤ room → Some (at + n) ≡ spot_by room at n
unfolding spot_by
spot-at room at n h = rw (le-ltb room (at + n) h)

is_full : Option ℕ → Bool
is_full None = true
is_full (Some x) = false

place : Option ℕ → ℕ
place None = 0
place (Some x) = x

at_no : (x : ℕ) → None ≡ Some x → ⊥
unfolding is_full
at_no x e = false≢true (sym (ap is_full e))

-- What an answer says of the room.
pub full_back : (room at n : ℕ) → None ≡ spot_by room at n → room < at + n
full_back room at n e =
    elim (dec_lt room (at + n)) [
      | yes h ↦ h
      | no h ↦ absurd (at_no (at + n) (e ∙ sym (spot-at room at n (omega (arith, h)))))
    ]

pub at_back : (room at n x : ℕ) → Some x ≡ spot_by room at n → (x ≡ at + n) × (at + n ≤ room)
unfolding place
at_back room at n x e =
    elim (dec_lt room (at + n)) [
      | yes h ↦ absurd (at_no x (spot_full room at n h ∙ sym e))
      | no h ↦
          let k : at + n ≤ room = omega (arith, h) in
          (ap place (e ∙ sym (spot-at room at n k)), k)
    ]

-- how many of a line's bytes stand in the image
pub gain_most : (f : Fate) (n : ℕ) → gain_by f n ≤ n
gain_most Kept n = omega arith
gain_most Parent n = omega arith
gain_most (Number m) n = omega arith

pub gain_take : (f : Fate) (t : List ℕ) → take (gain_by f (length t)) t ≡ gain_of f t
gain_take Kept t = take_all (length t) t (omega arith)
gain_take Parent t = refl
gain_take (Number m) t = refl

-- a part from 0 on, as the code lends it
pub gain_part : (f : Fate) (t : List ℕ) (n : ℕ) → n ≡ gain_by f (length t) → take (n - 0) (drop 0 t) ≡ gain_of f t
gain_part f t n e = let z : n - 0 ≡ gain_by f (length t) = omega arith in ap (λ (k : ℕ). take k t) z ∙ gain_take f t

pub front_part : (d d' t : List ℕ) (k : ℕ) → Written d 0 t k d' → k ≤ length d → take (k - 0) (drop 0 d') ≡ t
unfolding part
front_part d d' t k w h =
    let e : k - 0 ≡ length t = omega (arith, w.place) in
    let p : part (put d 0 (length t) t) 0 (length t) ≡ take (length t) t = part-put d 0 (length t) t (omega arith) (omega (arith, w.place)) in
    rw (w.bytes, e) (p ∙ take_all (length t) t (omega arith))

-- what is put, as the code has it and as it is meant
pub Put_as
    : (r : Option ℕ) (w : Bool) (d d' : List ℕ) (at : ℕ) (t g : List ℕ) → t ≡ g
    → (r ≡ spot_by (length d) at (length t)) × (d' ≡ spotted r w d at t)
    → (r ≡ spot_by (length d) at (length g)) × (d' ≡ spotted r w d at g)
Put_as r w d d' at t g e h =
    subst (λ (x : List ℕ). (r ≡ spot_by (length d) at (length x)) × (d' ≡ spotted r w d at x)) e h
