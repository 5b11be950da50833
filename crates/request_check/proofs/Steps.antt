-- One turn of the loop over the elements of a list.
use Rattle.std.proofs.Common.{Option, None, Result, Ok}
use mathlib.Core.Path.{◌≡◌, refl, sym, ◌∙◌}
use mathlib.Core.Bool.{Bool, true, false, cond}
use mathlib.Core.List.{List}
use Prim.Native.Nat.{ℕ, zero, suc, ◌+◌, ◌-◌, ◌/◌, ◌%◌, ◌<◌}
use native.Mathlib.Omega.{arith}
use native.Mathlib.Decide.{dec_lt}
use lib.Dec.{leb, ltb}
use lib.ListN.{length, get_or}
use Rattle.block_list.specs.declared.element.BlockListElement.{BlockListElement}
use Rattle.block_list.specs.declared.element.Unpacked.{Unpacked}
use Rattle.block_list.specs.Element.{element_of, unpack_at, elements_from}
use Rattle.block_list.proofs.Cases.{past}
use Rattle.block_list.proofs.ListsLaws.{unpacked_is, elements_short, elements_element}
use Rattle.request_check.specs.declared.table.Row.{Row}
use Rattle.request_check.specs.Check.{element_check, next_check, checked_from}
use Rattle.answers.specs.declared.status.Fault.{Fault}
use Rattle.block_list.specs.Unpacked.{unpacked_as}

-- an element's index and mode are those of its first byte
pub head_is_lem : (s : List ℕ) (at : ℕ) {e : BlockListElement} {next : ℕ} → unpack_at s at ≡ unpacked_as e next →
    (e.index ≡ get_or s at 0 % 16) × (e.mode ≡ get_or s at 0 / 16 % 8)
unfolding unpack_at
head_is_lem s at h = read (leb (length s) at) (ltb (get_or s at 0) 0x80) (ltb (length s) (at + 3)) (ltb (length s) (at + 2)) _ _ _ _ h
  where
    -- too few bytes are no element
    none : {A : Type 0} {e : BlockListElement} {next : ℕ} → None ≡ unpacked_as e next → A
    none g = let z : ◌≡◌ {A = ℕ} 0 1 = cc in absurd (omega arith)

    four : (number : ℕ) {e : BlockListElement} {n next : ℕ} → unpacked_as (element_of (get_or s at 0) number) n ≡ unpacked_as e next →
        (e.index ≡ get_or s at 0 % 16) × (e.mode ≡ get_or s at 0 / 16 % 8)
    four number g = rw (sym (unpacked_is g).0) (refl, refl)

    read : (a b c d : Bool) (x y p q : ℕ) {e : BlockListElement} {next : ℕ} →
        cond a None (cond b (cond c None (unpacked_as (element_of (get_or s at 0) x) p)) (cond d None (unpacked_as (element_of (get_or s at 0) y) q)))
        ≡ unpacked_as e next →
        (e.index ≡ get_or s at 0 % 16) × (e.mode ≡ get_or s at 0 / 16 % 8)
    read true b c d x y p q g = none g
    read false true true d x y p q g = none g
    read false true false d x y p q g = four x g
    read false false c true x y p q g = none g
    read false false c false x y p q g = four y g

-- an index has four bits
pub index_small : (s : List ℕ) (at : ℕ) {e : BlockListElement} {next : ℕ} → unpack_at s at ≡ unpacked_as e next → e.index < 16
index_small s at h = omega (arith, (head_is_lem s at h).0)

-- where an element stands, there is a byte
pub stands : (s : List ℕ) (at : ℕ) {e : BlockListElement} {next : ℕ} → unpack_at s at ≡ unpacked_as e next → at < length s
stands s at {e} {next} h = elim (dec_lt at (length s)) [
  | yes p ↦ p
  | no p ↦ let k : unpack_at s at ≡ None = past s at (omega arith) in let z : ◌≡◌ {A = ℕ} 0 1 = cc in absurd (omega arith)
]

module _ (rows : List Row) (write «open» : Bool) (i : ℕ) (s : List ℕ) (at : ℕ) where
  -- where no element is left, none fails
  pub none_left : (n : ℕ) → n ≡ zero → checked_from rows write «open» i (elements_from s n at) ≡ Ok tt
  unfolding checked_from elements_from
  none_left n h = rw h

  module _ {u : Option Unpacked} (told : u ≡ unpack_at s at) where
    -- nor where too few bytes are left for one
    pub cut_short : (n : ℕ) → zero < n → u ≡ None → checked_from rows write «open» i (elements_from s n at) ≡ Ok tt
    unfolding checked_from
    cut_short n h short = rw (elements_short s at n h (sym told ∙ short))

    module _ {n next : ℕ} {e : BlockListElement} (here : u ≡ unpacked_as e next) {c : Result Unit Fault} (checked : c ≡ element_check rows write «open» e) where
      -- an element is the first to be asked
      pub asked : {m : ℕ} → n ≡ suc m →
          checked_from rows write «open» i (elements_from s n at) ≡ next_check i c (checked_from rows write «open» (i + 1) (elements_from s m next))
      unfolding checked_from
      asked left = rw (elements_element s at left (sym told ∙ here), sym checked)

      -- one that passes leaves the answer to the rest
      pub passes : {m : ℕ} → n ≡ suc m → c ≡ Ok tt →
          checked_from rows write «open» i (elements_from s n at) ≡ checked_from rows write «open» (i + 1) (elements_from s m next)
      passes left k = asked left ∙ rw k
