-- The walk of a list, one element at a time; and that it says whether the list ends and which element fails first.
use Rattle.std.proofs.Common.{Option, Some, None, Result, Ok, Err}
use mathlib.Core.Path.{◌≡◌, refl, sym, subst, ◌∙◌}
use mathlib.Core.Bool.{Bool, true, false, cond, not}
use mathlib.Core.List.{List}
use Prim.Native.Nat.{ℕ, zero, suc, ◌+◌, ◌-◌, ◌*◌, ◌/◌, ◌%◌, ◌≤◌, ◌<◌}
use native.Mathlib.Omega.{arith}
use lib.Dec.{eqb, leb}
use lib.ListN.{length, get_or}
use borrow.Author.Tests.{le-leb, lt-leb}
use Rattle.answers.specs.declared.status.Fault.{Fault}
use Rattle.block_list.specs.declared.element.BlockListElement.{BlockListElement}
use Rattle.block_list.specs.declared.element.Unpacked.{Unpacked}
use Rattle.block_list.specs.Element.{unpack_at, after_element, ends_from, ends_after, elements_from}
use Rattle.block_list.proofs.ListsLaws.{ends_short, ends_element}
use Rattle.block_list.proofs.Turns.{none_left as no_end}
use Rattle.request_check.specs.declared.table.Row.{Row}
use Rattle.request_check.specs.declared.walk.Stop.{Stop}
use Rattle.request_check.specs.declared.walk.Stop.TheVariants.{Over, Stopped}
use Rattle.request_check.specs.declared.walk.Walked.{Walked}
use Rattle.request_check.specs.Row.{row_in}
use Rattle.request_check.specs.Check.{element_check, next_check, checked_from}
use Rattle.request_check.specs.Walk.{bound_of, Bounds, walked_from, fault_at, walked_of}
use Rattle.request_check.proofs.Bounds.{passed, passed_is, verdict}
use Rattle.request_check.proofs.Steps.{head_is_lem, index_small, none_left, cut_short, asked, passes}
use Rattle.answers.specs.Failure.{failed_at}
use Rattle.answers.specs.declared.status.Failure.{Failure}
use Rattle.block_list.specs.Unpacked.{unpacked_as}

module _ (bounds s : List ℕ) (i at : ℕ) where
  -- none is left
  pub walk-over : (n : ℕ) → n ≡ zero → walked_from bounds s n i at ≡ Over (eqb at (length s))
  unfolding walked_from
  walk-over n h = rw h

  module _ {u : Option Unpacked} (told : u ≡ unpack_at s at) where
    -- too few bytes are left for one
    pub walk_short : (n : ℕ) → zero < n → u ≡ None → walked_from bounds s n i at ≡ Over false
    unfolding walked_from
    walk_short n h short = let left : n ≡ suc (n - 1) = omega arith in rw (left, sym told ∙ short)

    module _ {next : ℕ} {e : BlockListElement} (here : u ≡ unpacked_as e next) where
      -- one that names a block that it may not
      pub walk_stops : (n : ℕ) → zero < n → get_or bounds (get_or s at 0 % 128) 0 ≤ e.number → walked_from bounds s n i at ≡ Stopped i at
      unfolding walked_from
      walk_stops n h k =
          let left : n ≡ suc (n - 1) = omega arith in
          rw (left, sym told ∙ here, le-leb (get_or bounds (get_or s at 0 % 128) 0) e.number k)

      -- one that names a block that it may
      pub walk_on_lem : {n m : ℕ} → n ≡ suc m → e.number < get_or bounds (get_or s at 0 % 128) 0 →
          walked_from bounds s n i at ≡ walked_from bounds s m (i + 1) next
      unfolding walked_from
      walk_on_lem left k = rw (left, sym told ∙ here, lt-leb (get_or bounds (get_or s at 0 % 128) 0) e.number k)

module _ (rows : List Row) (write «open» : Bool) (i : ℕ) (s : List ℕ) (at : ℕ) {u : Option Unpacked} (told : u ≡ unpack_at s at) where
  -- no element is at a place
  pub no_fault_lem : u ≡ None → (Ok tt) ≡ fault_at rows write «open» i s at
  unfolding fault_at
  no_fault_lem h = rw (sym told ∙ h)

  module _ {e : BlockListElement} {next : ℕ} (here : u ≡ unpacked_as e next) {c : Result Unit Fault} (checked : c ≡ element_check rows write «open» e) where
    -- one that fails
    pub fault_told : {f : Fault} → c ≡ Err f → failed_at i f ≡ fault_at rows write «open» i s at
    unfolding fault_at
    fault_told h = rw (sym told ∙ here, sym checked ∙ h)

    -- one that passes
    pub fault_none : c ≡ Ok tt → (Ok tt) ≡ fault_at rows write «open» i s at
    unfolding fault_at
    fault_none h = rw (sym told ∙ here, sym checked ∙ h)

-- behind a check that fails nothing is asked
failed-only : (i : ℕ) (c : Result Unit Fault) (more rest : Result Unit Failure) → passed c ≡ false → next_check i c more ≡ next_check i c rest
failed-only i (Ok tt) more rest h = absurd (let z : ◌≡◌ {A = ℕ} 0 1 = cc in omega arith)
failed-only i (Err f) more rest h = refl

module _ (rows : List Row) (write «open» : Bool) (bounds : List ℕ) (b : Bounds rows write «open» bounds) (s : List ℕ) where
  -- what a walk of n elements from a place on says of them
  abbrev Meets : Stop → ℕ → ℕ → ℕ → Type 0
  Meets (Over ends) n i at = (ends ≡ ends_from s n at) × (Ok tt ≡ checked_from rows write «open» i (elements_from s n at))
  Meets (Stopped j place) n i at = fault_at rows write «open» j s place ≡ checked_from rows write «open» i (elements_from s n at)

  module _ (n i at : ℕ) {e : BlockListElement} {next : ℕ} (here : unpack_at s at ≡ unpacked_as e next) where
    -- what the element may name, as the walk looks it up
    looked : get_or bounds (get_or s at 0 % 128) 0 ≡ bound_of (row_in rows e) write «open» e.mode
    looked =
        let h = head_is_lem s at here in
        let k : get_or s at 0 % 128 ≡ 16 * e.mode + e.index = omega (arith, h.0, h.1) in
        rw k (b e.mode e.index (index_small s at here))

    -- what is at fault with it is what its own check says
    fault_is_lem : fault_at rows write «open» i s at ≡ next_check i (element_check rows write «open» e) (Ok tt)
    unfolding fault_at
    fault_is_lem = rw here

    -- it names a block that it may not
    stops : leb (get_or bounds (get_or s at 0 % 128) 0) e.number ≡ true → Meets (Stopped i at) (suc n) i at
    stops h =
        let f : passed (element_check rows write «open» e) ≡ false = verdict rows write «open» e ∙ rw (sym looked, h) in
        fault_is_lem
        ∙ failed-only i (element_check rows write «open» e) (Ok tt) (checked_from rows write «open» (i + 1) (elements_from s n next)) f
        ∙ sym (asked rows write «open» i s at refl here refl refl)

    -- it names one that it may: what the walk says of the rest it says of all
    goes : leb (get_or bounds (get_or s at 0 % 128) 0) e.number ≡ false → (w : Stop) → Meets w n (i + 1) next → Meets w (suc n) i at
    goes h w m = by_stop w m
      where
        on : checked_from rows write «open» i (elements_from s (suc n) at) ≡ checked_from rows write «open» (i + 1) (elements_from s n next)
        on =
            passes rows write «open» i s at refl here refl refl
            (passed_is (element_check rows write «open» e) (verdict rows write «open» e ∙ rw (sym looked, h)))

        by_stop : (w : Stop) → Meets w n (i + 1) next → Meets w (suc n) i at
        by_stop (Over ends) m = (m.0 ∙ sym (ends_element s at refl here), m.1 ∙ sym on)
        by_stop (Stopped j place) m = m ∙ sym on

  -- by what stands at the place
  each : (n i at : ℕ) (u : Option Unpacked) → unpack_at s at ≡ u → ((next : ℕ) → Meets (walked_from bounds s n (i + 1) next) n (i + 1) next) →
      Meets (after_element (Over false)
      (λ e next. cond (leb (get_or bounds (get_or s at 0 % 128) 0) e.number) (Stopped i at) (walked_from bounds s n (i + 1) next)) u) (suc n) i at
  each n i at None k rest =
      (sym (ends_short s at (suc n) (omega arith) k), sym (cut_short rows write «open» i s at refl (suc n) (omega arith) k))
  each n i at (Some taken) k rest = by_bound (leb (get_or bounds (get_or s at 0 % 128) 0) taken.element.number) refl
    where
      by_bound : (x : Bool) → leb (get_or bounds (get_or s at 0 % 128) 0) taken.element.number ≡ x →
          Meets (cond x (Stopped i at) (walked_from bounds s n (i + 1) taken.next)) (suc n) i at
      by_bound true h = stops n i at k h
      by_bound false h = goes n i at k h (walked_from bounds s n (i + 1) taken.next) (rest taken.next)

  -- a walk says whether the elements end where the list does, and what is at fault with the first that fails
  pub meets : (n i at : ℕ) → Meets (walked_from bounds s n i at) n i at
  unfolding walked_from
  meets zero i at = (no_end s at, sym (none_left rows write «open» i s at zero refl))
  meets (suc n) i at = each n i at (unpack_at s at) refl (meets n (i + 1))

  -- of all of them
  pub over : (count : ℕ) {w : Stop} {ends : Bool} → w ≡ walked_from bounds s count 0 0 → w ≡ Over ends →
      (ends ≡ ends_after s count) × (Ok tt ≡ checked_from rows write «open» 0 (elements_from s count 0))
  unfolding ends_after
  over count told h = subst (λ (w : Stop). Meets w count 0 0) (sym told ∙ h) (meets count 0 0)

  pub stopped : (count : ℕ) {w : Stop} {index place : ℕ} → w ≡ walked_from bounds s count 0 0 → w ≡ Stopped index place →
      fault_at rows write «open» index s place ≡ checked_from rows write «open» 0 (elements_from s count 0)
  stopped count told h = subst (λ (w : Stop). Meets w count 0 0) (sym told ∙ h) (meets count 0 0)

-- what is told of all
pub told_of : (rows : List Row) (write «open» : Bool) (s : List ℕ) (count : ℕ) {ends : Bool} {k : Result Unit Failure} →
    ends ≡ ends_after s count → k ≡ checked_from rows write «open» 0 (elements_from s count 0) →
    ◌≡◌ {A = Walked} (record { ends = ends; checked = k }) (walked_of rows write «open» s count)
told_of rows write «open» s count p q = λ j. record { ends = p j; checked = q j }
