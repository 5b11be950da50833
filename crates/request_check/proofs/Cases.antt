-- What the checks of an element are in each of their cases.
use Rattle.std.proofs.Common.{Some, None, Result, Ok, Err}
use mathlib.Core.Path.{◌≡◌, refl, sym, ◌∙◌, ap}
use mathlib.Core.Bool.{Bool, true, false, cond, not, ◌&&◌}
use mathlib.Core.List.{List}
use Prim.Native.Nat.{ℕ, ◌≤◌, ◌<◌}
use native.Mathlib.Omega.{arith}
use lib.Dec.{eqb, leb}
use lib.ListN.{length, take, get_or, length-take}
use borrow.Author.Tests.{leb-true, leb-false, le-leb, lt-leb}
use Rattle.block_list.specs.declared.element.BlockListElement.{BlockListElement}
use Rattle.service_code.specs.declared.code.ServiceAttribute.{ServiceAttribute}
use Rattle.service_code.specs.Code.{requires_key, allows_write, allows_cashback}
use Rattle.answers.specs.declared.status.Fault.{Fault}
use Rattle.answers.specs.declared.status.Fault.TheVariants.{ListIndex, AccessMode, Attribute, NoService, KeyNeeded, ReadOnly, NoCashback}
use Rattle.request_check.specs.declared.table.Row.{Row}
use Rattle.request_check.specs.Row.{row_in}
use Rattle.request_check.proofs.Rows.{within}
use Rattle.request_check.specs.Check.{mode_allowed, attribute_check, access_check, block_check, then_check, service_check, defined_check, row_check, named_check, element_check}

-- what stands at an index below sixteen is checked as the row that the index names, or as none
pub named : (rows : List Row) (n : ℕ) (write «open» : Bool) (e : BlockListElement) (z : Row) → length rows ≡ 16 → e.index < 16 →
    named_check n (get_or rows e.index z) write «open» e ≡ element_check (take n rows) write «open» e
unfolding element_check
named rows n write «open» e z l h = by_count (leb n e.index) refl
  where
    by_count : (b : Bool) → leb n e.index ≡ b →
        cond b (Err ListIndex) (row_check (get_or rows e.index z) write «open» e.number e.mode)
        ≡ cond (leb (length (take n rows)) e.index) (Err ListIndex)
        (row_check (row_in (take n rows) e) write «open» e.number e.mode)
    by_count true k =
        let c : length (take n rows) ≤ e.index = simp length-take (omega (arith, leb-true n e.index k)) in
        rw (le-leb (length (take n rows)) e.index c)
    by_count false k =
        let below = leb-false n e.index k in
        let c : e.index < length (take n rows) = simp length-take (omega arith) in
        rw (lt-leb (length (take n rows)) e.index c, within rows n e.index z below (omega arith))

module _ (a : ServiceAttribute) (mode : ℕ) where
  -- a write to a read-only service
  pub no_write : allows_write a ≡ false → Err ReadOnly ≡ attribute_check true a mode
  unfolding attribute_check
  no_write h = rw h

  module _ (p : allows_write a ≡ true) where
    -- a write in mode 1 without cashback
    pub no_return : (eqb mode 1 && not (allows_cashback a)) ≡ true → Err NoCashback ≡ attribute_check true a mode
    unfolding attribute_check
    no_return h = rw (p, h)

    -- any other
    pub may_write : (eqb mode 1 && not (allows_cashback a)) ≡ false → (Ok tt) ≡ attribute_check true a mode
    unfolding attribute_check
    may_write h = rw (p, h)

  module _ (write : Bool) where
    -- a read may do anything
    pub may_read : write ≡ false → (Ok tt) ≡ attribute_check write a mode
    unfolding attribute_check
    may_read h = rw h

    -- a write is checked as one
    pub of_write : {c : Result Unit Fault} → write ≡ true → c ≡ attribute_check true a mode → c ≡ attribute_check write a mode
    of_write h e = rw h e

module _ (code : ℕ) (a : ServiceAttribute) (write «open» : Bool) (mode : ℕ) where
  -- a key is needed
  pub no_key : («open» && requires_key code) ≡ true → Err KeyNeeded ≡ access_check code a write «open» mode
  unfolding access_check
  no_key h = rw h

  -- none is
  pub of_attribute : {c : Result Unit Fault} → («open» && requires_key code) ≡ false → c ≡ attribute_check write a mode → c ≡ access_check code a write «open» mode
  unfolding access_check
  of_attribute h e = rw h e

module _ (w : Row) (a : ServiceAttribute) (write «open» : Bool) (number mode : ℕ) where
  -- what the service lets a request do, then its block
  pub service_is : then_check (access_check w.code a write «open» mode) (block_check w.blocks number) ≡ service_check w a write «open» number mode
  unfolding service_check access_check
  service_is = by_key («open» && requires_key w.code) (attribute_check write a mode) (block_check w.blocks number)
    where
      by_key : (b : Bool) (c more : Result Unit Fault) → then_check (cond b (Err KeyNeeded) c) more ≡ cond b (Err KeyNeeded) (then_check c more)
      by_key true c more = refl
      by_key false c more = refl

  module _ {c : Result Unit Fault} (told : c ≡ access_check w.code a write «open» mode) where
    -- a request that the service does not let through
    pub no_access : {f : Fault} → c ≡ Err f → Err f ≡ service_check w a write «open» number mode
    no_access h = ap (λ (x : Result Unit Fault). then_check x (block_check w.blocks number)) (sym h ∙ told) ∙ service_is

    -- of one that it does, the block is checked
    pub of_block : {k : Result Unit Fault} → c ≡ Ok tt → k ≡ block_check w.blocks number → k ≡ service_check w a write «open» number mode
    of_block h e = e ∙ ap (λ (x : Result Unit Fault). then_check x (block_check w.blocks number)) (sym h ∙ told) ∙ service_is

module _ (w : Row) (write «open» : Bool) (number mode : ℕ) where
  -- an undefined attribute
  pub no_attribute : w.attribute ≡ None → Err Attribute ≡ defined_check w write «open» number mode w.attribute
  no_attribute h = rw h

  module _ {a : ServiceAttribute} (d : w.attribute ≡ Some a) where
    -- no such service
    pub no_service : w.found ≡ false → Err NoService ≡ defined_check w write «open» number mode w.attribute
    no_service h = rw (d, h)

    -- the rest is the service's
    pub of_service : {c : Result Unit Fault} → w.found ≡ true → c ≡ service_check w a write «open» number mode → c ≡ defined_check w write «open» number mode w.attribute
    unfolding service_check
    of_service f e = rw (d, f) e

  -- a mode that the request may not use
  pub no_mode : mode_allowed write mode ≡ false → Err AccessMode ≡ row_check w write «open» number mode
  unfolding row_check
  no_mode h = rw h

  -- one that it may
  pub of_mode : {c : Result Unit Fault} → mode_allowed write mode ≡ true → c ≡ defined_check w write «open» number mode w.attribute →
      c ≡ row_check w write «open» number mode
  unfolding row_check
  of_mode m e = rw m e
