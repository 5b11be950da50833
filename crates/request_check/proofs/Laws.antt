-- What callers cite: what is known once all elements passed.
use Rattle.std.proofs.Common.{Option, Some, None, Result, Ok, Err}
use mathlib.Core.Path.{◌≡◌, refl}
use mathlib.Core.Bool.{Bool, true, false, cond, not, ◌&&◌}
use mathlib.Core.List.{List, [], ◌∷◌}
use Prim.Native.Nat.{ℕ, ◌+◌, ◌<◌}
use native.Mathlib.Omega.{arith}
use lib.Dec.{leb}
use lib.ListN.{length}
use borrow.Author.Tests.{leb-false, not-false}
use Rattle.service_code.specs.declared.code.ServiceAttribute.{ServiceAttribute}
use Rattle.answers.specs.declared.status.Fault.{Fault}
use Rattle.answers.specs.declared.status.Fault.TheVariants.{ListIndex, AccessMode, NoService, KeyNeeded, ReadOnly, BlockNumber}
use Rattle.service_code.specs.Code.{requires_key, allows_write}
use Rattle.block_list.specs.declared.element.BlockListElement.{BlockListElement}
use Rattle.request_check.specs.declared.table.Row.{Row}
use Rattle.request_check.specs.Row.{row_in}
use Rattle.request_check.specs.Check.{mode_allowed, attribute_check, then_check, service_check, defined_check, row_check, element_check, next_check, checked_from}

-- each element passes its check
abbrev pub AllPass : List Row → Bool → Bool → List BlockListElement → Type 0
AllPass rows write «open» [] = Unit {0}
AllPass rows write «open» (e ∷ es) = (element_check rows write «open» e ≡ Ok tt) × AllPass rows write «open» es

-- where no element fails, each passes
pub all_pass : (rows : List Row) (write «open» : Bool) (i : ℕ) (es : List BlockListElement) →
    checked_from rows write «open» i es ≡ Ok tt → AllPass rows write «open» es
unfolding checked_from
all_pass rows write «open» i [] h = tt
all_pass rows write «open» i (e ∷ es) h =
    each (element_check rows write «open» e) refl (all_pass rows write «open» (i + 1) es) h
  where
    -- by how the first one ends
    each : (c : Result Unit Fault) → element_check rows write «open» e ≡ c →
        (checked_from rows write «open» (i + 1) es ≡ Ok tt → AllPass rows write «open» es) →
        next_check i c (checked_from rows write «open» (i + 1) es) ≡ Ok tt →
        (element_check rows write «open» e ≡ Ok tt) × AllPass rows write «open» es
    each (Ok tt) k rest h = (k, rest h)
    each (Err f) k rest h = absurd (let z : ◌≡◌ {A = ℕ} 0 1 = cc in (omega arith))

-- a failure is no pass
never : {A : Type 0} {f : Fault} → ◌≡◌ {A = Result Unit Fault} (Err f) (Ok tt) → A
never e = absurd (let z : ◌≡◌ {A = ℕ} 0 1 = cc in (omega arith))

-- a test that must not hold, did not
must_not : (f : Fault) (b : Bool) (more : Result Unit Fault) → cond b (Err f) more ≡ Ok tt → (b ≡ false) × (more ≡ Ok tt)
must_not f true more e = never e
must_not f false more e = (refl, e)

-- of two checks that pass, each does
both : (c more : Result Unit Fault) → then_check c more ≡ Ok tt → (c ≡ Ok tt) × (more ≡ Ok tt)
both (Ok tt) more e = (refl, e)
both (Err f) more e = never e

-- what is known of an element that passes: the row that it names is there, found, of a defined attribute, and holds its block
pub record Good (rows : List Row) (write : Bool) (e : BlockListElement) : Type 0 where
  pub known : e.index < length rows
  pub found : (row_in rows e).found ≡ true
  pub attribute : ServiceAttribute
  pub defined : (row_in rows e).attribute ≡ Some attribute
  pub number : e.number < (row_in rows e).blocks
  pub allowed : mode_allowed write e.mode ≡ true
  pub writable : write ≡ true → allows_write attribute ≡ true

-- what a write passes may be written
writes : (write : Bool) (a : ServiceAttribute) (mode : ℕ) → attribute_check write a mode ≡ Ok tt → write ≡ true → allows_write a ≡ true
unfolding attribute_check
writes true a mode e h = not-false (allows_write a) (must_not ReadOnly (not (allows_write a)) _ e).0
writes false a mode e h = absurd (let z : ◌≡◌ {A = ℕ} 0 1 = cc in (omega arith))

module _ (rows : List Row) (write «open» : Bool) (e : BlockListElement) where
  -- by the attribute of its row
  good_row : (d : Option ServiceAttribute) → e.index < length rows → mode_allowed write e.mode ≡ true → (row_in rows e).attribute ≡ d →
      defined_check (row_in rows e) write «open» e.number e.mode d ≡ Ok tt → Good rows write e
  unfolding service_check
  good_row None k m a h = never h
  good_row (Some attribute) k m a h =
      let w = row_in rows e in
      let f = must_not NoService (not w.found) _ h in
      let p = must_not KeyNeeded («open» && requires_key w.code) _ f.1 in
      let r = both (attribute_check write attribute e.mode) _ p.1 in
      let n = must_not BlockNumber (leb w.blocks e.number) (Ok tt) r.1 in
      record {
        known = k;
        found = not-false w.found f.0;
        attribute = attribute;
        defined = a;
        number = leb-false w.blocks e.number n.0;
        allowed = m;
        writable = writes write attribute e.mode r.0;
      }

  -- an element that passes
  pub good : element_check rows write «open» e ≡ Ok tt → Good rows write e
  unfolding element_check row_check
  good h =
      let i = must_not ListIndex (leb (length rows) e.index) _ h in
      let m = must_not AccessMode (not (mode_allowed write e.mode)) _ i.1 in
      good_row (row_in rows e).attribute (leb-false (length rows) e.index i.0) (not-false (mode_allowed write e.mode) m.0) refl m.1
