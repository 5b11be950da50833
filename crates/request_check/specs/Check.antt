-- The checks of an element, in the order of RULES.md, "One element's check". Manual, sections 4.4.5 (read) and 4.4.6 (write).
use Rattle.std.specs.Prelude.{ℕ, ◌+◌, List, [], ◌∷◌, Bool, cond, not, ◌&&◌, eqb, ltb, leb, length, Option, Some, None, Result, Ok, Err}
use Rattle.service_code.specs.declared.code.ServiceAttribute.{ServiceAttribute}
use Rattle.block_list.specs.declared.element.BlockListElement.{BlockListElement}
use Rattle.answers.specs.declared.status.Fault.TheVariants.{ListIndex, AccessMode, Attribute, NoService, KeyNeeded, ReadOnly, NoCashback, BlockNumber}
use Rattle.service_code.specs.Code.{requires_key, allows_write, allows_cashback}
use Rattle.request_check.specs.declared.table.Row.{Row}
use Rattle.request_check.specs.Row.{row_in}
use Rattle.answers.specs.Failure.{failed_at}
use Rattle.answers.specs.declared.status.Failure.{Failure}
use Rattle.answers.specs.declared.status.Fault.{Fault}

-- mode 0; on a write 0 or 1
unfoldable pub mode_allowed : Bool → ℕ → Bool
mode_allowed write mode = cond write (ltb mode 2) (eqb mode 0)

-- on a write A5: read-only, then mode 1 without cashback
-- RULES 8.2
unfoldable pub attribute_check : Bool → ServiceAttribute → ℕ → Result Unit Fault
attribute_check write a mode =
    cond (write && not (allows_write a)) (Err ReadOnly)
    (cond (write && (eqb mode 1 && not (allows_cashback a))) (Err NoCashback)
    (Ok tt))

-- A5: the key, then those of the attribute
unfoldable pub access_check : ℕ → ServiceAttribute → Bool → Bool → ℕ → Result Unit Fault
access_check code a write «open» mode =
    cond («open» && requires_key code) (Err KeyNeeded)
    (attribute_check write a mode)

-- A8: a store of so many blocks has none of that number
abbrev pub block_check : ℕ → ℕ → Result Unit Fault
block_check blocks number =
    cond (leb blocks number) (Err BlockNumber)
    (Ok tt)

-- a check, then another if it passed
abbrev pub then_check : Result Unit Fault → Result Unit Fault → Result Unit Fault
then_check (Ok tt) more = more
then_check (Err f) more = Err f

-- A5 (key), on a write A5 (read-only, no cashback), A8
-- RULES 8.2
unfoldable pub service_check : Row → ServiceAttribute → Bool → Bool → ℕ → ℕ → Result Unit Fault
service_check w a write «open» number mode =
    cond («open» && requires_key w.code) (Err KeyNeeded)
    (then_check (attribute_check write a mode)
    (cond (leb w.blocks number) (Err BlockNumber)
    (Ok tt)))

-- A4, A6, then those of the service
abbrev pub defined_check : Row → Bool → Bool → ℕ → ℕ → Option ServiceAttribute → Result Unit Fault
defined_check w write «open» number mode None = Err Attribute
defined_check w write «open» number mode (Some a) =
    cond (not w.found) (Err NoService)
    (service_check w a write «open» number mode)

-- A7, then those by the row's attribute
-- RULES 8.2
unfoldable pub row_check : Row → Bool → Bool → ℕ → ℕ → Result Unit Fault
row_check w write «open» number mode =
    cond (not (mode_allowed write mode)) (Err AccessMode)
    (defined_check w write «open» number mode w.attribute)

-- A3: an index not below the count of codes names no row
abbrev pub named_check : ℕ → Row → Bool → Bool → BlockListElement → Result Unit Fault
named_check count w write «open» e =
    cond (leb count e.index) (Err ListIndex)
    (row_check w write «open» e.number e.mode)

-- one element: A3, A7, A4, A6, A5 (key), on a write A5 (read-only), A5 (no cashback), A8
-- RULES 8.2
unfoldable pub element_check : List Row → Bool → Bool → BlockListElement → Result Unit Fault
element_check rows write «open» e = named_check (length rows) (row_in rows e) write «open» e

-- the first that fails, number i, answers for all
abbrev pub next_check : ℕ → Result Unit Fault → Result Unit Failure → Result Unit Failure
next_check i (Ok tt) more = more
next_check i (Err f) more = failed_at i f

-- all elements, in order, the first of them number i
-- RULES 8.3
unfoldable pub checked_from : List Row → Bool → Bool → ℕ → List BlockListElement → Result Unit Failure
checked_from rows write «open» i [] = Ok tt
checked_from rows write «open» i (e ∷ es) = next_check i (element_check rows write «open» e) (checked_from rows write «open» (i + 1) es)
