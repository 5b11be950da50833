-- One walk of a list: how far its elements pass, by how many blocks each may name.
use Rattle.std.specs.Prelude.{ℕ, zero, suc, ◌+◌, ◌*◌, ◌%◌, ◌<◌, ◌≡◌, List, Bool, false, cond, eqb, leb, length, get_or, Result, Ok, Err}
use Rattle.block_list.specs.Element.{unpack_at, after_element, ends_after, elements_from}
use Rattle.request_check.specs.declared.table.Row.{Row}
use Rattle.request_check.specs.declared.walk.Stop.{Stop}
use Rattle.request_check.specs.declared.walk.Stop.TheVariants.{Over, Stopped}
use Rattle.request_check.specs.declared.walk.Walked.{Walked}
use Rattle.request_check.specs.Row.{row_at_index}
use Rattle.request_check.specs.Check.{row_check, element_check, next_check, checked_from}
use Rattle.answers.specs.declared.status.Failure.{Failure}
use Rattle.answers.specs.declared.status.Fault.{Fault}

-- so many after a check that passed, none after one that failed
abbrev pub if_passed : Result Unit Fault → ℕ → ℕ
if_passed (Ok tt) n = n
if_passed (Err f) n = 0

-- how many blocks an element of a mode may name by way of a row: all of its store, where block 0 would pass, or none
unfoldable pub bound_of : Row → Bool → Bool → ℕ → ℕ
bound_of w write «open» mode = if_passed (row_check w write «open» 0 mode) w.blocks

-- at sixteen times the mode plus the index: how many blocks an element of that mode and index may name
abbrev pub Bounds : List Row → Bool → Bool → List ℕ → Type 0
Bounds rows write «open» bounds = (mode index : ℕ) → index < 16 → get_or bounds (16 * mode + index) 0 ≡ bound_of (row_at_index rows index) write «open» mode

-- how far n elements from a place on pass, the first of them number i; mode and index are the first byte without its top bit
unfoldable pub walked_from : List ℕ → List ℕ → ℕ → ℕ → ℕ → Stop
walked_from bounds s zero i at = Over (eqb at (length s))
walked_from bounds s (suc n) i at =
    after_element (Over false)
    (λ e next. cond (leb (get_or bounds (get_or s at 0 % 128) 0) e.number) (Stopped i at) (walked_from bounds s n (i + 1) next))
    (unpack_at s at)

-- what is at fault with the element at a place, number i
unfoldable pub fault_at : List Row → Bool → Bool → ℕ → List ℕ → ℕ → Result Unit Failure
fault_at rows write «open» i s at = after_element (Ok tt) (λ e next. next_check i (element_check rows write «open» e) (Ok tt)) (unpack_at s at)

-- whether a list is n elements and nothing more, and how the check of those that are there ends
abbrev pub walked_of : List Row → Bool → Bool → List ℕ → ℕ → Walked
walked_of rows write «open» s n = record { ends = ends_after s n; checked = checked_from rows write «open» 0 (elements_from s n 0) }
