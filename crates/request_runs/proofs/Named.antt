-- An element that is ready names a row, which stands at its index.
use mathlib.Core.Path.{◌≡◌, refl}
use mathlib.Core.Bool.{Bool, true, false}
use mathlib.Core.List.{List}
use Prim.Native.Nat.{ℕ, ◌<◌}
use native.Mathlib.Omega.{arith}
use lib.Dec.{leb}
use lib.ListN.{length, take, get_or, length-take, get_or-eq_default}
use borrow.Author.Tests.{leb-true, leb-false}
use Rattle.block_list.specs.declared.element.BlockListElement.{BlockListElement}
use Rattle.request_check.specs.declared.table.Row.{Row}
use Rattle.request_check.specs.declared.table.Table.{Table}
use Rattle.request_check.specs.Row.{no_row, row_in}
use Rattle.request_check.proofs.Rows.{within}
use Rattle.request_runs.specs.Ready.{Ready}

-- beyond the rows no block is an element's
ready_index : {rows : List Row} {long : ℕ} {e : BlockListElement} → Ready rows long e → e.index < length rows
ready_index {rows = rows} {e = e} r = by_length (leb (length rows) e.index) refl
  where
    by_length : (b : Bool) → leb (length rows) e.index ≡ b → e.index < length rows
    by_length true k =
        let none : row_in rows e ≡ no_row = get_or-eq_default rows no_row (leb-true (length rows) e.index k) in
        let no : e.number < 0 = rw none at r.block in
        absurd (omega arith)
    by_length false k = leb-false (length rows) e.index k

module _ (t : Table) {long : ℕ} {e : BlockListElement} (sixteen : length t.rows ≡ 16) (r : Ready (take t.count t.rows) long e) where
  counted : (e.index < t.count) × (e.index < 16)
  counted = let h = simp length-take at (ready_index r) in (omega arith, omega arith)

  pub ready_small : e.index < 16
  ready_small = counted.1

  pub ready_row : (z : Row) → get_or t.rows e.index z ≡ row_in (take t.count t.rows) e
  ready_row z = within t.rows t.count e.index z counted.0 (omega (arith, counted.1))
