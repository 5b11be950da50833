-- A request that fits: its table holds its rows, so its elements are checked against those.
use Rattle.std.proofs.Common.{Result}
use mathlib.Core.Path.{◌≡◌, sym, ◌∙◌}
use mathlib.Core.List.{List}
use Prim.Native.Nat.{ℕ}
use lib.ListN.{length, take}
use Rattle.card_build.specs.declared.card.Card.{Card}
use Rattle.card_build.specs.Card.{nodes_of}
use Rattle.request_check.specs.declared.table.Table.{Table}
use Rattle.request_check.specs.Row.{row_table}
use Rattle.request_check.proofs.Rows.{table_rows_lem}
use Rattle.request_check.specs.Check.{checked_from}
use Rattle.request_plan.specs.declared.Judged.TheVariants.{Fit}
use Rattle.request_plan.specs.Request.{Request}
use Rattle.request_plan.specs.Plan.{judged_of, rows_in, elements_in}
use Rattle.request_plan.proofs.Ready.{Fitting, fits}
use Rattle.answers.specs.declared.status.Failure.{Failure}

module _ (c : Card) (a : List ℕ) (r : Request) (j : judged_of c (length a) r ≡ Fit) where
  -- what fits
  pub fit : Fitting c (length a) r
  fit = fits c (length a) r j

  module _ {t : Table} (made : t ≡ row_table (nodes_of c) r.codes) where
    -- the table's rows are the request's
    pub rows : take t.count t.rows ≡ rows_in c r
    rows = table_rows_lem (nodes_of c) r.codes fit.codes made

    -- what the checks against the table come to is what those against the rows do
    pub checked : {k x : Result Unit Failure} → k ≡ checked_from (take t.count t.rows) r.write r.«open» 0 (elements_in r) → k ≡ x →
        checked_from (rows_in c r) r.write r.«open» 0 (elements_in r) ≡ x
    checked e h = sym (rw rows at e) ∙ h
