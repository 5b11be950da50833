-- The rows of moved nodes are alike, and are checked alike. Assumes nothing.
use Rattle.std.proofs.Common.{Option, Some, None, Err}
use Prim.Native.Nat.{ℕ, zero, suc, ◌+◌}
use mathlib.Core.Path.{◌≡◌, refl, sym, ap, ◌∙◌}
use mathlib.Core.Bool.{Bool, cond, not}
use mathlib.Core.List.{List, [], ◌∷◌}
use mathlib.Core.Logic.{inl, inr}
use lib.ListN.{get_or, length-map}
use Rattle.block_list.specs.declared.element.BlockListElement.{BlockListElement}
use Rattle.card_nodes.specs.declared.node.Entry.{Entry}
use Rattle.card_nodes.specs.declared.node.Entry.TheVariants.{Area, Service}
use Rattle.card_nodes.specs.declared.node.Node.{Node}
use Rattle.card_nodes.specs.Node.{root_node}
use Rattle.card_nodes.specs.Find.{service_of}
use Rattle.card_nodes.proofs.Searches.{service_look}
use Rattle.request_check.specs.declared.table.Row.{Row}
use Rattle.request_check.specs.Row.{no_row, row_by, row_at, row_of, rows_of, row_at_index, row_in}
use Rattle.answers.specs.declared.status.Fault.TheVariants.{AccessMode}
use Rattle.request_check.specs.Check.{mode_allowed, defined_check, service_check, row_check, element_check, checked_from}
use Rattle.card_moved.specs.Moved.{moved_entry, moved}
use Rattle.law_systems.specs.Rows.{RowAlike, RowsAlike}
use Rattle.card_moved.proofs.Looks.{look_moved, node-moved}
use Rattle.service_code.specs.declared.code.ServiceAttribute.{ServiceAttribute}

module _ (k : ℕ) where
  -- a row without blocks, as those of unknown codes are, is alike to itself
  row_same : (v : Row) → v.blocks ≡ 0 → RowAlike k v v
  row_same v z = record {
    code_alike = refl;
    attribute-alike = refl;
    found_alike = refl;
    blocks-alike = refl;
    limit-alike = refl;
    start_moved = inl z;
  }

  -- moved nodes have rows alike
  row_moved : (ns : List Node) (code : ℕ) → RowAlike k (row_of (moved k ns) code) (row_of ns code)
  unfolding row_of
  row_moved ns code = rw (service_look code (moved k ns) ns (look_moved k ns)) (by_found (service_of ns code))
    where
      by_entry_lem : (e : Entry) → RowAlike k (row_by code (moved_entry k e)) (row_by code e)
      by_entry_lem (Area e) = row_same (row_by code (Area e)) refl
      by_entry_lem (Service s b l) = record {
        code_alike = refl;
        attribute-alike = refl;
        found_alike = refl;
        blocks-alike = refl;
        limit-alike = refl;
        start_moved = inr refl;
      }

      by_found : (f : Option ℕ) → RowAlike k (row_at (moved k ns) code f) (row_at ns code f)
      by_found (Some j) = rw (node-moved k ns j) (by_entry_lem (get_or ns j root_node).entry)
      by_found None = by_entry_lem (Area 0)

  -- so at each index; past the end no row is read
  each_moved : (ns : List Node) (codes : List ℕ) (j : ℕ) →
      RowAlike k (row_at_index (rows_of (moved k ns) codes) j) (row_at_index (rows_of ns codes) j)
  each_moved ns [] zero = row_same no_row refl
  each_moved ns [] (suc j) = row_same no_row refl
  each_moved ns (code ∷ codes) zero = row_moved ns code
  each_moved ns (code ∷ codes) (suc j) = each_moved ns codes j

  -- and all
  pub rows_moved : (ns : List Node) (codes : List ℕ) → RowsAlike k (rows_of (moved k ns) codes) (rows_of ns codes)
  rows_moved ns codes = record {
    as_many = length-map codes (row_of (moved k ns)) ∙ sym (length-map codes (row_of ns));
    row-alike = each_moved ns codes;
  }

  module _ (write «open» : Bool) where
    -- a row alike is checked alike
    row_check_lem : (w v : Row) (number mode : ℕ) → RowAlike k w v → row_check w write «open» number mode ≡ row_check v write «open» number mode
    unfolding row_check service_check
    row_check_lem w v number mode x =
        ap (cond (not (mode_allowed write mode)) (Err AccessMode))
        (ap (defined_check w write «open» number mode) x.attribute-alike ∙ by_decoded v.attribute)
      where
        by_decoded : (d : Option ServiceAttribute) → defined_check w write «open» number mode d ≡ defined_check v write «open» number mode d
        by_decoded None = refl
        by_decoded (Some a) = rw (x.found_alike, x.code_alike, x.blocks-alike)

    -- and so are all elements
    pub checked_alike : {ws vs : List Row} → RowsAlike k ws vs → (i : ℕ) (es : List BlockListElement) →
        checked_from ws write «open» i es ≡ checked_from vs write «open» i es
    unfolding checked_from element_check
    checked_alike x i [] = refl
    checked_alike {ws} {vs} x i (e ∷ es) =
        rw (x.as_many, row_check_lem (row_in ws e) (row_in vs e) e.number e.mode (x.row-alike e.index), checked_alike x (i + 1) es)
