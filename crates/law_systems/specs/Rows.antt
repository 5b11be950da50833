-- What the codes of a request come to on two cards that hold one system, its stores k blocks later on the first.
use Rattle.std.specs.Prelude.{ℕ, ◌+◌, List, ◌⊎◌, ◌≡◌, length}
use Rattle.request_check.specs.declared.table.Row.{Row}
use Rattle.request_check.specs.Row.{row_at_index}

-- Rows of one code: they differ only in where the store begins, k blocks later. A code that is no service's has a row without blocks, which
-- begins at 0 on both cards.
pub record RowAlike (k : ℕ) (w v : Row) : Type 0 where
  pub code_alike : w.code ≡ v.code
  pub attribute-alike : w.attribute ≡ v.attribute
  pub found_alike : w.found ≡ v.found
  pub blocks-alike : w.blocks ≡ v.blocks
  pub limit-alike : w.limit ≡ v.limit
  pub start_moved : (v.blocks ≡ 0) ⊎ (w.start ≡ k + v.start)

-- as many rows, each alike
pub record RowsAlike (k : ℕ) (ws vs : List Row) : Type 0 where
  pub as_many : length ws ≡ length vs
  pub row-alike : (j : ℕ) → RowAlike k (row_at_index ws j) (row_at_index vs j)
