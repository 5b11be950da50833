-- The stores of a request's rows, copied from one list of bytes to another.
use Rattle.std.specs.Prelude.{ℕ, ◌+◌, ◌*◌, ◌≤◌, List, [], ◌∷◌, drop}
use Rattle.byte_parts.specs.Sizes.{block_size}
use Rattle.byte_parts.specs.Part.{put}
use Rattle.request_check.specs.declared.table.Row.{Row}
use Rattle.request_check.specs.Row.{row_at_index}

-- each row's store lies in a list of so many bytes
abbrev pub AllIn : List Row → ℕ → Type 0
AllIn rows size = (i : ℕ) → block_size * (row_at_index rows i).start + block_size * (row_at_index rows i).blocks ≤ size

-- each row's store goes to the same place of the other list
unfoldable pub stores_put : List ℕ → List ℕ → List Row → List ℕ
stores_put to from [] = to
stores_put to from (w ∷ rows) = stores_put (put to (block_size * w.start) (block_size * w.blocks) (drop (block_size * w.start) from)) from rows
