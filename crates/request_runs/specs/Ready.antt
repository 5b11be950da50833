-- What the runs need of the elements, and what their result says of the stage.
use Rattle.std.specs.Prelude.{ℕ, ◌+◌, ◌*◌, ◌≤◌, ◌<◌, List, [], ◌∷◌, Result, Ok, Err}
use Rattle.byte_parts.specs.Sizes.{block_size}
use Rattle.block_list.specs.declared.element.BlockListElement.{BlockListElement}
use Rattle.request_check.specs.declared.table.Row.{Row}
use Rattle.request_check.specs.Row.{row_in}
use Rattle.request_runs.specs.Runs.{Walked, bad, good}
use Rattle.answers.specs.declared.status.Failure.{Failure}

-- the element's store lies in a stage of `size` bytes, and its block in the store
pub record Ready (rows : List Row) (size : ℕ) (e : BlockListElement) : Type 0 where
  pub stored : block_size * (row_in rows e).start + block_size * (row_in rows e).blocks ≤ size
  pub block : e.number < (row_in rows e).blocks

abbrev pub AllReady : List Row → ℕ → List BlockListElement → Type 0
AllReady rows size [] = Unit {0}
AllReady rows size (e ∷ es) = Ready rows size e × AllReady rows size es

-- a failure says nothing of the stage
abbrev pub walked_to : {S : Type 0} → Result Unit Failure → S → Walked S
walked_to (Ok tt) s = good s
walked_to (Err failure) s = bad failure.index failure.fault
