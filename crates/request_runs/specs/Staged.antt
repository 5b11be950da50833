-- What the elements, run by run, do to all the staged stores.
use Rattle.std.specs.Prelude.{ℕ, ◌-◌, ◌*◌, List}
use Rattle.byte_parts.specs.Sizes.{block_size}
use Rattle.block_list.specs.declared.element.BlockListElement.{BlockListElement}
use Rattle.byte_parts.specs.Part.{part}
use Rattle.answers.specs.Outcome.{Outcome, passed, failed}
use Rattle.request_check.specs.declared.table.Row.{Row}
use Rattle.request_check.specs.Row.{row_in, number_in}
use Rattle.request_rules.specs.Rules.{element_by, end_by, on_store}
use Rattle.request_runs.specs.Runs.{Walked, bad, good, runs_of, walk}

-- a fault is that of the element of index i
abbrev pub at_index : ℕ → Outcome → Walked (List ℕ)
at_index i (passed s) = good s
at_index i (failed f) = bad i f

-- an element of index i on the store of its row w, with the write data d
unfoldable pub carried_on : Row → List ℕ → ℕ → BlockListElement → List ℕ → Walked (List ℕ)
carried_on w d i e s = at_index i (on_store w (element_by w.attribute w.limit e.number e.mode (part d (block_size * i) 16)) s)

-- the end of the run of the elements i up to j, on the store of its row w
unfoldable pub closed_on : Row → List ℕ → ℕ → ℕ → List ℕ → Walked (List ℕ)
closed_on w d i j s = at_index i (on_store w (end_by w.attribute (part d (block_size * i) (block_size * (j - i)))) s)

-- element of index i, with the write data d
abbrev pub element_on : List Row → List ℕ → ℕ → BlockListElement → List ℕ → Walked (List ℕ)
element_on rows d i e s =
    at_index i
    (on_store (row_in rows e) (element_by (row_in rows e).attribute (row_in rows e).limit e.number e.mode (part d (block_size * i) 16)) s)

-- the end of a run of n elements, of which e is the first, of index i
abbrev pub end_on : List Row → List ℕ → ℕ → BlockListElement → ℕ → List ℕ → Walked (List ℕ)
end_on rows d i e n s = at_index i (on_store (row_in rows e) (end_by (row_in rows e).attribute (part d (block_size * i) (block_size * n))) s)

-- the runs of a write on the staged stores: longest stretches of consecutive elements of equal service number
-- RULES 9.3
unfoldable pub staged : List Row → List ℕ → List BlockListElement → List ℕ → Walked (List ℕ)
staged rows d es s = walk (element_on rows d) (end_on rows d) 0 (runs_of (number_in rows) es) s
