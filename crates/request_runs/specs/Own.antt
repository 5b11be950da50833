-- What the runs of one number do, on the bytes of its store alone: the elements of other numbers are passed over.
use Rattle.std.specs.Prelude.{ℕ, ◌*◌, List, cond, eqb}
use Rattle.byte_parts.specs.Sizes.{block_size}
use Rattle.block_list.specs.declared.element.BlockListElement.{BlockListElement}
use Rattle.byte_parts.specs.Part.{part}
use Rattle.request_check.specs.declared.table.Row.{Row}
use Rattle.request_check.specs.Row.{row_in, number_in}
use Rattle.request_rules.specs.Rules.{element_by, end_by}
use Rattle.request_runs.specs.Runs.{Walked, good, runs_of, walk}
use Rattle.request_runs.specs.Staged.{at_index}

-- element of index i, with the write data d, on the store of the number n
abbrev pub own_element : List Row → List ℕ → ℕ → ℕ → BlockListElement → List ℕ → Walked (List ℕ)
own_element rows d n i e store =
    cond (eqb (number_in rows e) n)
    (at_index i (element_by (row_in rows e).attribute (row_in rows e).limit e.number e.mode (part d (block_size * i) 16) store))
    (good store)

-- the end of a run of m elements, of which e is the first, of index i
abbrev pub own_end : List Row → List ℕ → ℕ → ℕ → BlockListElement → ℕ → List ℕ → Walked (List ℕ)
own_end rows d n i e m store =
    cond (eqb (number_in rows e) n) (at_index i (end_by (row_in rows e).attribute (part d (block_size * i) (block_size * m)) store)) (good store)

-- the runs of the number n among those of a write
unfoldable pub own_runs : List Row → List ℕ → ℕ → List BlockListElement → List ℕ → Walked (List ℕ)
own_runs rows d n es store = walk (own_element rows d n) (own_end rows d n) 0 (runs_of (number_in rows) es) store
