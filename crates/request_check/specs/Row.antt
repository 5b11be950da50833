-- What the codes of a request come to on a card.
use Rattle.std.specs.Prelude.{ℕ, min, List, ◌++◌, map, true, false, length, get_or, take, replicate, Option, Some, None}
use Rattle.block_list.specs.declared.element.BlockListElement.{BlockListElement}
use Rattle.service_code.specs.Code.{attribute_of, number_of}
use Rattle.card_nodes.specs.declared.node.Entry.{Entry}
use Rattle.card_nodes.specs.declared.node.Entry.TheVariants.{Area, Service}
use Rattle.card_nodes.specs.declared.node.Node.{Node}
use Rattle.card_nodes.specs.Node.{root_node}
use Rattle.card_nodes.specs.Find.{service_of}
use Rattle.request_check.specs.declared.table.Row.{Row}
use Rattle.request_check.specs.declared.table.Table.{Table}

-- what an element beyond the codes would read: no byte is its
abbrev pub no_row : Row
no_row = record { code = 0; attribute = None; found = false; start = 0; blocks = 0; limit = None }

-- a service's store and limit; no area is a service
abbrev pub row_by : ℕ → Entry → Row
row_by code (Area e) = record { code = code; attribute = attribute_of code; found = false; start = 0; blocks = 0; limit = None }
row_by code (Service s b l) = record { code = code; attribute = attribute_of code; found = true; start = s; blocks = b; limit = l }

abbrev pub row_at : List Node → ℕ → Option ℕ → Row
row_at ns code (Some i) = row_by code (get_or ns i root_node).entry
row_at ns code None = row_by code (Area 0)

-- the first service of that code, in tree order
unfoldable pub row_of : List Node → ℕ → Row
row_of ns code = row_at ns code (service_of ns code)

abbrev pub rows_of : List Node → List ℕ → List Row
rows_of ns codes = map (row_of ns) codes

unfoldable pub row_table : List Node → List ℕ → Table
row_table ns codes = record { rows = take 16 (rows_of ns codes ++ replicate 16 no_row); count = min (length codes) 16 }

abbrev pub row_at_index : List Row → ℕ → Row
row_at_index rows i = get_or rows i no_row

-- the row that an element names
abbrev pub row_in : List Row → BlockListElement → Row
row_in rows e = row_at_index rows e.index

-- the service number that an element names
abbrev pub number_in : List Row → BlockListElement → ℕ
number_in rows e = number_of (row_in rows e).code
