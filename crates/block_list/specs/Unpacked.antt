-- What stands at a place of a list.
use Rattle.std.specs.Prelude.{ℕ, Option, Some}
use Rattle.block_list.specs.declared.element.BlockListElement.{BlockListElement}
use Rattle.block_list.specs.declared.element.Unpacked.{Unpacked}

-- an element, and the place past it
abbrev pub unpacked_as : BlockListElement → ℕ → Option Unpacked
unpacked_as e next = Some (record { element = e; next = next })
