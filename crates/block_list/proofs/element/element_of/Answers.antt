-- `element_of` meets its contract: the fields are those of the definition.
use mathlib.Core.Path.{refl}
use Rattle.block_list.proofs.element.element_of.Goals as goal

pub returns : goal.returns
returns c = refl
