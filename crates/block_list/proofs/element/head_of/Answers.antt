-- `head_of` meets its contract: seven bits fit a byte whose top bit is clear.
use mathlib.Core.Path.{refl}
use native.Mathlib.Omega.{arith}
use borrow.Author.Rules.{rules}
use Rattle.block_list.proofs.element.head_of.Goals as goal

pub returns : goal.returns
returns c = (refl, omega arith)
