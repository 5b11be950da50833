-- By what was taken: no element, or one.
use Rattle.std.proofs.Common.{Option}
use mathlib.Core.Path.{sym, ap}
use borrow.Author.Rules.{rules}
use Rattle.block_list.specs.declared.element.Unpacked.{Unpacked}
use Rattle.block_list.specs.Read.{element_past}
use Rattle.block_list.proofs.reader.place_past.Goals as goal

pub returns-in-None : goal.returns-in-None
returns-in-None c = sym (ap (λ (u : Option Unpacked). element_past u c.args.at) c.in-None.is)

pub returns-in-Some : goal.returns-in-Some
returns-in-Some c = sym (ap (λ (u : Option Unpacked). element_past u c.args.at) c.in-Some.is)
