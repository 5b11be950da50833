-- `salvage_shell::print` meets its contract: after the end a write is due. Assumes nothing.
use native.Mathlib.Omega.{arith}
use borrow.Author.Rules.{rules}
use Rattle.salvage_shell.specs.Ran.{salvage_prints}
use Rattle.salvage_shell.proofs.Runs.{words-wrote}
use Rattle.salvage_shell.proofs.print.Goals as goal

pub flush-requires : goal.flush-requires
flush-requires g c =
    let p = c.requires in
    rw c.closed.ensures (omega arith, omega (arith, p.flow_value.2, p.flow_value.3))

pub returns : goal.returns
returns g c =
    let a = c.args in
    words-wrote a.flow a.image.now (salvage_prints a.text.now) c.requires.image_value c.closed.ensures c.flush.ensures
