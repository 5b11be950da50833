-- `shell::passed` meets its contract, by whether the phase stops. Assumes nothing.
use mathlib.Core.Path.{ap, ◌∙◌}
use borrow.Author.Rules.{rules}
use Rattle.text_pull.specs.Pull.{took_of}
use Rattle.shell.proofs.passed.Goals as goal

pub returns : goal.returns
returns c =
    let a = c.args in
    c.took.ensures ∙ ap (took_of a.flow a.at) c.stops_in-stops.ensures
