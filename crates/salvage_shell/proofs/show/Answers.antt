-- `salvage_shell::show` meets its contract: what it lends is what is printed and what is told. Assumes nothing.
use native.Mathlib.Omega.{arith}
use borrow.Author.Rules.{rules}
use Rattle.salvage_shell.specs.Ran.{most_salvaged, salvage_prints, salvage_tells}
use Rattle.salvage_shell.proofs.Rooms.{lent, lent_most}
use Rattle.salvage_shell.proofs.show.Goals as goal

pub print-shown-requires : goal.print-shown-requires
print-shown-requires g c =
    let a = c.args in
    let p = c.requires in
    record {
      flow_value = (p.flow_value.0, p.flow_value.1, p.flow_value.2, lent_most a.image most_salvaged a.out.now p.image_in_bounds.0 (omega (arith, p.image_in_bounds)));
      image_value = lent a.image a.out.now (salvage_prints a.text.now) p.out_value.0;
    }

pub say-requires : goal.say-requires
say-requires g c =
    let a = c.args in
    lent a.report a.words.now (salvage_tells a.text.now) c.requires.out_value.1
