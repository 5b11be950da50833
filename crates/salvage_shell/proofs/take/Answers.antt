-- `salvage_shell::take` meets its contract: image and report stand in their buffers, or the text is refused. Assumes nothing.
use native.Mathlib.Omega.{arith}
use mathlib.Core.Path.{sym, ◌∙◌}
use borrow.Author.Rules.{rules}
use Rattle.salvage_shell.specs.Ran.{salvage_prints}
use Rattle.salvage_shell.proofs.Ends.{prints_none, take-refused, take_done}
use Rattle.salvage_shell.proofs.Runs.{none-wrote}
use Rattle.salvage_shell.proofs.take.Goals as goal

pub refuse-requires : goal.refuse-requires
refuse-requires g c =
    let a = c.args in
    let p = c.requires.text_len_bound in
    take-refused a.text.now a.out.now a.words.now p.0 p.1 p.2 _ (sym c.in-Err.is ∙ c.salvage.ensures.value)

pub show-requires : goal.show-requires
show-requires g c =
    let a = c.args in
    let p = c.requires.text_len_bound in
    let e = c.salvage.ensures in
    let k = c.salvage.auto in
    let d = take_done a.text.now a.out.now a.words.now p.0 p.1 p.2 _ _ c.salvage.new.out c.salvage.new.report (sym c.in-Ok.is ∙ e.value) e.out_after e.report_after in
    record {
      flow_value = c.requires.flow_value;
      image_in_bounds = (omega (arith, d.first, k.out), omega (arith, p.1, k.out), omega (arith, d.second, k.report));
      out_value = (d.image, d.report);
    }

pub returns-in-Err : goal.returns-in-Err
returns-in-Err g c =
    let a = c.args in
    let p = c.requires.text_len_bound in
    let t = a.text.now in
    let q = sym c.in-Err.is ∙ c.salvage.ensures.value in
    let e = take-refused t a.out.now a.words.now p.0 p.1 p.2 _ q in
    none-wrote a.flow c.closed.result (salvage_prints t) (prints_none t e) c.closed.ensures
