-- Two passes, and what they say of the room. Assumes nothing.
use Rattle.std.proofs.Common.{Option}
use mathlib.Core.Path.{ap, ◌∙◌}
use Rattle.salvage_walk.specs.declared.Extent.{Extent}
use Rattle.salvage_text.specs.Text.{salvage_answer, landed_by, salvaged_text, reported_text}
use borrow.Author.Rules.{rules}
use Rattle.salvage_text.proofs.salvage.Goals as goal

pub returns : goal.returns
returns c =
    let a = c.args in
    let t = a.text.now in
    let e = c.passes.ensures in
    record {
      value = c.answer_of.ensures ∙ ap salvage_answer e.value;
      out_after = e.out_after ∙ ap (λ (x : Option Extent). landed_by x a.out.now (salvaged_text t)) e.value;
      report_after = e.report_after ∙ ap (λ (x : Option Extent). landed_by x a.report.now (reported_text t)) e.value;
    }
