-- Where the pass that counts finds room, the one that writes does too. Assumes nothing.
use Prim.Native.Nat.{ℕ}
use mathlib.Core.Path.{sym, ◌∙◌}
use mathlib.Core.List.{List}
use lib.ListN.{length}
use Rattle.salvage_text.specs.Text.{salvaged_text, reported_text}
use Rattle.salvage_text.proofs.Front.{landed, landed_short, same_extent, same_fits}
use borrow.Author.Rules.{rules}
use Rattle.salvage_text.proofs.passes.Goals as goal

pub returns-in_err-pass : goal.returns-in_err-pass
returns-in_err-pass c =
    let a = c.args in
    let t = a.text.now in
    let e = c.pass.ensures in
    let h = c.in_err-pass.was in
    record {
      value = c.from_residual.ensures ∙ sym h ∙ e.0;
      out_after = rw (c.from_residual.ensures ∙ sym h) (landed_short c.pass.result a.out.now c.pass.new.out (salvaged_text t) h e.1.0);
      report_after = rw (c.from_residual.ensures ∙ sym h) (landed_short c.pass.result a.report.now c.pass.new.report (reported_text t) h e.1.1);
    }

pub returns : goal.returns
returns c =
    let a = c.args in
    let t = a.text.now in
    let o : List ℕ = a.out.now in
    let w : List ℕ = a.report.now in
    let e = c.pass.ensures in
    let o' : List ℕ = c.pass.new.out in
    let w' : List ℕ = c.pass.new.report in
    let h = c.in_ok-pass.was in
    let f = c.pass-2.ensures in
    let m = length (salvaged_text t) in
    let n = length (reported_text t) in
    let z = same_extent c.pass-2.result o o' w w' m n e.1.0 e.1.1 f.0 in
    let k = same_fits c.pass-2.result c.pass.result o o' w w' m n _ _ e.1.0 e.1.1 f.0 e.0 h in
    record {
      value = z;
      out_after = landed c.pass-2.result _ _ o o' c.pass-2.new.out (salvaged_text t) k e.1.0 f.1.0;
      report_after = landed c.pass-2.result _ _ w w' c.pass-2.new.report (reported_text t) k e.1.1 f.1.1;
    }
