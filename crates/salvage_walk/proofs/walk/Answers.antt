-- What was due is what is done and what is left, line by line. Assumes nothing.
use Prim.Native.Nat.{ℕ, ◌+◌, ◌-◌}
use native.Mathlib.Omega.{arith}
use mathlib.Core.Path.{◌∙◌}
use mathlib.Core.List.{List}
use lib.ListN.{length}
use Rattle.salvage_rule.specs.Salvage.{Between, fresh}
use Rattle.salvage_line.specs.Image.{Image, imaged, held_of}
use Rattle.salvage_walk.specs.Walk.{image_at, report_at}
use Rattle.salvage_walk.proofs.Extents.{extent_fit, wrote_fit}
use Rattle.salvage_walk.proofs.Walking.{turn_at, at_line, finished}
use Rattle.salvage_walk.proofs.walk.Goals as goal

pub returns-in_err-kept : goal.returns-in_err-kept
returns-in_err-kept c =
    let a = c.args in
    let l = c.loop-at in
    let w = c.salvage_line-verdict in
    let n = c.behind-next.result in
    let z : Between Image = fresh (imaged a.card a.arena.now) in
    let t = turn_at a.text.now l.at c.find-end.result n c.loop-at-test.true c.find-end.ensures.value c.find-end.ensures.within c.behind-next.ensures in
    let on = at_line a.text.now l.at (c.find-end.result - l.at) (n - l.at) t.0 (omega (arith, t.1, t.2)) (omega (arith, t.1))
    (held_of l.built l.arena l.rules) (held_of w.result.card w.new.arena w.result.rules) w.result.fate w.ensures.fate_value w.ensures.rules_after
    a.write (image_at a.text.now z a.from) (report_at a.text.now a.lines z a.from) a.out.now a.report.now
    l.out l.report a.image a.said l.passed l.made l.told l.invariant.0 n (omega (arith, t.1)) in
    let k = c.keep in
    let h = on.no_image_lem k.result k.new.out c.in_err-kept.was k.ensures.value k.ensures.out_after in
    let e = c.from_residual.ensures in
    record { value = e ∙ h.0; wrote_if = rw e h.1.0; wrote_if_2 = rw e h.1.1 }

pub returns-in_err-noted : goal.returns-in_err-noted
returns-in_err-noted c =
    let a = c.args in
    let l = c.loop-at in
    let w = c.salvage_line-verdict in
    let n = c.behind-next.result in
    let z : Between Image = fresh (imaged a.card a.arena.now) in
    let t = turn_at a.text.now l.at c.find-end.result n c.loop-at-test.true c.find-end.ensures.value c.find-end.ensures.within c.behind-next.ensures in
    let on = at_line a.text.now l.at (c.find-end.result - l.at) (n - l.at) t.0 (omega (arith, t.1, t.2)) (omega (arith, t.1))
    (held_of l.built l.arena l.rules) (held_of w.result.card w.new.arena w.result.rules) w.result.fate w.ensures.fate_value w.ensures.rules_after
    a.write (image_at a.text.now z a.from) (report_at a.text.now a.lines z a.from) a.out.now a.report.now
    l.out l.report a.image a.said l.passed l.made l.told l.invariant.0 n (omega (arith, t.1)) in
    let k = c.keep in
    let m = c.tell in
    let h = on.no_report k.result m.result k.new.out m.new.report k.ensures.out_after c.in_err-noted.was m.ensures.value m.ensures.report_after in
    let e = c.from_residual-in_err-noted.ensures in
    record { value = e ∙ h.0; wrote_if = rw e h.1.0; wrote_if_2 = rw e h.1.1 }

pub loop-at-preserved : goal.loop-at-preserved
loop-at-preserved c =
    let a = c.args in
    let l = c.loop-at in
    let w = c.salvage_line-verdict in
    let n = c.behind-next.result in
    let z : Between Image = fresh (imaged a.card a.arena.now) in
    let t = turn_at a.text.now l.at c.find-end.result n c.loop-at-test.true c.find-end.ensures.value c.find-end.ensures.within c.behind-next.ensures in
    let on = at_line a.text.now l.at (c.find-end.result - l.at) (n - l.at) t.0 (omega (arith, t.1, t.2)) (omega (arith, t.1))
    (held_of l.built l.arena l.rules) (held_of w.result.card w.new.arena w.result.rules) w.result.fate w.ensures.fate_value w.ensures.rules_after
    a.write (image_at a.text.now z a.from) (report_at a.text.now a.lines z a.from) a.out.now a.report.now
    l.out l.report a.image a.said l.passed l.made l.told l.invariant.0 n (omega (arith, t.1)) in
    let k = c.keep in
    let m = c.tell in (
      on.on k.result m.result k.new.out m.new.report c.in_ok-kept.kept c.in_ok-noted.noted c.in_ok-kept.was k.ensures.value k.ensures.out_after c.in_ok-noted.was m.ensures.value m.ensures.report_after,
      w.auto.arena ∙ l.invariant.1,
    )

pub returns : goal.returns
returns c =
    let a = c.args in
    let l = c.loop-at in
    let i = l.invariant.0 in
    let z : Between Image = fresh (imaged a.card a.arena.now) in
    let d : List ℕ = image_at a.text.now z a.from in
    let u : List ℕ = report_at a.text.now a.lines z a.from in
    let e = finished a.text.now d u a.write a.out.now a.image a.report.now a.said (held_of l.built l.arena l.rules) l.out l.report l.at l.passed l.made l.told i c.loop-at-test.false in
    record {
      value =
          rw (e.0, e.1)
          (extent_fit (length a.out.now) (length a.report.now) (a.image + length d) (a.said + length u) (omega (arith, e.0, i.room, i.out_long)) (omega (arith, e.1, i.space, i.report-long)));
      wrote_if = wrote_fit a.write a.out.now l.out a.image l.made l.told d e.2;
      wrote_if_2 = wrote_fit a.write a.report.now l.report a.said l.made l.told u e.3;
    }
