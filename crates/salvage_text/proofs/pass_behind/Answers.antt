-- What stands first is put, then the walk goes on behind it. Assumes nothing.
use Rattle.std.proofs.Common.{Option, None}
use Prim.Native.Nat.{ℕ}
use native.Mathlib.Omega.{arith}
use mathlib.Core.Path.{◌≡◌, refl, sym, ap, ◌∙◌}
use mathlib.Core.List.{List, ◌++◌}
use lib.ListN.{length}
use Rattle.salvage_rule.specs.Salvage.{Between, fresh}
use Rattle.salvage_line.specs.Image.{Image, imaged}
use Rattle.salvage_print.specs.Print.{spotted}
use Rattle.salvage_print.proofs.Spots.{at_back}
use Rattle.salvage_walk.specs.Walk.{image_at, report_at}
use Rattle.salvage_text.proofs.Front.{wrote-behind, wrote_none, short_first, short_second, extent_behind}
use borrow.Author.Rules.{rules}
use Rattle.salvage_text.proofs.pass_behind.Goals as goal

pub returns-in_err-image : goal.returns-in_err-image
returns-in_err-image c =
    let a = c.args in
    let z : Between Image = fresh (imaged a.card a.arena.now) in
    let d : List ℕ = image_at a.text.now z a.from in
    let u : List ℕ = report_at a.text.now a.lines z a.from in
    let g : List ℕ = a.head.now in
    let h : List ℕ = a.words.now in (
      c.from_residual.ensures ∙ short_first (length a.out.now) (length a.report.now) g d (h ++ u) (sym c.in_err-image.was ∙ c.put.ensures.value),
      rw c.from_residual.ensures (
        wrote_none a.write c.put.result a.out.now c.put.new.dst (g ++ d) g c.put.ensures.dst_after,
        wrote_none a.write None a.report.now a.report.now (h ++ u) h refl,
      ),
    )

pub returns-in_err-said : goal.returns-in_err-said
returns-in_err-said c =
    let a = c.args in
    let z : Between Image = fresh (imaged a.card a.arena.now) in
    let d : List ℕ = image_at a.text.now z a.from in
    let u : List ℕ = report_at a.text.now a.lines z a.from in
    let g : List ℕ = a.head.now in
    let h : List ℕ = a.words.now in (
      c.from_residual-in_err-said.ensures ∙ short_second (length a.out.now) (length a.report.now) (g ++ d) h u (sym c.in_err-said.was ∙ c.put-2.ensures.value),
      rw c.from_residual-in_err-said.ensures (
        wrote_none a.write c.put.result a.out.now c.put.new.dst (g ++ d) g c.put.ensures.dst_after,
        wrote_none a.write c.put-2.result a.report.now c.put-2.new.dst (h ++ u) h c.put-2.ensures.dst_after,
      ),
    )

pub walk-requires : goal.walk-requires
walk-requires c =
    let a = c.args in
    let x = at_back (length a.out.now) 0 (length a.head.now) c.in_ok-image.image (sym c.in_ok-image.was ∙ c.put.ensures.value) in
    let y = at_back (length a.report.now) 0 (length a.words.now) c.in_ok-said.said (sym c.in_ok-said.was ∙ c.put-2.ensures.value) in
    (c.requires.0, c.requires.1, omega (arith, x.0, x.1, c.put.auto.dst), omega (arith, y.0, y.1, c.put-2.auto.dst))

pub returns : goal.returns
returns c =
    let a = c.args in
    let z : Between Image = fresh (imaged a.card a.arena.now) in
    let d : List ℕ = image_at a.text.now z a.from in
    let u : List ℕ = report_at a.text.now a.lines z a.from in
    let g : List ℕ = a.head.now in
    let h : List ℕ = a.words.now in
    let e = c.walk.ensures in
    let m = c.in_ok-image in
    let n = c.in_ok-said in
    let x = sym m.was ∙ c.put.ensures.value in
    let y = sym n.was ∙ c.put-2.ensures.value in (
      extent_behind (length a.out.now) (length a.report.now) (length c.put.new.dst) (length c.put-2.new.dst) m.image n.said c.walk.result g d h u
          c.put.auto.dst c.put-2.auto.dst x y e.value,
      (
        wrote-behind a.write c.walk.result a.out.now c.put.new.dst c.walk.new.out g d m.image x
            (c.put.ensures.dst_after ∙ ap (λ (r : Option ℕ). spotted r a.write a.out.now 0 g) m.was) e.wrote_if,
        wrote-behind a.write c.walk.result a.report.now c.put-2.new.dst c.walk.new.report h u n.said y
            (c.put-2.ensures.dst_after ∙ ap (λ (r : Option ℕ). spotted r a.write a.report.now 0 h) n.was) e.wrote_if_2,
      ),
    )
