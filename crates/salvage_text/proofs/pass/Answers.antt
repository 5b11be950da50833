-- Line 1 is judged as the first, and the lines behind it or behind the added line are walked. Assumes nothing.
use Prim.Native.Nat.{◌-◌, ◌≤◌}
use native.Mathlib.Omega.{arith}
use mathlib.Core.Path.{◌≡◌, sym, ap, ◌∙◌}
use lib.ListN.{take, drop}
use Rattle.card_build.specs.declared.card.Card.{Card}
use Rattle.salvage_line.specs.Image.{Image, imaged, no_image}
use Rattle.salvage_text.proofs.Front.{zeroed, judged_done, judged_refused, first_some, turn_first, within-behind, image-first_as, words-first, image-all}
use borrow.Author.Rules.{rules}
use Rattle.salvage_text.proofs.pass.Goals as goal

pub slice_bounds-pass_behind-end : goal.slice_bounds-pass_behind-end
slice_bounds-pass_behind-end c =
    let t = c.args.text.now in
    let w = within-behind t c.find-end.result c.behind-n.result c.find-end.ensures.value c.find-end.ensures.within c.behind-n.ensures in
    omega (arith, w.1)

pub pass_behind-requires : goal.pass_behind-requires
pass_behind-requires c =
    let t = c.args.text.now in
    let o = first_some c.new-blank.result c.zero.new.s t c.find-end.result c.image_line-first.result c.image_line-first.ensures.value c.in-Ok.is in
    let w = within-behind t c.find-end.result c.behind-n.result c.find-end.ensures.value c.find-end.ensures.within c.behind-n.ensures in
    (w.1, omega (arith, o, w.0))

pub returns-in-Ok : goal.returns-in-Ok
returns-in-Ok c =
    let t = c.args.text.now in
    let z0 = c.zero.new.s in
    let start : imaged c.new-blank.result z0 ≡ no_image =
    ap (λ (d : Card). imaged d z0) c.new-blank.ensures
    ∙ ap (imaged no_image.card) (c.zero.ensures ∙ zeroed 65536 c.args.arena.now c.requires) in
    let v = c.image_line-first in
    let h = c.in-Ok.is in
    let o = first_some c.new-blank.result c.zero.new.s t c.find-end.result c.image_line-first.result c.image_line-first.ensures.value h in
    let u = turn_first t c.find-end.result c.behind-n.result c.find-end.ensures.value c.find-end.ensures.within c.behind-n.ensures (omega (arith, o, c.find-end.ensures.within)) in
    let q = judged_done c.new-blank.result z0 (take (c.find-end.result - 0) (drop 0 t)) start v.result v.new.arena v.ensures.value v.ensures.arena_after h in
    let z : Image = imaged v.result.card v.new.arena in
    rw (image-first_as t (c.find-end.result - 0) c.behind-n.result u z q, words-first t (c.find-end.result - 0) c.behind-n.result u z q) c.pass_behind.ensures

pub returns-in-Err : goal.returns-in-Err
returns-in-Err c =
    let t = c.args.text.now in
    let z0 = c.zero.new.s in
    let start : imaged c.new-blank.result z0 ≡ no_image =
    ap (λ (d : Card). imaged d z0) c.new-blank.ensures
    ∙ ap (imaged no_image.card) (c.zero.ensures ∙ zeroed 65536 c.args.arena.now c.requires) in
    let v = c.image_line-first in
    let q = judged_refused c.new-blank.result z0 (take (c.find-end.result - 0) (drop 0 t)) start v.result v.new.arena v.ensures.value v.ensures.arena_after _ c.in-Err.is in
    let z : Image = imaged c.new-blank.result v.new.arena in
    let e = image-all t c.find-end.result c.behind-n.result c.find-end.ensures.value c.find-end.ensures.within c.behind-n.ensures _ z q.1 q.0 in
    rw (e.0, e.1) c.pass_behind-in-Err.ensures
