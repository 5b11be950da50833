-- A service by its store, else the sum under the area, which stops at 65,535.
use mathlib.Core.Path.{refl}
use Prim.Native.Nat.{◌<◌}
use native.Mathlib.Omega.{arith}
use lib.ListN.{length}
use borrow.Author.Rules.{rules}
use Rattle.card_questions.proofs.TagLaws.{tag_inside}
use Rattle.card_questions.proofs.Found.{service-total, area-total, no_total}
use Rattle.card_questions.proofs.totals.total_in.Goals as goal
use Rattle.card_questions.proofs.totals.total_in.Goals.{In-Some}

-- the service is one of the nodes
inside : (c : In-Some) → c.in-Some.i < length c.args.blocks.now
inside c =
    let p = c.requires in
    let h = tag_inside _ _ c.service_at.ensures c.in-Some.is in
    omega (arith, h, p.1, p.3)

pub returns-in-Some : goal.returns-in-Some
returns-in-Some c ns t d s b =
    service-total ns _ t c.service_at.ensures c.in-Some.is b refl c.capped.ensures

pub returns-in_default-area_at : goal.returns-in_default-area_at
returns-in_default-area_at c ns t d s b =
    no_total ns _ t c.service_at.ensures c.in_default.is c.area_at.ensures c.in_default-area_at.is

pub total_at-sum-requires : goal.total_at-sum-requires
total_at-sum-requires c =
    let p = c.requires in
    let h = tag_inside _ _ c.area_at.ensures c.in-Some-area_at.is in
    omega (arith, h, p.0, p.1, p.2, p.3)

pub returns : goal.returns
returns c ns t d s b =
    let l = c.total_at-sum.ensures in
    area-total ns _ t c.service_at.ensures c.in_default.is c.area_at.ensures c.in-Some-area_at.is d s b l.next_value l.blocks_value c.capped-2.ensures

pub offset_bounds-blocks-i : goal.offset_bounds-blocks-i
offset_bounds-blocks-i c = omega (arith, inside c)

pub bounds-blocks-i : goal.bounds-blocks-i
bounds-blocks-i c = inside (goal.at.bounds-blocks-i c).In-Some
