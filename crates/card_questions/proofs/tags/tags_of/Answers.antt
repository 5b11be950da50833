-- The tags before i are the nodes', those after it zero as they were.
use mathlib.Core.Path.{◌≡◌, sym, ◌∙◌}
use mathlib.Core.List.{map}
use Prim.Native.Nat.{◌-◌}
use native.Mathlib.Omega.{arith}
use lib.ListN.{length, length-map}
use borrow.Author.Rules.{rules}
use Rattle.card_questions.specs.Tags.{tag_of}
use Rattle.card_questions.proofs.Columns.{cells_read}
use Rattle.card_questions.proofs.Filled.{Filled, none_filled, one_filled, all-filled}
use Rattle.card_questions.proofs.tags.tags_of.Goals as goal

pub loop-i-init : goal.loop-i-init
loop-i-init c =
    let all : length c.args.nodes ≡ 64 = search rules in
    none_filled (omega (arith, all, length-map c.args.nodes tag_of))

pub loop-i-preserved : goal.loop-i-preserved
loop-i-preserved c =
    let a = c.args in
    let all : length a.nodes ≡ 64 = search rules in
    one_filled c.loop-i.invariant (omega (arith, all, length-map a.nodes tag_of))
    (c.tag_of.ensures ∙ sym (cells_read tag_of a.nodes c.loop-i.i _ (omega (arith, all))))

pub returns : goal.returns
returns c =
    let a = c.args in
    let all : length a.nodes ≡ 64 = search rules in
    all-filled c.loop-i.invariant (omega (arith, all, length-map a.nodes tag_of))
