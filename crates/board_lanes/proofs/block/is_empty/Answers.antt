-- What `all` says of the bytes is what the definition says. Assumes nothing.
use Rattle.std.proofs.Common.{◌∙◌, eqb, rules, tests}
use Rattle.std.proofs.lemmas.Iterator.{YieldsList-from_slice}
use Rattle.std.proofs.lemmas.Iterator.Search.{all_from_yields_List}
use Rattle.board_lanes.proofs.BlockLaws.{empty_all}
use Rattle.board_lanes.proofs.block.is_empty.Goals as goal

pub returns : goal.returns
returns c =
    all_from_yields_List (λ x. eqb x 0) _ _ c.all.result c.all.ensures.ran (YieldsList-from_slice c.args.b.now cc) (λ x b q k. search (rules, tests))
    ∙ empty_all c.args.b.now
