-- What `all` says of the bytes is what the definition says. Assumes nothing.
use Rattle.std.proofs.Common.{◌∙◌, rules, tests}
use mathlib.Core.Bool.{◌&&◌}
use lib.Dec.{leb}
use Rattle.std.proofs.lemmas.Iterator.{YieldsList-from_slice}
use Rattle.std.proofs.lemmas.Iterator.Search.{all_from_yields_List}
use Rattle.board_lanes.proofs.BlockLaws.{crew_all}
use Rattle.board_lanes.proofs.block.are_crew.Goals as goal

pub returns : goal.returns
returns c =
    all_from_yields_List (λ x. leb 0x20 x && leb x 0x7e) _ _ c.all.result c.all.ensures.ran (YieldsList-from_slice c.args.s.now cc) (λ x b q k. search (rules, tests))
    ∙ crew_all c.args.s.now
