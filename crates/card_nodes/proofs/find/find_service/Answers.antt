use Rattle.std.proofs.Common.{rules, ◌∙◌}
use Rattle.std.proofs.lemmas.Iterator.{YieldsList-from_slice}
use Rattle.std.proofs.lemmas.Iterator.Search.{position_from_yields_List}
use Rattle.card_nodes.specs.Find.{is_service_of}
use Rattle.card_nodes.proofs.Positions.{position_first}
use Rattle.card_nodes.proofs.find.find_service.Goals as goal

pub returns : goal.returns
returns c =
    position_from_yields_List (is_service_of c.args.code) _ _ c.position.result c.position.ensures.ran (YieldsList-from_slice _ c.iter.ensures.rest) (λ x b q k. search rules)
    ∙ position_first (is_service_of c.args.code) c.args.nodes.now
