-- `card::list_check` meets its contract: the one check, or the other. Assumes nothing.
use borrow.Author.Rules.{rules}
use Rattle.inspect_answer.proofs.card.list_check.Goals as goal

pub returns-then-areas : goal.returns-then-areas
returns-then-areas c = rw c.if-areas.true c.area_list_well_formed.ensures

pub returns : goal.returns
returns c = rw c.if-areas.false c.service_list_well_formed.ensures
