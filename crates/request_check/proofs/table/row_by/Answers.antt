-- The row of an area, and that of a service.
use borrow.Author.Rules.{rules}
use Rattle.request_check.proofs.table.row_by.Goals as goal

pub returns-in-Area : goal.returns-in-Area
returns-in-Area c = search (c.attribute-attribute.ensures, c.in-Area.is)

pub returns-in-Service : goal.returns-in-Service
returns-in-Service c = search (c.attribute-attribute.ensures, c.in-Service.is)
