-- The stores of an area, and those of a service.
use borrow.Author.Rules.{rules}
use Rattle.handset_bytes.proofs.Writes.{area-put, service-put}
use Rattle.handset_bytes.proofs.node.write_entry.Goals as goal

pub returns-in-Area : goal.returns-in-Area
returns-in-Area c = area-put _ _ _ _ c.put_half.ensures c.in-Area.is

pub returns-in-Service : goal.returns-in-Service
returns-in-Service c =
    service-put _ _ _ _ _ _ _ _ c.put_half-in-Service.ensures c.put_half-in-Service-2.ensures c.write_limit.ensures c.in-Service.is
