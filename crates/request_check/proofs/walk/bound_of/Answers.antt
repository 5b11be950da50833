-- By how the check of block 0 ends.
use borrow.Author.Rules.{rules}
use Rattle.request_check.proofs.Bounds.{bound_all, bound_none}
use Rattle.request_check.proofs.walk.bound_of.Goals as goal

pub returns-in-Ok : goal.returns-in-Ok
returns-in-Ok c = bound_all _ _ _ _ c.row_check.ensures c.in-Ok.is

pub returns-in-Err : goal.returns-in-Err
returns-in-Err c = bound_none _ _ _ _ c.row_check.ensures c.in-Err.is
