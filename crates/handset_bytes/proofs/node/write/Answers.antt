-- The stores of a record.
use native.Mathlib.Omega.{arith}
use mathlib.Core.Path.{◌∙◌}
use lib.ListN.{length-set}
use borrow.Author.Rules.{rules}
use Rattle.handset_bytes.proofs.Writes.{node-put}
use Rattle.handset_bytes.proofs.node.write.Goals as goal

pub returns : goal.returns
returns c =
    node-put _ _ c.args.bytes.now _ _ _ _ c.kind.ensures c.put_half.ensures c.put_half-2.ensures c.write_entry.ensures
