-- Six numbers, one after the other.
use borrow.Author.Rules.{rules}
use Rattle.handset_bytes.proofs.Writes.{head_put}
use Rattle.handset_bytes.proofs.encoding.write_head.Goals as goal

pub returns : goal.returns
returns c =
    head_put c.args.card _ _ _ _ _ _ _ c.put_half.ensures c.put_half-2.ensures c.put_half-3.ensures c.put_half-4.ensures
    c.put_half-5.ensures c.flag.ensures c.put_half-6.ensures
