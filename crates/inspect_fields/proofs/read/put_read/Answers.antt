-- `read::put_read` meets its contract: the line's bytes, read as the one message or as the other. Assumes nothing.
use borrow.Author.Rules.{rules}
use native.Mathlib.Omega.{arith}
use lib.ListN.{replicate}
use Rattle.text_numbers.specs.Hex.{unhex}
use Rattle.inspect_fields.specs.Fields.{field_one}
use Rattle.inspect_fields.proofs.Lines.{front_put}
use Rattle.inspect_fields.proofs.read.put_read.Goals as goal

pub returns-then-list : goal.returns-then-list
returns-then-list c =
    let t = unhex (field_one c.args.line.now) in
    let e = front_put (replicate 16384 0) t (omega arith) c.read_bytes-n.ensures.value.0 c.read_bytes-n.ensures.bytes_after in
    rw c.if-list.true
    (record { written = rw e at c.put_listed.ensures.written; upper_bound = c.put_listed.ensures.upper_bound })

pub returns : goal.returns
returns c =
    let t = unhex (field_one c.args.line.now) in
    let e = front_put (replicate 16384 0) t (omega arith) c.read_bytes-n.ensures.value.0 c.read_bytes-n.ensures.bytes_after in
    rw c.if-list.false
    (record { written = rw e at c.put_informed.ensures.written; upper_bound = c.put_informed.ensures.upper_bound })
