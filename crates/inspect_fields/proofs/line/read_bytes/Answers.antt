-- `line::read_bytes` meets its contract: the bytes are those of field 1. Assumes nothing.
use borrow.Author.Rules.{rules}
use native.Mathlib.Omega.{arith}
use Rattle.inspect_fields.proofs.Lines.{bytes-room}
use Rattle.inspect_fields.proofs.line.read_bytes.Goals as goal

pub put_field-requires : goal.put_field-requires
put_field-requires c =
    rw c.new.ensures (c.requires.0, omega (arith, bytes-room c.args.line.now c.requires.1, c.requires.2))

pub returns : goal.returns
returns c =
    let many = rw c.new.ensures at c.put_field.ensures.value in
    record { value = (omega (arith, many), omega (arith, many, bytes-room c.args.line.now c.requires.1)); bytes_after = rw c.new.ensures at c.put_field.ensures.bytes_after }
