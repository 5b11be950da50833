-- `line::read_codes` meets its contract: the codes are those of field 1. Assumes nothing.
use borrow.Author.Rules.{rules}
use native.Mathlib.Omega.{arith}
use Rattle.inspect_fields.proofs.Lines.{codes-put}
use Rattle.inspect_fields.proofs.line.read_codes.Goals as goal

pub read_codes-requires : goal.read_codes-requires
read_codes-requires c = rw c.new.ensures c.requires.0

pub returns : goal.returns
returns c =
    let a = c.args in
    let e = c.read_codes.ensures in
    let w = codes-put a.line.now c.requires.1 a.codes.now c.requires.2 (rw c.new.ensures at e.value.0) (rw c.new.ensures at e.codes_after) in
    record { value = w.0; codes_after = w.1 }
