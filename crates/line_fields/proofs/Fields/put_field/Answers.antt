-- `line_fields::Fields::put_field` meets its contract: the bytes of a field are those that it spells. Assumes nothing.
use native.Mathlib.Omega.{arith}
use Rattle.text_numbers.proofs.HexLaws.{length-unhex}
use Rattle.line_fields.specs.Fields.{field_in}
use Rattle.line_fields.proofs.Spelled.{spelled}
use Rattle.line_fields.proofs.Fields.put_field.Goals as goal

pub put_bytes-requires : goal.put_bytes-requires
put_bytes-requires c =
    let f = field_in c.args.self.line.now c.args.k in
    rw c.field.ensures (c.requires.0, omega (arith, length-unhex f))

pub returns : goal.returns
returns c =
    let a = c.args in
    let h = spelled _ (field_in a.self.line.now a.k) a.bytes.now a.at c.field.ensures c.put_bytes.ensures.value c.put_bytes.ensures.out_after in
    record { value = h.0; bytes_after = h.1 }
