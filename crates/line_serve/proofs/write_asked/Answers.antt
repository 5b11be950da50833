-- `line_serve::write_asked` meets its contract: codes, list and data are the line's. Assumes nothing.
use native.Mathlib.Omega.{arith}
use Rattle.line_request.proofs.Asking.{write_fields_lem}
use Rattle.line_serve.specs.Line.{codes_in}
use Rattle.line_serve.proofs.Lines.{list-room, data_room, write-line}
use Rattle.line_serve.proofs.Parts.{as_many}
use Rattle.line_serve.proofs.write_asked.Goals as goal

pub read_codes-n-requires : goal.read_codes-n-requires
read_codes-n-requires c = (write_fields_lem _ c.requires.0).0.codes

pub put_field-middle-requires : goal.put_field-middle-requires
put_field-middle-requires c =
    let f = write_fields_lem _ c.requires.0 in
    (f.0.list, list-room f.0 c.requires.1)

pub put_field-last-requires : goal.put_field-last-requires
put_field-last-requires c =
    let f = write_fields_lem _ c.requires.0 in
    (f.1, omega (arith, data_room f.0 c.requires.1))

pub slice_bounds-write-end-2 : goal.slice_bounds-write-end-2
slice_bounds-write-end-2 c = omega (arith, data_room (write_fields_lem _ c.requires.0).0 c.requires.1)

pub slice_bounds-write-end-3 : goal.slice_bounds-write-end-3
slice_bounds-write-end-3 c = omega (arith, data_room (write_fields_lem _ c.requires.0).0 c.requires.1)

pub returns : goal.returns
returns c =
    let a = c.args in
    let n = c.read_codes-n in
    let p = c.put_field-middle.ensures in
    let q = c.put_field-last.ensures in
    let o = c.write.ensures in
    let w = write-line a.card a.arena.now a.work.now a.fields.line.now n.result n.new.codes (as_many _ (codes_in a.fields.line.now) n.ensures.value.0 n.ensures.codes_after).1 c.requires.0 a.bytes.now (data_room (write_fields_lem _ c.requires.0).0 c.requires.1)
    p.value q.value p.bytes_after q.bytes_after o.0 o.1.0 o.1.1 in
    record { value = w.0; arena_after = w.1.0; work_after = w.1.1.0; bytes_after = w.1.1.1 }
