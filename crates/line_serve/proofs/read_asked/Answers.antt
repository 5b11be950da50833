-- `line_serve::read_asked` meets its contract: codes and list are the line's. Assumes nothing.
use native.Mathlib.Omega.{arith}
use Rattle.line_request.proofs.Asking.{read_fields_lem}
use Rattle.line_serve.specs.Line.{codes_in}
use Rattle.line_serve.proofs.Lines.{list-room, read-line}
use Rattle.line_serve.proofs.Parts.{as_many}
use Rattle.line_serve.proofs.read_asked.Goals as goal

pub read_codes-n-requires : goal.read_codes-n-requires
read_codes-n-requires c = (read_fields_lem _ c.requires.0).codes

pub put_field-end-requires : goal.put_field-end-requires
put_field-end-requires c =
    let f = read_fields_lem _ c.requires.0 in
    (f.list, list-room f c.requires.1)

pub slice_bounds-read-end-2 : goal.slice_bounds-read-end-2
slice_bounds-read-end-2 c = omega (arith, list-room (read_fields_lem _ c.requires.0) c.requires.1)

pub returns-clause-value : goal.returns-clause-value
returns-clause-value c =
    let a = c.args in
    let n = c.read_codes-n in
    let p = c.put_field-end.ensures in
    (read-line a.card a.arena.now a.work.now a.fields.line.now n.result n.new.codes (as_many _ (codes_in a.fields.line.now) n.ensures.value.0 n.ensures.codes_after).1 c.requires.0 a.bytes.now (list-room (read_fields_lem _ c.requires.0) c.requires.1)
    p.value p.bytes_after c.read.ensures.0 c.read.ensures.1).0

pub returns-clause-work_after : goal.returns-clause-work_after
returns-clause-work_after c =
    let a = c.args in
    let n = c.read_codes-n in
    let p = c.put_field-end.ensures in
    (read-line a.card a.arena.now a.work.now a.fields.line.now n.result n.new.codes (as_many _ (codes_in a.fields.line.now) n.ensures.value.0 n.ensures.codes_after).1 c.requires.0 a.bytes.now (list-room (read_fields_lem _ c.requires.0) c.requires.1)
    p.value p.bytes_after c.read.ensures.0 c.read.ensures.1).1.0

pub returns-clause-bytes_after : goal.returns-clause-bytes_after
returns-clause-bytes_after c =
    let a = c.args in
    let n = c.read_codes-n in
    let p = c.put_field-end.ensures in
    (read-line a.card a.arena.now a.work.now a.fields.line.now n.result n.new.codes (as_many _ (codes_in a.fields.line.now) n.ensures.value.0 n.ensures.codes_after).1 c.requires.0 a.bytes.now (list-room (read_fields_lem _ c.requires.0) c.requires.1)
    p.value p.bytes_after c.read.ensures.0 c.read.ensures.1).1.1
