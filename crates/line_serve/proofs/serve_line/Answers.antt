-- `line_serve::serve_line` meets its contract, by what the line asks. Assumes nothing.
use Rattle.std.proofs.Common.{Some}
use mathlib.Core.Path.{sym, ap, ◌∙◌}
use lib.ListN.{length}
use Rattle.line_request.specs.declared.Ask.{Ask}
use Rattle.line_serve.proofs.Lines.{malformed, read_kept, malformed_outcome, read_outcome, write_outcome}
use Rattle.line_serve.proofs.serve_line.Goals as goal

pub read_asked-reply-requires : goal.read_asked-reply-requires
read_asked-reply-requires c =
    (sym c.ask_of.ensures ∙ c.in-Some-Read.is ∙ ap (λ (k : Ask). Some k) c.in-Some-Read.field-0-is, c.requires)

pub write_asked-reply-requires : goal.write_asked-reply-requires
write_asked-reply-requires c =
    (sym c.ask_of.ensures ∙ c.in-Some-Write.is ∙ ap (λ (k : Ask). Some k) c.in-Some-Write.field-0-is, c.requires)

pub returns-in-None : goal.returns-in-None
returns-in-None c =
    let a = c.args in
    let e = rw c.new-fields.ensures at (sym c.ask_of.ensures ∙ c.in-None.is) in
    let m = malformed a.card a.arena.now a.work.now a.line.now a.bytes.now e in
    record { value = malformed_outcome a.card a.arena.now a.line.now (length a.work.now) e; arena_after = m.1.0; work_after = m.1.1.0; bytes_after = m.1.1.1 }

pub returns-in-Some-Read : goal.returns-in-Some-Read
returns-in-Some-Read c =
    let a = c.args in
    let z = c.well_formed.0.1.1.0.1.0.1 in
    let l = c.new-fields.ensures in
    let o = c.read_asked-reply.ensures in
    let e = rw l at (sym c.ask_of.ensures ∙ c.in-Some-Read.is ∙ ap (λ (k : Ask). Some k) c.in-Some-Read.field-0-is) in
    record {
      value = read_outcome a.card a.arena.now a.line.now (length a.work.now) z e (rw l at o.value) c.length_read.ensures;
      arena_after = read_kept a.card a.arena.now a.work.now a.line.now z e;
      work_after = rw l at o.work_after;
      bytes_after = rw l at o.bytes_after;
    }

pub returns-in-Some-Write : goal.returns-in-Some-Write
returns-in-Some-Write c =
    let a = c.args in
    let l = c.new-fields.ensures in
    let o = c.write_asked-reply.ensures in
    let e = rw l at (sym c.ask_of.ensures ∙ c.in-Some-Write.is ∙ ap (λ (k : Ask). Some k) c.in-Some-Write.field-0-is) in
    record {
      value = write_outcome a.card a.arena.now a.line.now (length a.work.now) e (rw l at o.value);
      arena_after = rw l at o.arena_after;
      work_after = rw l at o.work_after;
      bytes_after = rw l at o.bytes_after;
    }
