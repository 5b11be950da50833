-- `text_feed::feed` meets its contract: a place outside stays, one inside goes past what was found and copied. Assumes nothing.
use native.Mathlib.Omega.{arith}
use Rattle.text_feed.proofs.Laws.{out_of_chunk, out_of_line, past_lf, past_all}
use Rattle.text_feed.proofs.feed.Goals as goal

pub returns-then-chunk-p : goal.returns-then-chunk-p
returns-then-chunk-p c =
    let a = c.args in
    let h = out_of_chunk a.p a.chunk.now a.line.now (omega arith) in
    record { value = h.0; line_after = h.1 }

pub returns-then-line-p : goal.returns-then-line-p
returns-then-line-p c =
    let a = c.args in
    let h = out_of_line a.p a.chunk.now a.line.now (omega arith) (omega arith) in
    record { value = h.0; line_after = h.1 }

pub returns-then-end-chunk : goal.returns-then-end-chunk
returns-then-end-chunk c =
    let l = c.least-n in
    let a = c.args in
    let h = past_lf a.p a.chunk.now a.line.now (omega arith) (omega arith) c.find-end.result l.result _ c.find-end.ensures.value l.ensures c.copy.ensures (omega arith) in
    record { value = h.0; line_after = h.1 }

pub returns : goal.returns
returns c =
    let l = c.least-n in
    let a = c.args in
    let h = past_all a.p a.chunk.now a.line.now (omega arith) (omega arith) c.find-end.result l.result _ c.find-end.ensures.value l.ensures c.copy.ensures (omega arith) in
    record { value = h.0; line_after = h.1 }
