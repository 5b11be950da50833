-- `line_serve::request_line` meets its contract: the line carried out, and its answer with the bytes read. Assumes nothing.
use mathlib.Core.Path.{ap}
use native.Mathlib.Omega.{arith}
use lib.ListN.{length}
use Rattle.line_serve.specs.declared.Outcome.{Outcome}
use Rattle.line_serve.specs.Text.{request_text}
use Rattle.line_serve.proofs.Lines.{shown, read-part}
use Rattle.line_serve.proofs.request_line.Goals as goal

pub slice_bounds-put_answer-end : goal.slice_bounds-put_answer-end
slice_bounds-put_answer-end c =
    let a = c.args in
    let n = ap (λ (o : Outcome). o.read) c.serve_line-outcome.ensures.value in
    omega (arith, (shown a.card a.arena.now a.work.now a.line.now c.well_formed.0.1.1.0.1.0.1).room)

pub put_answer-requires : goal.put_answer-requires
put_answer-requires c =
    let a = c.args in
    let n = ap (λ (o : Outcome). o.read) c.serve_line-outcome.ensures.value in
    let p = read-part a.card a.arena.now a.work.now a.line.now c.well_formed.0.1.1.0.1.0.1 n c.serve_line-outcome.ensures.work_after in
    omega (arith, ap length p, (shown a.card a.arena.now a.work.now a.line.now c.well_formed.0.1.1.0.1.0.1).most)

pub returns-clause-written : goal.returns-clause-written
unfolding request_text
returns-clause-written c =
    let a = c.args in
    let o = c.serve_line-outcome.ensures in
    let e = c.put_answer.ensures in
    let n = ap (λ (o : Outcome). o.read) o.value in
    let p = read-part a.card a.arena.now a.work.now a.line.now c.well_formed.0.1.1.0.1.0.1 n o.work_after in
    (rw (ap (λ (x : Outcome). x.reply) o.value, p) at e.written, omega (arith, e.upper_bound, ap length p, (shown a.card a.arena.now a.work.now a.line.now c.well_formed.0.1.1.0.1.0.1).most))
