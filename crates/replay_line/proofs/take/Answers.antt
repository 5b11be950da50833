-- `replay_line::take` meets its contract, by what the line is taken for. Assumes nothing.
use Rattle.std.proofs.Common.{Some}
use borrow.Author.Rules.{rules}
use mathlib.Core.Path.{ap, ◌∙◌}
use Rattle.replay_kind.specs.declared.Kind.{Kind}
use native.Mathlib.Omega.{arith}
use Rattle.replay_line.specs.Replay.{held}
use Rattle.replay_line.proofs.Takes.{image-taken, request-taken, board-taken, nothing_taken}
use Rattle.replay_line.proofs.take.Goals as goal

pub returns-in-Image : goal.returns-in-Image
returns-in-Image c =
    let a = c.args in
    let w =
    image-taken (held a.replay a.arena.now) a.line.now a.work.now a.bytes.now (c.in-Some.is ∙ ap (λ (k : Kind). Some k) c.in-Image.is) (c.image_line.ensures.arena_after, c.image_line.ensures.written) in
    record { arena_after = w.0; written = w.1.0; work_after = w.1.1.0; bytes_after = w.1.1.1 }

pub returns-in-Request : goal.returns-in-Request
returns-in-Request c =
    let a = c.args in
    let w =
    request-taken (held a.replay a.arena.now) a.line.now a.work.now a.bytes.now (c.in-Some.is ∙ ap (λ (k : Kind). Some k) c.in-Request.is) (c.request_line.ensures.arena_after, (c.request_line.ensures.written, (c.request_line.ensures.work_after, c.request_line.ensures.bytes_after))) in
    record { arena_after = w.0; written = w.1.0; work_after = w.1.1.0; bytes_after = w.1.1.1 }

pub returns-in-Board : goal.returns-in-Board
returns-in-Board c =
    let a = c.args in
    let w =
    board-taken (held a.replay a.arena.now) a.line.now a.work.now a.bytes.now (c.in-Some.is ∙ ap (λ (k : Kind). Some k) c.in-Board.is) (c.refresh_line.ensures.arena_value, c.refresh_line.ensures.written) in
    record { arena_after = w.0; written = w.1.0; work_after = w.1.1.0; bytes_after = w.1.1.1 }

pub returns-in_default : goal.returns-in_default
returns-in_default c =
    let a = c.args in
    let w =
    nothing_taken (held a.replay a.arena.now) a.line.now a.work.now a.bytes.now a.out.now a.at c.in_default.is in
    record { arena_after = w.0; written = w.1.0; work_after = w.1.1.0; bytes_after = w.1.1.1 }
