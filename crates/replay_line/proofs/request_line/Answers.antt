-- `replay_line::request_line` meets its contract: the next ordinal, and what comes of the request. Assumes nothing.
use borrow.Author.Rules.{rules}
use Rattle.replay_line.proofs.Takes.{request-held}
use Rattle.replay_line.proofs.request_line.Goals as goal

pub returns : goal.returns
returns c =
    let a = c.args in
    let e = c.one_more-asked.ensures in
    let o = c.request_line-last.ensures in
    record {
      arena_after = request-held a.replay a.arena.now a.work.now a.line.now e c.requires.0 o.arena_after;
      written = rw (e, c.requires.0) at o.written;
      work_after = o.work_after;
      bytes_after = o.bytes_after;
    }
