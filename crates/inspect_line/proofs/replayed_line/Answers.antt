-- `inspect_line::replayed_line` meets its contract: the line does what it does in a replay, and counts. Assumes nothing.
use Rattle.std.proofs.Common.{Some}
use borrow.Author.Rules.{rules}
use Rattle.replay_line.specs.Replay.{held, held_by}
use Rattle.inspect_line.proofs.Looks.{replayed_seen_lem}
use Rattle.inspect_line.proofs.replayed_line.Goals as goal

pub returns : goal.returns
returns c =
    let a = c.args in
    let h = held_by (Some a.kind) (held a.inspect.replay a.arena.now) a.line.now in
    record {
      arena_after = replayed_seen_lem a.inspect {h = h} c.take-taken.ensures.arena_after c.one_more-lines.ensures c.numbered_to.ensures;
      written = c.take-taken.ensures.written;
      work_after = c.take-taken.ensures.work_after;
      bytes_after = c.take-taken.ensures.bytes_after;
    }
