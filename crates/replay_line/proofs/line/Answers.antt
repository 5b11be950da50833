-- `replay_line::line` meets its contract, by what the line is taken for. Assumes nothing.
use borrow.Author.Rules.{rules}
use Rattle.replay_line.specs.Replay.{line_held, line_text, work_held, bytes_held}
use Rattle.replay_line.proofs.line.Goals as goal

pub returns : goal.returns
unfolding line_held line_text work_held bytes_held
returns c =
    let k = c.kind_of-kind.ensures in
    record { arena_after = rw k at c.take.ensures.arena_after; written = rw k at c.take.ensures.written; work_after = rw k at c.take.ensures.work_after; bytes_after = rw k at c.take.ensures.bytes_after }
