-- `inspect_line::question_line` meets its contract: the line counts, and no ordinal is taken. Assumes nothing.
use borrow.Author.Rules.{rules}
use Rattle.inspect_line.proofs.Looks.{question_seen_lem}
use Rattle.inspect_line.proofs.question_line.Goals as goal

pub returns : goal.returns
returns c =
    let a = c.args in
    let e = c.one_more-lines.ensures in
    record {
      arena_value = question_seen_lem a.inspect a.question a.arena.now e c.numbered_to-counted.ensures c.room_after.ensures c.lent_after.ensures;
      written = rw e at c.put_question-last.ensures;
    }
