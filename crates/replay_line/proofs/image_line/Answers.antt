-- `replay_line::image_line` meets its contract: the line is accepted, or refused. Assumes nothing.
use borrow.Author.Rules.{rules}
use Rattle.line_build.specs.Image.{image_step}
use Rattle.replay_line.proofs.Takes.{image-done, image-refused}
use Rattle.replay_line.proofs.image_line.Goals as goal

pub returns-in-Ok : goal.returns-in-Ok
returns-in-Ok c =
    let a = c.args in
    let w =
    image-done a.replay (image_step a.first a.replay.card a.arena.now a.line.now)
    c.image_line-added.ensures.value c.image_line-added.ensures.arena_after c.one_more-lines.ensures c.in-Ok.is a.out.now a.at in
    record { arena_after = w.0; written = w.1 }

pub returns-in-Err : goal.returns-in-Err
returns-in-Err c =
    let a = c.args in
    let w =
    image-refused a.replay (image_step a.first a.replay.card a.arena.now a.line.now)
    c.image_line-added.ensures.value c.image_line-added.ensures.arena_after c.one_more-lines.ensures c.in-Err.is (c.put_refusal.ensures.written, c.put_refusal.ensures.upper_bound) in
    record { arena_after = w.0; written = w.1 }
