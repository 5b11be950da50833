-- `replay_line::refresh_line` meets its contract: the next ordinal, and what comes of the refresh. Assumes nothing.
use borrow.Author.Rules.{rules}
use native.Mathlib.Omega.{arith}
use mathlib.Core.Path.{◌≡◌}
use Rattle.replay_line.proofs.Takes.{board-held}
use Rattle.replay_line.proofs.refresh_line.Goals as goal

pub returns : goal.returns
returns c =
    let a = c.args in
    let e = c.one_more-ordinal.ensures in
    (record { arena_value = board-held a.replay a.arena.now e; written = (rw e at c.board_line-last.ensures.written, omega (arith, c.board_line-last.ensures.upper_bound)) })
