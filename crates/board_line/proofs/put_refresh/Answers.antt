-- `board_line::put_refresh` meets its contract: what the refresh came to is printed of its own blocks. Assumes nothing.
use mathlib.Core.Path.{refl}
use lib.ListN.{replicate}
use Rattle.board_line.proofs.Refreshes.{text-read}
use Rattle.board_line.proofs.put_refresh.Goals as goal

pub returns-clause-written : goal.returns-clause-written
returns-clause-written c =
    let a = c.args in
    rw (text-read a.card a.arena.now a.code a.ordinal (replicate 128 0) c.well_formed.0.1.1.0.1.0.1 refl c.refresh-refreshed.ensures.value c.refresh-refreshed.ensures.bytes_after) at c.put_refreshed.ensures.written
