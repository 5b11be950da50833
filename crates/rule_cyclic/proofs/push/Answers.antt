-- A shift makes room, a copy fills it. Assumes nothing.
use native.Mathlib.Omega.{arith}
use Rattle.rule_cyclic.proofs.Ring.{put-ahead}
use Rattle.rule_cyclic.proofs.push.Goals as goal

pub returns : goal.returns
returns c =
    let a = c.args in
    put-ahead a.store.now a.run.now (omega arith) _ _ c.shift.ensures c.copy.ensures
