-- `lanes::judge` meets its contract: the lanes, then the races. Assumes nothing.
use Rattle.std.proofs.Common.{Result}
use mathlib.Core.Path.{ap, ◌∙◌}
use Rattle.board_lanes.specs.Board.{and_then, lanes_judged, board_judged}
use Rattle.board_lanes.proofs.lanes.judge.Goals as goal
use Rattle.board_lanes.specs.declared.refusal.BoardRefusal.{BoardRefusal}

pub returns : goal.returns
unfolding board_judged
returns c =
    c.and_then.ensures
    ∙ ap (λ (x : Result Unit BoardRefusal). and_then x c.judge_races-races.result) c.judge_lanes-lanes.ensures
    ∙ ap (and_then (lanes_judged c.args.bytes.now 8 0)) c.judge_races-races.ensures
