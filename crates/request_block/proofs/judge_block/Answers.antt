-- A block that is found is there.
use mathlib.Core.Path.{sym, ap, ◌∙◌}
use Rattle.std.proofs.Common.{Err}
use Rattle.std.proofs.lemmas.Result.{err_from_is_err_and}
use Rattle.request_block.proofs.Blocks.{found_there_lem, found_refused}
use Rattle.request_block.proofs.judge_block.Goals as goal

pub returns-in_err-find_block : goal.returns-in_err-find_block
returns-in_err-find_block c =
    let r = err_from_is_err_and c.from_residual.result c.from_residual.ensures.1 in
    r.1 ∙ ap Err r.2 ∙ sym (found_refused _ _ _ _ c.find_block.ensures c.in_err-find_block.was)

pub returns : goal.returns
returns c = sym (found_there_lem _ _ _ _ c.find_block.ensures c.in_ok-find_block.was).0
