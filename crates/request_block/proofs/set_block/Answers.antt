-- A refusal changes nothing; else the block is put where it lies.
use mathlib.Core.Path.{sym, ap, ◌∙◌}
use Rattle.std.proofs.Common.{Err}
use Rattle.std.proofs.lemmas.Result.{err_from_is_err_and}
use native.Mathlib.Omega.{arith}
use Rattle.request_block.proofs.Blocks.{found_there_lem, found_refused, set-none, place_inside, block-put}
use Rattle.request_block.proofs.set_block.Goals as goal

pub copy-requires : goal.copy-requires
copy-requires c =
    let a = c.args in
    let f = found_there_lem _ _ _ _ c.find_block.ensures c.in_ok-at.was in
    (place_inside a.card a.arena.now a.code a.number f.0 f.1 c.well_formed.0.1.1.0.1.0.1, omega arith)

pub returns-in_err-at-clause-value : goal.returns-in_err-at-clause-value
returns-in_err-at-clause-value c =
    let r = err_from_is_err_and c.from_residual.result c.from_residual.ensures.1 in
    r.1 ∙ ap Err r.2 ∙ sym (found_refused _ _ _ _ c.find_block.ensures c.in_err-at.was)

pub returns-in_err-at-clause-arena_after : goal.returns-in_err-at-clause-arena_after
returns-in_err-at-clause-arena_after c =
    sym (set-none _ _ _ _ _ (found_refused _ _ _ _ c.find_block.ensures c.in_err-at.was))

pub returns-clause-value : goal.returns-clause-value
returns-clause-value c = sym (found_there_lem _ _ _ _ c.find_block.ensures c.in_ok-at.was).0

pub returns-clause-arena_after : goal.returns-clause-arena_after
returns-clause-arena_after c =
    let f = found_there_lem _ _ _ _ c.find_block.ensures c.in_ok-at.was in
    block-put _ _ _ _ f.0 f.1 _ c.copy.ensures
