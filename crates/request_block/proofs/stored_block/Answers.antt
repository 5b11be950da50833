-- None, or the part of the arena where the block lies.
use mathlib.Core.Path.{sym}
use native.Mathlib.Omega.{arith}
use Rattle.request_block.proofs.Blocks.{found_there_lem, found_refused, stored-none, place_inside, lent_block}
use Rattle.request_block.proofs.stored_block.Goals as goal

pub overflow_add-result : goal.overflow_add-result
overflow_add-result c =
    let a = c.args in
    let f = found_there_lem _ _ _ _ c.find_block.ensures c.in-Ok.is in
    omega (arith, place_inside a.card a.arena.now a.code a.number f.0 f.1 c.well_formed.0.1.1.0.1.0.1)

pub slice_bounds-result-end-in-Ok : goal.slice_bounds-result-end-in-Ok
slice_bounds-result-end-in-Ok c =
    let a = c.args in
    let f = found_there_lem _ _ _ _ c.find_block.ensures c.in-Ok.is in
    omega (arith, place_inside a.card a.arena.now a.code a.number f.0 f.1 c.well_formed.0.1.1.0.1.0.1)

pub returns-in-Err : goal.returns-in-Err
returns-in-Err c = sym (stored-none _ _ _ _ (found_refused _ _ _ _ c.find_block.ensures c.in-Err.is))

pub returns-in-Ok : goal.returns-in-Ok
returns-in-Ok c =
    let f = found_there_lem _ _ _ _ c.find_block.ensures c.in-Ok.is in
    lent_block _ _ _ _ f.0 f.1
