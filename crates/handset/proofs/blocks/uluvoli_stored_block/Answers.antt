-- The place of a block that is there.
use mathlib.Core.Path.{refl}
use borrow.Author.Rules.{rules}
use Rattle.request_block.proofs.Blocks.{found_there_lem, found_refused}
use Rattle.handset_words.specs.Block.{block_place_after}
use Rattle.handset.proofs.blocks.uluvoli_stored_block.Goals as goal

pub returns-in-Err : goal.returns-in-Err
unfolding block_place_after
returns-in-Err c = record {
  value = rw (← c.decode-own.ensures, found_refused _ _ _ _ c.find_block.ensures c.in-Err.is) c.refused.ensures;
  offset_after = rw (← c.decode-own.ensures, found_refused _ _ _ _ c.find_block.ensures c.in-Err.is);
}

pub returns-in-Ok : goal.returns-in-Ok
unfolding block_place_after
returns-in-Ok c =
    let (t, p) = found_there_lem _ _ _ _ c.find_block.ensures c.in-Ok.is in
    record { value = rw (← c.decode-own.ensures, t); offset_after = rw (← c.decode-own.ensures, t) p }
