-- Sixteen bytes are set; others are refused, after the call's own refusals.
use mathlib.Core.Path.{refl}
use borrow.Author.Tests.{eq-eqb, ne_eqb}
use borrow.Author.Rules.{rules}
use Rattle.handset_words.specs.Block.{set_answer, set_after}
use Rattle.handset.proofs.blocks.uluvoli_set_block.Goals as goal

pub returns-then-block-ne16 : goal.returns-then-block-ne16
unfolding set_answer set_after
returns-then-block-ne16 c = record {
  value = rw (ne_eqb _ 16 c.if-block-ne16.true, ← c.decode-own.ensures, ← c.judge_block.ensures) c.unfit.ensures;
  arena_after = rw (ne_eqb _ 16 c.if-block-ne16.true);
}

pub returns : goal.returns
unfolding set_answer set_after
returns c =
    let e = c.set_block.ensures in
    record {
      value = rw (eq-eqb _ 16 c.if-block-ne16.false, ← c.decode-own.ensures, ← e.value) c.answered.ensures;
      arena_after = rw (eq-eqb _ 16 c.if-block-ne16.false, ← c.decode-own.ensures, ← c.sixteen-bytes.ensures) e.arena_after;
    }
