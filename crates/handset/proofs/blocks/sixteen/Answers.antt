-- Sixteen bytes over sixteen zeros.
use mathlib.Core.Path.{◌∙◌}
use mathlib.Core.List.{append-nil}
use native.Mathlib.Omega.{arith}
use lib.ListN.{take, replicate}
use lib.Seq.{take_all}
use borrow.Author.Rules.{rules}
use Rattle.byte_parts.proofs.Part.{put-split}
use Rattle.handset.proofs.blocks.sixteen.Goals as goal

pub returns : goal.returns
returns c =
    let t = c.args.block.now in
    c.copy.ensures ∙ put-split (replicate 16 0) 0 16 t (omega arith) (omega arith) ∙ append-nil (take 16 t) ∙ take_all 16 t (omega arith)
