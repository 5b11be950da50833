-- The invariant: what is left to write gives the card's bytes.
use mathlib.Core.Path.{◌≡◌, ap, ◌∙◌}
use Prim.Native.Nat.{◌-◌}
use native.Mathlib.Omega.{arith}
use borrow.Author.Rules.{rules}
use lib.ListN.{length, length-map}
use Rattle.handset_bytes.specs.Field.{fields_put}
use Rattle.handset_bytes.specs.Card.{head_fields}
use Rattle.handset_bytes.proofs.EncodeTurns.{Writing, started, wrote, written, stays}
use Rattle.handset_bytes.proofs.encoding.encode.Goals as goal

pub write-requires : goal.write-requires
write-requires c = let k = c.loop-i.invariant in (k.long, omega (arith, k.few))

pub loop-i-preserved : goal.loop-i-preserved
loop-i-preserved c = wrote c.loop-i.invariant _ (omega arith) c.write.ensures

pub returns-then-bytes-ne-SIZE : goal.returns-then-bytes-ne-SIZE
returns-then-bytes-ne-SIZE c = stays _ _ c.if-bytes-ne-SIZE.true

pub returns : goal.returns
returns c =
    written c.loop-i.invariant c.args.bytes.now (omega arith) (omega arith)
    (c.write_head.ensures ∙ ap (fields_put (head_fields c.args.card)) c.clear.ensures)
