use mathlib.Core.Path.{◌≡◌, ap, ◌∙◌}
use Prim.Native.Nat.{◌-◌}
use native.Mathlib.Omega.{arith}
use borrow.Author.Rules.{rules}
use lib.ListN.{length, length-map}
use Rattle.handset_bytes.specs.Field.{fields_put}
use Rattle.handset_bytes.specs.Card.{head_fields}
use Rattle.handset_bytes.proofs.EncodeTurns.{Writing, started, wrote, written, stays}
use Rattle.handset_bytes.proofs.encoding.encode.Given as goal

abbrev pub invariant-loop-i : goal.invariant-loop-i
invariant-loop-i l = Writing l.card l.initial.bytes l.bytes l.taken l.i
