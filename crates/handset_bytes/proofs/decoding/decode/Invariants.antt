use mathlib.Core.Path.{sym, ◌∙◌}
use Prim.Native.Nat.{◌-◌}
use native.Mathlib.Omega.{arith}
use borrow.Author.Rules.{rules}
use Rattle.handset_bytes.proofs.Heads.{headed}
use Rattle.handset_bytes.proofs.DecodeTurns.{Reading, begun, unheaded, bad, turn, read_all}
use Rattle.handset_bytes.proofs.decoding.decode.Given as goal

abbrev pub invariant-loop-i : goal.invariant-loop-i
invariant-loop-i l = Reading l.bytes l.nodes l.count l.i
