use mathlib.Core.Path.{◌≡◌, sym, ◌∙◌}
use Prim.Native.Nat.{◌-◌}
use native.Mathlib.Omega.{arith}
use lib.ListN.{length, drop}
use borrow.Author.Rules.{rules}
use borrow.Author.Tests.{not-true, not-false}
use Rattle.card_nodes.proofs.Scan.{done}
use Rattle.card_sound.specs.Sound.{all_roots}
use Rattle.card_sound.proofs.Turns.{Unused, unused, used, more}
use Rattle.card_sound.proofs.all_unused.Given as goal

abbrev pub invariant-loop-k : goal.invariant-loop-k
invariant-loop-k l = Unused l.nodes (all_roots (drop l.count l.nodes)) l.k

abbrev pub decreases-loop-k : goal.decreases-loop-k
decreases-loop-k l = 64 - l.k
