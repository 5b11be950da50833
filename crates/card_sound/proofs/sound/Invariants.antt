use mathlib.Core.Path.{◌≡◌, sym, ◌∙◌, ap}
use mathlib.Core.Bool.{true}
use Prim.Native.Nat.{◌-◌, ◌<◌}
use native.Mathlib.Omega.{arith}
use lib.ListN.{length, take, get_or}
use borrow.Author.Rules.{rules}
use borrow.Author.Tests.{not-true, not-false}
use Rattle.card_nodes.specs.declared.node.Entry.TheVariants.{Area}
use Rattle.card_nodes.specs.declared.node.Node.{Node}
use Rattle.card_nodes.specs.Node.{root_node}
use Rattle.card_nodes.specs.Find.{shared_of}
use Rattle.card_nodes.proofs.Scan.{done}
use Rattle.card_admit.specs.Admit.{first_in}
use Rattle.card_sound.specs.Sound.{step_of, steps_from, steps_of, ends_at, sound_of}
use Rattle.card_sound.specs.Walk.{starting, depth_open}
use Rattle.card_sound.proofs.Laws.{same_read}
use Rattle.card_sound.proofs.Kept.{Within, open_within}
use Rattle.card_sound.proofs.Turns.{stops}
use Rattle.card_sound.proofs.Walk.{Walk, starts_with, sound_from, begun, closed, parent-index, first-at, first-is, steps, next}
use Rattle.card_sound.proofs.sound.Given as goal

abbrev pub invariant-loop-i : goal.invariant-loop-i
invariant-loop-i l = Walk l.nodes l.count l.parents l.firsts l.deepest l.now l.i

abbrev pub decreases-loop-i : goal.decreases-loop-i
decreases-loop-i l = l.count - l.i
