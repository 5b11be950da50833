use Prim.Native.Nat.{ℕ, ◌+◌, ◌-◌, ◌≤◌, ◌<◌}
use native.Mathlib.Omega.{arith}
use mathlib.Core.Path.{◌≡◌, refl, sym, ap, ◌∙◌}
use mathlib.Core.List.{List}
use lib.ListN.{length, take, drop}
use borrow.Author.Rules.{rules}
use Rattle.salvage_rule.specs.Salvage.{Between, fresh}
use Rattle.salvage_line.specs.Image.{Image, imaged, held_of}
use Rattle.salvage_print.specs.Print.{said_of, gain_of}
use Rattle.salvage_print.proofs.Turns.{Turn}
use Rattle.salvage_walk.specs.Walk.{image_at, report_at}
use Rattle.salvage_walk.proofs.Extents.{extent_fit, wrote_fit}
use Rattle.salvage_walk.proofs.Walking.{Walking, AtLine, turn_at, at_line, finished, begun}
use Rattle.salvage_walk.proofs.walk.Given as goal

abbrev pub invariant-loop-at : goal.invariant-loop-at
invariant-loop-at l =
    Walking l.text (image_at l.text (fresh (imaged l.initial.built l.initial.arena)) l.from) (report_at l.text l.lines (fresh (imaged l.initial.built l.initial.arena)) l.from) l.write l.initial.out l.image l.initial.report l.said
    (held_of l.built l.arena l.rules) l.out l.report l.at l.passed l.made l.told
    × (length l.arena ≡ length l.initial.arena)

abbrev pub decreases-loop-at : goal.decreases-loop-at
decreases-loop-at l =
    length l.text - l.at
