use Prim.Native.Nat.{◌-◌, ◌/◌, ◌≤◌}
use mathlib.Core.Path.{◌≡◌}
use lib.ListN.{length}
use Rattle.byte_parts.specs.Part.{put}
use Rattle.text_numbers.specs.Codes.{codes_of}
use Rattle.text_numbers.proofs.codes.read_codes.Given as goal

abbrev pub invariant-loop-i : goal.invariant-loop-i
invariant-loop-i l =
    (l.i ≤ length l.initial.out) × (l.i ≤ length l.s / 4) × (l.out ≡ put l.initial.out 0 l.i (codes_of l.s)) × (length l.out ≡ length l.initial.out)
