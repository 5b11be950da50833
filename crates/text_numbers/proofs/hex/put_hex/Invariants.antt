use Prim.Native.Nat.{◌+◌, ◌*◌, ◌-◌, ◌≤◌}
use mathlib.Core.Path.{◌≡◌}
use lib.ListN.{length}
use Rattle.byte_parts.specs.Part.{put}
use Rattle.text_numbers.specs.Hex.{to_hex}
use Rattle.text_numbers.proofs.hex.put_hex.Given as goal

abbrev pub invariant-loop-b : goal.invariant-loop-b
invariant-loop-b l =
    (l.o ≡ l.at + l.b-index * 2) × (l.out ≡ put l.initial.out l.at (l.b-index * 2) (to_hex l.s)) × (length l.out ≡ length l.initial.out)
