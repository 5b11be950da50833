use Prim.Native.Nat.{◌-◌, ◌≤◌}
use mathlib.Core.Path.{◌≡◌}
use lib.ListN.{length}
use Rattle.byte_parts.specs.Part.{put}
use Rattle.text_numbers.specs.Hex.{unhex}
use Rattle.text_numbers.proofs.hex.put_bytes.Given as goal

abbrev pub invariant-loop-i : goal.invariant-loop-i
invariant-loop-i l = (l.i ≤ l.n) × (l.out ≡ put l.initial.out l.at l.i (unhex l.s)) × (length l.out ≡ length l.initial.out)
