use mathlib.Core.Path.{◌≡◌}
use Prim.Native.Nat.{◌≤◌}
use lib.ListN.{length}
use Rattle.byte_parts.specs.Part.{put}
use Rattle.handset.proofs.readers.fill.Given as goal

abbrev pub invariant-loop-i : goal.invariant-loop-i
invariant-loop-i l = (l.i ≤ l.n) × (l.to ≡ put l.initial.to 0 l.i l.numbers) × (length l.to ≡ length l.initial.to)
