use mathlib.Core.Path.{◌≡◌, refl, sym}
use mathlib.Core.List.{map}
use Prim.Native.Nat.{◌-◌, ◌≤◌}
use native.Mathlib.Omega.{arith}
use lib.ListN.{length, length-set}
use Rattle.byte_parts.specs.Part.{put}
use Rattle.byte_parts.proofs.Part.{put_zero}
use Rattle.card_questions.specs.Table.{OfColumns}
use Rattle.card_questions.specs.Total.{total_of}
use Rattle.card_questions.proofs.Puts.{one_put}
use Rattle.card_questions.proofs.totals.put_totals_in.Given as goal

abbrev pub invariant-loop-i : goal.invariant-loop-i
invariant-loop-i l =
    (l.i ≤ length l.asked) × (length l.to ≡ length l.initial.to) × OfColumns l.tags l.depths l.seconds l.blocks (λ ns. l.to ≡ put l.initial.to 0 l.i (map (total_of ns) l.asked))
