use mathlib.Core.Path.{◌≡◌, refl, sym}
use mathlib.Core.List.{map}
use Prim.Native.Nat.{◌-◌, ◌≤◌}
use native.Mathlib.Omega.{arith}
use lib.ListN.{length, length-set}
use borrow.Author.Rules.{rules}
use Rattle.byte_parts.specs.Part.{put}
use Rattle.byte_parts.proofs.Part.{put_zero}
use Rattle.card_questions.specs.Tags.{OfTags}
use Rattle.card_questions.proofs.Puts.{one_put}
use Rattle.card_lists.specs.Information.{free_for}
use Rattle.card_lists.proofs.information.put_free.Given as goal

abbrev pub invariant-loop-i : goal.invariant-loop-i
invariant-loop-i l =
    (l.i ≤ length l.asked) × (length l.to ≡ length l.initial.to) × OfTags l.tags (λ ns. l.to ≡ put l.initial.to 0 l.i (map (free_for ns l.unused) l.asked))
