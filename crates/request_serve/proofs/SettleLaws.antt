-- What is settled of a request, from what its three steps say.
use mathlib.Core.Path.{◌≡◌, ap, ◌∙◌}
use mathlib.Core.Bool.{Bool}
use mathlib.Core.List.{List}
use Prim.Native.Nat.{ℕ}
use lib.ListN.{take}
use Rattle.block_list.specs.Element.{elements_from}
use Rattle.card_nodes.specs.declared.node.Node.{Node}
use Rattle.request_check.specs.declared.table.Table.{Table}
use Rattle.request_check.specs.declared.walk.Walked.{Walked}
use Rattle.request_check.specs.Row.{row_table}
use Rattle.request_check.specs.Check.{checked_from}
use Rattle.request_check.specs.Walk.{walked_of}
use Rattle.request_plan.specs.declared.Sizes.{Sizes}
use Rattle.request_plan.specs.declared.Judged.{Judged}
use Rattle.request_plan.specs.Plan.{judged_with, judged_ending}
use Rattle.request_plan.proofs.Plans.{ending_with}

-- the codes are looked up, the list is walked, the request is judged
pub settled : (sound write «open» : Bool) (ns : List Node) (codes list : List ℕ) (n : Sizes) {t : Table} {w : Walked} {j : Judged} →
    t ≡ row_table ns codes → w ≡ walked_of (take t.count t.rows) write «open» list n.count → j ≡ judged_ending sound write w.ends n →
    (j ≡ judged_with sound write list n)
    × ((t ≡ row_table ns codes) × (w.checked ≡ checked_from (take t.count t.rows) write «open» 0 (elements_from list n.count 0)))
settled sound write «open» ns codes list n made walked judged = (
  judged
      ∙ ap (λ (b : Bool). judged_ending sound write b n) (ap (λ (w : Walked). w.ends) walked)
      ∙ ending_with sound write list n,
  (made, ap (λ (w : Walked). w.checked) walked),
)
