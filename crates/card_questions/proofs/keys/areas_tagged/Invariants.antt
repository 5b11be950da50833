use mathlib.Core.Path.{◌≡◌, sym, ◌∙◌, ap}
use Prim.Native.Nat.{◌-◌}
use native.Mathlib.Omega.{arith}
use lib.ListN.{length}
use borrow.Author.Rules.{rules}
use borrow.Author.Tests.{not-true, not-false}
use Rattle.card_questions.specs.Keys.{is_found, area_list_of, all_areas}
use Rattle.card_questions.specs.Tags.{OfTags}
use Rattle.card_questions.proofs.TagLaws.{tags_area}
use Rattle.card_questions.proofs.Lists.{InList, no_area, first_other_lem, first-area, later_other, later_area, areas-done}
use Rattle.card_questions.proofs.keys.areas_tagged.Given as goal

abbrev pub invariant-loop-i : goal.invariant-loop-i
invariant-loop-i l = OfTags l.tags (λ ns. InList l.areas (area_list_of ns l.areas) (all_areas ns) l.i)
