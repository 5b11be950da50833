-- A full packet stays; else the child is added by what it is.
use mathlib.Core.Path.{sym, ◌∙◌}
use Prim.Native.Nat.{◌<◌}
use borrow.Author.Rules.{rules}
use Rattle.card_lists.proofs.Gathering.{child_full, child_room, child_area, child_service}
use Rattle.card_lists.proofs.gather.add_child.Goals as goal
use Rattle.card_lists.proofs.gather.add_child.Goals.{Else-is_full}

room : (c : Else-is_full) → (c.args.list.areas < 16) × (c.args.list.services < 16)
room c = child_room c.args.list c.args.child (sym c.is_full.ensures ∙ c.if-is_full.false)

pub returns-then-is_full : goal.returns-then-is_full
returns-then-is_full c = child_full _ _ (sym c.is_full.ensures ∙ c.if-is_full.true)

pub returns-in-Area : goal.returns-in-Area
returns-in-Area c =
    child_area _ _ (sym c.is_full.ensures ∙ c.if-is_full.false) c.in-Area.is c.add_area.ensures

pub returns-in-Service : goal.returns-in-Service
returns-in-Service c =
    child_service _ _ (sym c.is_full.ensures ∙ c.if-is_full.false) c.in-Service.is c.add_service.ensures

pub add_area-requires : goal.add_area-requires
add_area-requires c = (room (goal.at.add_area-requires c).Else-is_full).0

pub add_service-requires : goal.add_service-requires
add_service-requires c = (room (goal.at.add_service-requires c).Else-is_full).1
