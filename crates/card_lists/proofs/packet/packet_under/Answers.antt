-- No area, a packet past the end, or what the walk gathered.
use mathlib.Core.Path.{◌≡◌, sym, ap, ◌∙◌}
use Prim.Native.Nat.{◌+◌, ◌*◌}
use native.Mathlib.Omega.{arith}
use lib.ListN.{take, drop, get_or}
use borrow.Author.Rules.{rules}
use Rattle.card_nodes.specs.Node.{root_node}
use Rattle.card_nodes.proofs.Records.{Records}
use Rattle.card_laws.specs.Children.{area_named}
use Rattle.card_lists.specs.Gather.{nothing_gathered, gathered_from}
use Rattle.card_lists.proofs.Told.{area_index, no_area, past-told, packet-told}
use Rattle.card_lists.proofs.packet.packet_under.Goals as goal
use Rattle.card_lists.proofs.packet.packet_under.Goals.{After-gather-held}

-- what is gathered, after the children of the packets before
gathered : (c : After-gather-held) →
    let a = c.args in
    c.gather-held.result
    ≡ gathered_from (get_or a.nodes c.in-Some.at root_node).depth (16 * a.packet) nothing_gathered
    (drop (c.in-Some.at + 1) (take a.count a.nodes))
gathered c = rw c.passed-first.ensures at c.gather-held.ensures

pub gather-held-requires : goal.gather-held-requires
gather-held-requires c =
    let r : Records c.args.nodes c.args.count = record { all = search rules } in
    area_index r c.args.parent (c.area_named.ensures ∙ ap (λ ns. area_named ns c.args.parent) c.records.ensures) c.in-Some.is

pub returns-in_default : goal.returns-in_default
returns-in_default c = c.refused.ensures ∙ no_area _ _ (sym (c.area_named.ensures ∙ ap (λ ns. area_named ns c.args.parent) c.records.ensures) ∙ c.in_default.is)

pub returns-then-is_past_end : goal.returns-then-is_past_end
returns-then-is_past_end c =
    let r : Records c.args.nodes c.args.count = record { all = search rules } in
    let g = gathered (goal.at.returns-then-is_past_end c).After-gather-held in
    c.refused-then-is_past_end.ensures
    ∙ past-told r c.args.parent (c.area_named.ensures ∙ ap (λ ns. area_named ns c.args.parent) c.records.ensures) c.in-Some.is c.args.packet g
    c.is_past_end.ensures c.if-is_past_end.true

pub returns : goal.returns
returns c =
    let r : Records c.args.nodes c.args.count = record { all = search rules } in
    let g = gathered (goal.at.returns c).After-gather-held in
    rw c.passed-first.ensures at c.told.ensures
    ∙ packet-told r c.args.parent (c.area_named.ensures ∙ ap (λ ns. area_named ns c.args.parent) c.records.ensures) c.in-Some.is c.args.packet g
    c.is_past_end.ensures c.if-is_past_end.false
