-- Refused for want of room, empty, or the root with all under it.
use Rattle.std.proofs.Common.{◌<◌, arith, rules}
use Rattle.card_nodes.proofs.Records.{Records}
use Rattle.card_questions.proofs.Answered.{refused, nothing, listed}
use Rattle.card_questions.proofs.listing.list_all.Goals as goal

pub returns-then-out-n : goal.returns-then-out-n
returns-then-out-n c =
    let r : Records c.args.nodes c.args.count = record { all = search rules } in
    let p = refused r c.taken-n.ensures c.args.out.now c.if-out-n.true in
    record { value = p.0; out_after = p.1 }

pub returns-then-n-eq0 : goal.returns-then-n-eq0
returns-then-n-eq0 c =
    let r : Records c.args.nodes c.args.count = record { all = search rules } in
    let p = nothing r c.taken-n.ensures c.args.out.now c.if-out-n.false c.if-n-eq0.true in
    record { value = p.0; out_after = p.1 }

pub returns : goal.returns
returns c =
    let r : Records c.args.nodes c.args.count = record { all = search rules } in
    let l = c.list_area.ensures in
    let h : 0 < c.taken-n.result = omega arith in
    let p = listed r c.taken-n.ensures c.args.out.now c.if-out-n.false h
    c.column_of-depths.ensures c.column_of-codes.ensures c.column_of-seconds.ensures l.value l.out_after in
    record { value = p.0; out_after = p.1 }
