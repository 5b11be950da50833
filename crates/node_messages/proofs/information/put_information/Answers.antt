-- The parts of the message, one after the other.
use Rattle.std.proofs.Common.{Ok, Err}
use mathlib.Core.Path.{◌≡◌, sym, ◌∙◌}
use Prim.Native.Nat.{◌+◌, ◌*◌, ◌≤◌, ◌<◌}
use native.Mathlib.Omega.{arith}
use lib.ListN.{length}
use borrow.Author.Rules.{rules}
use borrow.Author.Tests.{ltb-true, ltb-false}
use Rattle.answers.specs.declared.refusal.Refusal.TheVariants.{ShortOutput}
use Rattle.node_messages.specs.Information.{node_count, information_bytes}
use Rattle.node_messages.proofs.Writes.{InformationSized, Writes, information_long, information_put, short, whole}
use Rattle.node_messages.proofs.information.put_information.Goals as goal
use Rattle.node_messages.proofs.information.put_information.Goals.{Then-is_short}

-- the output is too short
refused : (c : Then-is_short) → Writes (information_bytes c.args.told) c.args.out.now (Err ShortOutput) c.args.out.now
refused c =
    let z : InformationSized c.args.told = record { assigned = search rules; free = search rules } in
    let less : length c.args.out.now < 1 + 4 * c.least-n.result = ltb-true _ _ (sym c.is_short.ensures ∙ c.if-is_short.true) in
    short _ c.args.out.now (information_long z) (omega (arith, c.least-n.ensures, less))

pub returns-then-is_short-clause-value : goal.returns-then-is_short-clause-value
returns-then-is_short-clause-value c = (refused c).0

pub returns-then-is_short-clause-out_after : goal.returns-then-is_short-clause-out_after
returns-then-is_short-clause-out_after c = (refused c).1

-- it is not
pub returns : goal.returns
returns c =
    let z : InformationSized c.args.told = record { assigned = search rules; free = search rules } in
    let n : c.least-n.result ≡ node_count c.args.told = c.least-n.ensures in
    let enough : 1 + 4 * c.least-n.result ≤ length c.args.out.now = ltb-false _ _ (sym c.is_short.ensures ∙ c.if-is_short.false) in
    let e = information_put z c.args.out.now n c.put_numbers.ensures c.put_numbers-2.ensures in
    let w : Writes (information_bytes c.args.told) c.args.out.now (Ok (1 + 4 * c.least-n.result)) c.put_numbers-2.new.out = whole _ c.args.out.now (rw n (information_long z)) enough e in
    record { value = w.0; out_after = w.1 }
