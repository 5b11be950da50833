-- The parts of the message, one after the other.
use Rattle.std.proofs.Common.{Ok, Err}
use mathlib.Core.Path.{◌≡◌, sym, ◌∙◌}
use Prim.Native.Nat.{◌+◌, ◌*◌, ◌≤◌, ◌<◌}
use native.Mathlib.Omega.{arith}
use lib.ListN.{length}
use borrow.Author.Rules.{rules}
use borrow.Author.Tests.{ltb-true, ltb-false}
use Rattle.answers.specs.declared.refusal.Refusal.TheVariants.{ShortOutput}
use Rattle.node_messages.specs.CodeList.{areas_of, services_of, code_list_bytes}
use Rattle.node_messages.proofs.Writes.{ListSized, Writes, list-long, list_put, short, whole}
use Rattle.node_messages.proofs.code_list.put_code_list.Goals as goal
use Rattle.node_messages.proofs.code_list.put_code_list.Goals.{Then-is_short}

-- the output is too short
refused : (c : Then-is_short) → Writes (code_list_bytes c.args.list) c.args.out.now (Err ShortOutput) c.args.out.now
refused c =
    let z : ListSized c.args.list = record { ranges = search rules; codes = search rules } in
    let es : c.services_left-services.result ≡ services_of c.args.list = c.services_left-services.ensures ∙ rw c.least-areas.ensures in
    let less : length c.args.out.now < 3 + 4 * c.least-areas.result + 2 * c.services_left-services.result = ltb-true _ _ (sym c.is_short.ensures ∙ c.if-is_short.true) in
    short _ c.args.out.now (list-long z) (omega (arith, c.least-areas.ensures, es, less))

pub returns-then-is_short-clause-value : goal.returns-then-is_short-clause-value
returns-then-is_short-clause-value c = (refused c).0

pub returns-then-is_short-clause-out_after : goal.returns-then-is_short-clause-out_after
returns-then-is_short-clause-out_after c = (refused c).1

-- it is not
pub returns : goal.returns
returns c =
    let z : ListSized c.args.list = record { ranges = search rules; codes = search rules } in
    let ea : c.least-areas.result ≡ areas_of c.args.list = c.least-areas.ensures in
    let es : c.services_left-services.result ≡ services_of c.args.list = c.services_left-services.ensures ∙ rw c.least-areas.ensures in
    let enough : 3 + 4 * c.least-areas.result + 2 * c.services_left-services.result ≤ length c.args.out.now = ltb-false _ _ (sym c.is_short.ensures ∙ c.if-is_short.false) in
    let e = list_put z c.args.out.now c.flag.ensures ea es c.put_numbers.ensures c.put_numbers-2.ensures in
    let w : Writes (code_list_bytes c.args.list) c.args.out.now (Ok (3 + 4 * c.least-areas.result + 2 * c.services_left-services.result)) c.put_numbers-2.new.out = whole _ c.args.out.now (rw (ea, es) (list-long z)) enough e in
    record { value = w.0; out_after = w.1 }
