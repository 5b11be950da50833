-- `read::put_information` meets its contract: assigned, then free. Assumes nothing.
use borrow.Author.Rules.{rules}
use borrow.Table.Elements.{take-le}
use native.Mathlib.Omega.{arith}
use Prim.Native.Nat.{◌-◌, ◌*◌}
use native.Mathlib.Nat.{sub-zero}
use mathlib.Core.Path.{◌≡◌, ◌∙◌}
use lib.ListN.{length, take}
use Rattle.text_stream.proofs.Prints.{written-more}
use Rattle.text_print.specs.Print.{closed, four_digits}
use Rattle.node_messages.specs.Information.{node_count}
use Rattle.inspect_fields.proofs.read.put_information.Goals as goal

pub returns : goal.returns
returns c =
    let m = c.args.told in
    let r : length m.assigned ≡ 32 = search rules in
    let s : length m.free ≡ 32 = search rules in
    let e : c.least-n.result - 0 ≡ node_count m = sub-zero c.least-n.result ∙ c.least-n.ensures in
    let la : length m.assigned ≡ 32 = search rules in
    let lf : length m.free ≡ 32 = search rules in
    (record { written = written-more (closed 9 (four_digits (take (node_count m) m.assigned))) (closed 10 (four_digits (take (node_count m) m.free))) (rw e at c.put_numbers-next.ensures.written) (rw e at c.put_numbers.ensures.written); upper_bound = omega (arith, c.put_numbers-next.ensures.upper_bound, c.put_numbers.ensures.upper_bound, take-le (c.least-n.result - 0) m.assigned, take-le (c.least-n.result - 0) m.free, la, lf) })
