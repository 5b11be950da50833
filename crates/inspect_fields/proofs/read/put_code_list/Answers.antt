-- `read::put_code_list` meets its contract: flag, areas, services. Assumes nothing.
use borrow.Author.Rules.{rules}
use borrow.Table.Elements.{take-le}
use native.Mathlib.Omega.{arith}
use Prim.Native.Nat.{ℕ, ◌-◌, ◌*◌}
use native.Mathlib.Nat.{sub-zero}
use mathlib.Core.Path.{◌≡◌, ap, ◌∙◌}
use lib.ListN.{length}
use Rattle.text_stream.proofs.Prints.{written-more}
use Rattle.text_print.specs.Print.{closed, four_digits}
use Rattle.node_messages.specs.CodeList.{areas_of, services_of, ranges_of, codes_listed}
use Rattle.inspect_fields.specs.Fields.{flag_text}
use Rattle.inspect_fields.proofs.read.put_code_list.Goals as goal

pub returns : goal.returns
returns c =
    let m = c.args.list in
    let r : length m.ranges ≡ 32 = search rules in
    let s : length m.codes ≡ 16 = search rules in
    let ea : 2 * c.least-areas.result - 0 ≡ 2 * areas_of m = sub-zero (2 * c.least-areas.result) ∙ ap (λ (k : ℕ). 2 * k) c.least-areas.ensures in
    let es : c.least-services.result - 0 ≡ services_of m = sub-zero c.least-services.result ∙ c.least-services.ensures ∙ rw c.least-areas.ensures in
    let w = written-more (closed 9 (flag_text m.more)) (closed 9 (four_digits (ranges_of m))) c.put_flag-next.ensures.written (rw ea at c.put_numbers-after.ensures.written) in
    let lr : length m.ranges ≡ 32 = search rules in
    let lc : length m.codes ≡ 16 = search rules in
    (record { written = written-more _ (closed 10 (four_digits (codes_listed m))) w (rw es at c.put_numbers.ensures.written); upper_bound = omega (arith, c.put_flag-next.ensures.upper_bound, c.put_numbers-after.ensures.upper_bound, c.put_numbers.ensures.upper_bound, take-le (2 * c.least-areas.result - 0) m.ranges, take-le (c.least-services.result - 0) m.codes) })
