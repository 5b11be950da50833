-- `runs::run::apply` meets its contract: between runs, and in a run, what is left of the walk is that of the elements left. Assumes nothing.
use Prim.Native.Nat.{◌<◌}
use native.Mathlib.Omega.{arith}
use mathlib.Core.Path.{◌≡◌, sym, ◌∙◌}
use lib.ListN.{length}
use borrow.Author.Rules.{rules}
use Rattle.request_runs.proofs.Carried.{led}
use Rattle.request_runs.proofs.Named.{ready_small, ready_row}
use Rattle.request_runs.proofs.Walking.{Closing, begins, next_ready, opens, each_ready, finished, left_over, left_short, fits, counted_out, cut_short, other_number, passes, fails, closes, end-failed}
use Rattle.request_runs.proofs.run.apply.Invariants.{rows_in}
use Rattle.request_runs.proofs.run.apply.Goals as goal
use Rattle.request_runs.proofs.run.apply.Goals.{else-scan-test, then-scan-test+in_default-unpack, then-scan-test+in-Some-unpack+then-number_of-number}

pub runs-init : goal.runs-init
runs-init c = begins (rows_in c.args.table) c.args.«data».now c.args.list.now c.args.count c.args.stage.now c.requires.1

-- The element that begins a run is ready, so its index is one of the sixteen.
pub bounds-table-element : goal.bounds-table-element
bounds-table-element c =
    let sixteen : length c.args.table.rows ≡ 16 = search rules in
    ready_small c.args.table sixteen (next_ready c.runs.invariant c.runs-test.true (sym c.unpack.ensures ∙ c.in-Some.is))

-- What stands at its index is its row.
pub scan-init : goal.scan-init
scan-init c =
    let sixteen : length c.args.table.rows ≡ 16 = search rules in
    let here = sym c.unpack.ensures ∙ c.in-Some.is in
    let ready = next_ready c.runs.invariant c.runs-test.true here in
    opens c.runs.invariant c.runs-test.true here (ready_row c.args.table sixteen ready _) c.number_of-number.ensures

pub bounds-table-f : goal.bounds-table-f
bounds-table-f c =
    let sixteen : length c.args.table.rows ≡ 16 = search rules in
    ready_small c.args.table sixteen (each_ready c.scan.invariant c.scan-test.true (sym c.unpack-in-scan.ensures ∙ c.in-Some-unpack.is))

-- A block of the write data is there for each element.
pub carry_element-requires : goal.carry_element-requires
carry_element-requires c =
    let sixteen : length c.args.table.rows ≡ 16 = search rules in
    let here = sym c.unpack-in-scan.ensures ∙ c.in-Some-unpack.is in
    let own = ready_row c.args.table sixteen (each_ready c.scan.invariant c.scan-test.true here) _ in
    let q = fits c.scan.invariant c.scan-test.true here own in
    (omega (arith, c.scan-test.true, c.requires.0), q.0, q.1)

pub scan-preserved : goal.scan-preserved
scan-preserved c =
    let sixteen : length c.args.table.rows ≡ 16 = search rules in
    let e = c.carry_element in
    let here = sym c.unpack-in-scan.ensures ∙ c.in-Some-unpack.is in
    let own = ready_row c.args.table sixteen (each_ready c.scan.invariant c.scan-test.true here) _ in
    passes c.scan.invariant c.scan-test.true here own c.number_of.ensures c.if-number_of-number.false e.result e.new.stage e.ensures e.auto.stage c.in_ok-carry_element.was

-- Where the scan was left, the run's end is reached.
pub runs-preserved : goal.runs-preserved
runs-preserved c =
    let sixteen : length c.args.table.rows ≡ 16 = search rules in
    let i = c.scan.invariant in
    let e = c.close_run in
    let closing : Closing i =
    elim c.scan-test.branch [
      | else-scan-test w ↦ counted_out i w.scan-test.false
      | then-scan-test+in_default-unpack w ↦ cut_short i w.scan-test.true (sym w.unpack-in-scan.ensures ∙ w.in_default-unpack.is)
      | then-scan-test+in-Some-unpack+then-number_of-number w ↦
          let h = sym w.unpack-in-scan.ensures ∙ w.in-Some-unpack.is in
          other_number i w.scan-test.true h (ready_row c.args.table sixteen (each_ready i w.scan-test.true h) _) w.number_of.ensures w.if-number_of-number.true
    ] in
    closes i closing e.result e.new.stage e.ensures c.runs.invariant e.auto.stage c.in_ok-close_run.was

pub returns-after-runs : goal.returns-after-runs
returns-after-runs c = finished c.runs.invariant (left_over c.args.list.now c.args.count c.runs.end c.runs.at c.runs-test.false)

pub returns-in_default : goal.returns-in_default
returns-in_default c =
    finished c.runs.invariant (left_short c.args.list.now c.args.count c.runs.end c.runs.at c.runs-test.true (sym c.unpack.ensures ∙ c.in_default.is))

pub returns-in_err-carry_element : goal.returns-in_err-carry_element
returns-in_err-carry_element c =
    let sixteen : length c.args.table.rows ≡ 16 = search rules in
    let e = c.carry_element in
    let here = sym c.unpack-in-scan.ensures ∙ c.in-Some-unpack.is in
    let own = ready_row c.args.table sixteen (each_ready c.scan.invariant c.scan-test.true here) _ in
    c.runs.invariant.same
    ∙ fails c.scan.invariant c.scan-test.true here own c.number_of.ensures c.if-number_of-number.false e.result e.new.stage e.ensures c.in_err-carry_element.was
    ∙ led _ c.from_residual.ensures.1 _

pub returns-in_err-close_run : goal.returns-in_err-close_run
returns-in_err-close_run c =
    let sixteen : length c.args.table.rows ≡ 16 = search rules in
    let i = c.scan.invariant in
    let e = c.close_run in
    let closing : Closing i =
    elim c.scan-test.branch [
      | else-scan-test w ↦ counted_out i w.scan-test.false
      | then-scan-test+in_default-unpack w ↦ cut_short i w.scan-test.true (sym w.unpack-in-scan.ensures ∙ w.in_default-unpack.is)
      | then-scan-test+in-Some-unpack+then-number_of-number w ↦
          let h = sym w.unpack-in-scan.ensures ∙ w.in-Some-unpack.is in
          other_number i w.scan-test.true h (ready_row c.args.table sixteen (each_ready i w.scan-test.true h) _) w.number_of.ensures w.if-number_of-number.true
    ] in
    c.runs.invariant.same ∙ end-failed i closing e.result e.new.stage e.ensures c.in_err-close_run.was ∙ led _ c.from_residual-in_err-close_run.ensures.1 _
