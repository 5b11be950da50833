-- By what stands at the place, then by how its check ends.
use mathlib.Core.Path.{◌≡◌, sym, ◌∙◌}
use Prim.Native.Nat.{◌<◌}
use native.Mathlib.Omega.{arith}
use lib.ListN.{length, take, length-map}
use borrow.Author.Rules.{rules}
use Rattle.request_check.specs.Check.{element_check}
use Rattle.request_check.proofs.Cases.{named}
use Rattle.request_check.proofs.Steps.{index_small}
use Rattle.request_check.proofs.Walks.{no_fault_lem, fault_told, fault_none}
use Rattle.request_check.proofs.walk.fault_at.Goals as goal

pub returns-in_default : goal.returns-in_default
returns-in_default c = no_fault_lem _ _ _ _ _ _ c.unpack.ensures c.in_default.is

pub bounds-table-e : goal.bounds-table-e
bounds-table-e c = index_small _ _ (sym c.unpack.ensures ∙ c.in-Some.is)

pub returns-in-Err : goal.returns-in-Err
returns-in-Err c =
    let t = c.args.table in
    let sixteen : length t.rows ≡ 16 = search rules in
    let small = index_small _ _ (sym c.unpack.ensures ∙ c.in-Some.is) in
    let checked = c.element_check.ensures ∙ named t.rows t.count c.args.write c.args.«open» c.in-Some.taken.element _ sixteen small in
    fault_told _ _ _ _ _ _ c.unpack.ensures c.in-Some.is checked c.in-Err.is

pub returns : goal.returns
returns c =
    let t = c.args.table in
    let sixteen : length t.rows ≡ 16 = search rules in
    let small = index_small _ _ (sym c.unpack.ensures ∙ c.in-Some.is) in
    let checked = c.element_check.ensures ∙ named t.rows t.count c.args.write c.args.«open» c.in-Some.taken.element _ sixteen small in
    fault_none _ _ _ _ _ _ c.unpack.ensures c.in-Some.is checked c.in_default-element_check.is
