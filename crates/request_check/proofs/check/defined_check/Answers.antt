-- By the row's attribute, then by whether the card has the service.
use borrow.Author.Rules.{rules}
use borrow.Author.Tests.{not-true, not-false}
use Rattle.request_check.proofs.Cases.{no_attribute, no_service, of_service}
use Rattle.request_check.proofs.check.defined_check.Goals as goal

pub returns-in_default : goal.returns-in_default
returns-in_default c = let a = c.args in no_attribute a.row a.write a.«open» a.number a.mode c.in_default.is

pub returns-then-not-row : goal.returns-then-not-row
returns-then-not-row c =
    let a = c.args in
    no_service a.row a.write a.«open» a.number a.mode c.in-Some.is (not-true c.args.row.found c.if-not-row.true)

pub returns : goal.returns
returns c =
    let a = c.args in
    of_service a.row a.write a.«open» a.number a.mode c.in-Some.is (not-false c.args.row.found c.if-not-row.false) c.service_check.ensures
