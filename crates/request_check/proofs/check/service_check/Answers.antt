-- By how the check of what the service lets a request do ends.
use mathlib.Core.Path.{◌∙◌, ap}
use Rattle.std.proofs.Common.{Err}
use Rattle.std.proofs.lemmas.Result.{err_from_is_err_and}
use borrow.Author.Rules.{rules}
use Rattle.request_check.proofs.Cases.{no_access, of_block}
use Rattle.request_check.proofs.check.service_check.Goals as goal

pub returns-in_err-access_check : goal.returns-in_err-access_check
returns-in_err-access_check c =
    let r = err_from_is_err_and c.from_residual.result c.from_residual.ensures.1 in
    r.1 ∙ ap Err r.2 ∙ no_access c.args.row c.args.attribute _ _ _ _ c.access_check.ensures c.in_err-access_check.was

pub returns : goal.returns
returns c =
    of_block c.args.row c.args.attribute _ _ _ _ c.access_check.ensures c.in_ok-access_check.was c.block_check.ensures
