-- `inspect_answer::put_fields` meets its contract: question by question. Assumes nothing.
use Rattle.std.proofs.Common.{Some}
use borrow.Author.Rules.{rules}
use native.Mathlib.Omega.{arith}
use mathlib.Core.Path.{◌∙◌, ap}
use Rattle.inspect_ask.specs.declared.Asked.TheVariants as asks
use Rattle.inspect_ask.specs.declared.Question.TheVariants.{Of}
use Rattle.inspect_ask.proofs.Asking.{asked_wants, asked_short}
use Rattle.inspect_answer.proofs.put_fields.Goals as goal

pub put_info-requires : goal.put_info-requires
put_info-requires c =
    let l = c.args.line.now in
    let e = c.requires.0 ∙ ap (λ q. Some (Of q)) c.in-Info.is in
    record { line_value = (asked_wants l asks.Info e, asked_short l asks.Info e); room_bound = (c.requires.1, c.requires.2) }

pub put_read-requires : goal.put_read-requires
put_read-requires c =
    let l = c.args.line.now in
    let e = c.requires.0 ∙ ap (λ q. Some (Of q)) c.in-ReadList.is in
    (asked_wants l asks.ReadList e, asked_short l asks.ReadList e, c.requires.2)

pub put_read-requires-in-ReadInfo : goal.put_read-requires-in-ReadInfo
put_read-requires-in-ReadInfo c =
    let l = c.args.line.now in
    let e = c.requires.0 ∙ ap (λ q. Some (Of q)) c.in-ReadInfo.is in
    (asked_wants l asks.ReadInfo e, asked_short l asks.ReadInfo e, c.requires.2)

pub put_well_formed-requires : goal.put_well_formed-requires
put_well_formed-requires c =
    let l = c.args.line.now in
    let e = c.requires.0 ∙ ap (λ q. Some (Of q)) c.in-Areas.is in
    (asked_wants l asks.Areas e, asked_short l asks.Areas e, c.requires.2)

pub put_well_formed-requires-in-Services : goal.put_well_formed-requires-in-Services
put_well_formed-requires-in-Services c =
    let l = c.args.line.now in
    let e = c.requires.0 ∙ ap (λ q. Some (Of q)) c.in-Services.is in
    (asked_wants l asks.Services e, asked_short l asks.Services e, c.requires.2)
