-- `inspect_line::line` meets its contract, by what the line is taken for. Assumes nothing.
use Rattle.std.proofs.Common.{Some}
use borrow.Author.Rules.{rules}
use native.Mathlib.Omega.{arith}
use mathlib.Core.Path.{◌≡◌, refl, sym, ap, ◌∙◌}
use Rattle.text_stream.proofs.Prints.{written_none}
use Rattle.inspect_sort.specs.declared.Sort.{Sort}
use Rattle.inspect_sort.specs.Sort.{sort_of}
use Rattle.inspect_sort.proofs.Asked.{asked_of_lem}
use Rattle.inspect_line.specs.Inspect.{line_seen, line_said, work_seen, bytes_seen}
use Rattle.inspect_line.proofs.line.Goals as goal

pub question_line-requires : goal.question_line-requires
question_line-requires c =
    let a = c.args in
    (asked_of_lem a.inspect.replay.phase a.line.now (sym c.sort_of.ensures ∙ c.in-Some-Asked.is ∙ ap (λ (k : Sort). Some k) c.in-Some-Asked.field-0-is), search rules)

pub returns-in-Some-Replayed : goal.returns-in-Some-Replayed
unfolding line_seen line_said work_seen bytes_seen
returns-in-Some-Replayed c =
    rw (sym c.sort_of.ensures ∙ c.in-Some-Replayed.is ∙ ap (λ (k : Sort). Some k) c.in-Some-Replayed.field-0-is) (record { arena_after = c.replayed_line.ensures.arena_after; written = c.replayed_line.ensures.written; work_after = c.replayed_line.ensures.work_after; bytes_after = c.replayed_line.ensures.bytes_after })

pub returns-in-Some-Asked : goal.returns-in-Some-Asked
unfolding line_seen line_said work_seen bytes_seen
returns-in-Some-Asked c =
    rw (sym c.sort_of.ensures ∙ c.in-Some-Asked.is ∙ ap (λ (k : Sort). Some k) c.in-Some-Asked.field-0-is)
    (record { arena_after = c.question_line.ensures.arena_value; written = c.question_line.ensures.written; work_after = refl; bytes_after = refl })

pub returns-in-None : goal.returns-in-None
unfolding line_seen line_said work_seen bytes_seen
returns-in-None c =
    let a = c.args in
    rw (sym c.sort_of.ensures ∙ c.in-None.is)
    (record { arena_after = refl; written = (written_none a.out.now a.at, omega arith); work_after = refl; bytes_after = refl })
