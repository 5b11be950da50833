-- `inspect_answer::put_answer` meets its contract: the name, then the fields. Assumes nothing.
use borrow.Author.Rules.{rules}
use native.Mathlib.Omega.{arith}
use Prim.Native.Nat.{◌-◌}
use native.Mathlib.Nat.{sub-zero}
use mathlib.Core.Path.{◌≡◌}
use lib.ListN.{take}
use Rattle.text_stream.proofs.Prints.{written-more}
use Rattle.text_print.specs.Print.{closed}
use Rattle.inspect_answer.specs.Answer.{name_of, told_text}
use Rattle.inspect_answer.proofs.Fronts.{first_lent}
use Rattle.inspect_answer.proofs.Names.{asked_name, name_long}
use Rattle.inspect_answer.proofs.put_answer.Goals as goal

pub put_name-next-requires : goal.put_name-next-requires
put_name-next-requires c =
    let e = asked_name c.args.line.now c.args.asked c.requires.0 in
    (rw e (name_long c.args.asked), omega (arith, c.requires.1))

pub returns : goal.returns
unfolding told_text
returns c =
    let a = c.args in
    let e : take (c.least-n.result - 0) a.arena.now ≡ take a.lent a.arena.now = rw (sub-zero c.least-n.result, c.least-n.ensures) (first_lent a.lent a.arena.now) in
    (written-more (closed 9 (name_of a.asked)) _ (rw (asked_name a.line.now a.asked c.requires.0) at c.put_name-next.ensures.written) (rw (e, c.least-most.ensures) at c.put_fields.ensures.written), omega (arith, c.put_name-next.ensures.upper_bound, c.put_fields.ensures.upper_bound))
