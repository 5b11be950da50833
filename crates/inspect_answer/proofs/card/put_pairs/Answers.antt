-- `card::put_pairs` meets its contract: what was written, or the refusal. Assumes nothing.
use borrow.Author.Rules.{rules}
use native.Mathlib.Omega.{arith}
use Prim.Native.Nat.{ℕ, ◌*◌}
use mathlib.Core.Path.{◌≡◌, sym, ◌∙◌}
use lib.ListN.{length}
use Rattle.card_build.specs.Card.{nodes_of}
use Rattle.card_questions.specs.Directory.{directory_of, directory_answer}
use Rattle.inspect_answer.specs.Fields.{directory_fields}
use Rattle.inspect_answer.proofs.Listings.{Stands, directory_stands}
use Rattle.inspect_answer.proofs.card.put_pairs.Goals as goal

pub overflow_mul-n : goal.overflow_mul-n
overflow_mul-n c =
    let t : Stands (directory_of (nodes_of c.args.card)) c.directory.new.out (length c.args.pairs.now) (2 * c.in-Ok.n) =
    rw c.directory.ensures.out_after (directory_stands c.args.card c.args.pairs.now (sym c.directory.ensures.value ∙ c.in-Ok.is)) in
    omega (arith, t.most, c.requires.0)

pub slice_bounds-put_numbers-end : goal.slice_bounds-put_numbers-end
slice_bounds-put_numbers-end c =
    let t : Stands (directory_of (nodes_of c.args.card)) c.directory.new.out (length c.args.pairs.now) (2 * c.in-Ok.n) =
    rw c.directory.ensures.out_after (directory_stands c.args.card c.args.pairs.now (sym c.directory.ensures.value ∙ c.in-Ok.is)) in
    omega (arith, t.most, c.directory.auto.out)

pub put_numbers-requires : goal.put_numbers-requires
put_numbers-requires c =
    let t : Stands (directory_of (nodes_of c.args.card)) c.directory.new.out (length c.args.pairs.now) (2 * c.in-Ok.n) =
    rw c.directory.ensures.out_after (directory_stands c.args.card c.args.pairs.now (sym c.directory.ensures.value ∙ c.in-Ok.is)) in
    rw t.front (omega (arith, t.long, c.requires.0, c.requires.1))

pub returns-in-Ok-clause-written : goal.returns-in-Ok-clause-written
unfolding directory_fields
returns-in-Ok-clause-written c =
    let t : Stands (directory_of (nodes_of c.args.card)) c.directory.new.out (length c.args.pairs.now) (2 * c.in-Ok.n) =
    rw c.directory.ensures.out_after (directory_stands c.args.card c.args.pairs.now (sym c.directory.ensures.value ∙ c.in-Ok.is)) in
    rw (sym c.directory.ensures.value ∙ c.in-Ok.is) (rw t.front at c.put_numbers.ensures.written)

pub returns-in-Err-clause-written : goal.returns-in-Err-clause-written
unfolding directory_fields
returns-in-Err-clause-written c =
    rw (sym c.directory.ensures.value ∙ c.in-Err.is) (c.put_refusal.ensures.written)
