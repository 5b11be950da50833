-- Bytes of another length than a card's stay as they were.
use borrow.Author.Tests.{ne_eqb}
use borrow.Author.Rules.{rules}
use Rattle.handset_bytes.specs.Layout.{card_size}
use Rattle.handset_bytes.specs.Card.{card_put}
use Rattle.handset.proofs.build.uluvoli_new.Goals as goal

pub returns-then-card-ne-SIZE-clause-card_after : goal.returns-then-card-ne-SIZE-clause-card_after
unfolding card_put
returns-then-card-ne-SIZE-clause-card_after c = rw (ne_eqb _ card_size c.if-card-ne-SIZE.true)
