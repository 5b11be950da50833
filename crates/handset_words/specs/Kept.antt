-- The card's bytes after an addition: those of the card that it gives, or as they were.
use Rattle.std.specs.Prelude.{ℕ, List, Result, Ok, Err}
use Rattle.card_build.specs.declared.card.Added.{Added}
use Rattle.handset_bytes.specs.Card.{card_put}
use Rattle.answers.specs.declared.refusal.Refusal.{Refusal}

abbrev pub card_by : List ℕ → Added → Result Unit Refusal → List ℕ
card_by s a (Ok tt) = card_put a.card s
card_by s a (Err r) = s

abbrev pub card_after : List ℕ → Added → List ℕ
card_after s a = card_by s a a.answer
