-- Which places of a card's bytes are part of the card.
use Rattle.std.specs.Prelude.{ℕ, ◌+◌, List, [], ◌∷◌, Bool, false, ◌&&◌, ◌||◌, leb, ltb, length}
use Rattle.handset_bytes.specs.Field.{Field}
use Rattle.handset_bytes.specs.Card.{card_fields, card_in}

-- whether one of the fields lies over a place
unfoldable pub is_covered : List Field → ℕ → Bool
is_covered [] p = false
is_covered (f ∷ fs) p = (leb f.place p && ltb p (f.place + length f.bytes)) || is_covered fs p

-- a place is part of the card that bytes read as where one of its fields lies: any other is written as zero and never read
-- RULES 15.1
unfoldable pub is_used : List ℕ → ℕ → Bool
is_used s p = is_covered (card_fields (card_in s)) p
