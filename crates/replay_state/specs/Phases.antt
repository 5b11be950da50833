-- Where a replay is between two lines, how it starts, counts and ends, and when it stops reading.
use Rattle.std.specs.Prelude.{ℕ, ◌+◌, Bool, true, false, cond, List, [], ◌∷◌, ◌++◌, ltb}
use Rattle.byte_parts.specs.Letters.{lf, tab, a, e, g, i, m}
use Rattle.answers.specs.declared.refusal.Refusal.{Refusal}
use Rattle.answers.specs.declared.refusal.Refusal.TheVariants.{MalformedImage}
use Rattle.answers.specs.Refusal.{refusal_number}
use Rattle.text_numbers.specs.Decimal.{dec_text}
use Rattle.text_print.specs.Print.{closed}
use Rattle.card_build.specs.Card.{system_of, new_card}
use Rattle.replay_state.specs.declared.Phase.{Phase}
use Rattle.replay_state.specs.declared.Phase.TheVariants.{First, Image, Requests, Ended}
use Rattle.replay_state.specs.declared.Replay.{Replay}

-- ahead of line 1 there is no card yet; an empty one stands in its place
abbrev pub replay_start : Replay
replay_start = record { card = new_card (system_of 0 0 false); phase = First; lines = 0; asked = 0 }

-- line numbers and ordinals count from 1, as far as 64 bits hold
unfoldable pub one_more : ℕ → ℕ
one_more n = cond (ltb n 18446744073709551615) (n + 1) n

-- `image` (105 109 97 103 101), line number, refusal number
unfoldable pub refusal_text : ℕ → Refusal → List ℕ
refusal_text line refusal =
    closed tab (i ∷ m ∷ a ∷ g ∷ e ∷ []) ++ closed tab (dec_text line) ++ closed lf (dec_text (refusal_number refusal))

-- the end of a text: empty input is refused at line 1
-- RULES 11.11
abbrev pub finish_text : Phase → List ℕ
finish_text First = refusal_text 1 MalformedImage
finish_text Image = []
finish_text Requests = []
finish_text Ended = []

-- a refused image line ends the run
-- RULES 11.11
abbrev pub stops_in : Phase → Bool
stops_in First = false
stops_in Image = false
stops_in Requests = false
stops_in Ended = true
