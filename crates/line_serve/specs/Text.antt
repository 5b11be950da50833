-- The line that a request line prints.
use Rattle.std.specs.Prelude.{ℕ, List}
use Rattle.card_build.specs.declared.card.Card.{Card}
use Rattle.line_answer.specs.Answer.{answer_text}
use Rattle.line_serve.specs.Line.{line_served}

-- a line of 32,768 bytes spells no more bytes of list and data than this
abbrev pub most_spelled : ℕ
most_spelled = 16384

-- RULES 11.10
unfoldable pub request_text : Card → List ℕ → ℕ → List ℕ → ℕ → List ℕ
request_text card arena room line ordinal =
    answer_text ordinal (line_served card arena room line).reply (line_served card arena room line).read
