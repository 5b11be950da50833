-- What a writer makes of a message, given as its bytes.
use Rattle.std.specs.Prelude.{ℕ, List, cond, ltb, length, Result, Ok, Err}
use Rattle.byte_parts.specs.Part.{put}
use Rattle.answers.specs.declared.refusal.Refusal.TheVariants.{ShortOutput}
use Rattle.answers.specs.declared.refusal.Refusal.{Refusal}

-- its length, or 5 where the output is shorter
-- RULES 18.5
unfoldable pub message_put : List ℕ → ℕ → Result ℕ Refusal
message_put message room = cond (ltb room (length message)) (Err ShortOutput) (Ok (length message))

-- the output after it: beyond the message, and after a refusal, as it was
-- RULES 18.5
unfoldable pub message_after : List ℕ → List ℕ → List ℕ
message_after message out = cond (ltb (length out) (length message)) out (put out 0 (length message) message)
