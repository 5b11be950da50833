-- Two terminals at one card: the statement. Every request is one of `serve`, the definition that `read` and `write` promise.
use Rattle.std.specs.Prelude.{ℕ, ◌*◌, true, List, [], ◌∷◌, ◌⊎◌, ◌≡◌, length}
use Rattle.byte_parts.specs.Sizes.{block_size}
use Rattle.service_code.specs.Code.{number_of}
use Rattle.byte_parts.specs.Part.{put}
use Rattle.card_nodes.specs.declared.node.Node.{Node}
use Rattle.card_nodes.specs.Node.{is_service}
use Rattle.card_build.specs.declared.card.Card.{Card}
use Rattle.card_build.specs.Card.{nodes_of}
use Rattle.request_plan.specs.declared.Reply.{Reply}
use Rattle.request_plan.specs.Request.{Request}
use Rattle.request_plan.specs.Serve.{serve, staging_by}
use Rattle.law_terminals.specs.Orders.{Marked, one, two, only, Undisturbed}

-- what the caller of a request is told: the reply and the bytes read
pub record Answer : Type 0 where
  pub reply : Reply
  pub read : List ℕ

abbrev pub answer_of : Card → List ℕ → Request → Answer
answer_of c a r = record {
  reply = (serve c a r).reply;
  read = (serve c a r).read;
}

-- What becomes of the output, and of the staging, that the caller lends: it follows from the answer and from what they were.
-- Their lengths are part of the request.
abbrev pub output_of : Answer → List ℕ → List ℕ
output_of x out = put out 0 (length x.read) x.read

abbrev pub staging_of : Card → Answer → List ℕ → List ℕ
staging_of c x staging = staging_by x.reply (block_size * c.used) staging

-- the arena that the next request finds; it finds the same card, since no request makes another
abbrev pub arena_after : Card → List ℕ → Request → List ℕ
arena_after c a r = (serve c a r).arena

-- at least one of a list
abbrev pub Any : {X : Type 0} → (X → Type 0) → List X → Type 0
Any F [] = ⊥
Any F (x ∷ xs) = F x ⊎ Any F xs

-- every one of a list
abbrev pub All : {X : Type 0} → (X → Type 0) → List X → Type 0
All F [] = Unit {0}
All F (x ∷ xs) = F x × All F xs

-- the request's codes name the service number k
abbrev pub Names : ℕ → Request → Type 0
Names k r = Any (λ code. number_of code ≡ k) r.codes

-- the card has a service of the number k
abbrev pub HasNumber : Card → ℕ → Type 0
HasNumber c k = Any (λ (node : Node). (is_service node.entry ≡ true) × (number_of node.code ≡ k)) (nodes_of c)

-- No number of a service of the card is named by requests of both lists. Both may name FFFF, an area's code or an unknown one.
abbrev pub NoneShared : Card → List Request → List Request → Type 0
NoneShared c rs qs = (k : ℕ) → HasNumber c k → Any (Names k) rs → Any (Names k) qs → ⊥

-- Two terminals at the card c. Given
--   any arena, long enough or not, whatever bytes it holds;
--   any order of requests, reads and writes, open and in a session, accepted, failing or refused;
--   such that no number of a service of the card is named by the codes of both terminals' requests:
-- each terminal is told what it is told alone, and the arena ends as after one list and then the other, in either order.
-- RULES 16.1
abbrev pub TwoTerminals : Card → Type 0
TwoTerminals c =
    (arena : List ℕ) (order : List (Marked Request))
    → NoneShared c (only one order) (only two order)
    → Undisturbed (answer_of c) (arena_after c) arena order
