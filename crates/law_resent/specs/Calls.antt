-- The same of calls and of request lines, which make requests: the statements.
use Rattle.std.specs.Prelude.{ℕ, true, List, ◌∷◌, map, ◌≡◌, length}
use Rattle.card_build.specs.declared.card.Card.{Card}
use Rattle.request_plan.specs.declared.Reply.TheVariants.{Done as Accepted}
use Rattle.request_plan.specs.Request.{Request}
use Rattle.line_serve.specs.Line.{line_served}
use Rattle.line_serve.specs.Text.{request_text}
use Rattle.law_terminals.specs.Two.{Answer, answer_of, arena_after, All}
use Rattle.law_terminals.specs.Last.{arena_then}
use Rattle.law_terminals.specs.Runs.{Exchange, Leaves, RanAlong}
use Rattle.law_calls.specs.Lines.{LineCall, line_request}
use Rattle.law_resend.specs.Resend.{PursesOnce, RingsOnce, IdleThen, Enough, lending}

-- `ask` says what request a call makes, `leave` what an answer leaves its caller; `Done x`: by what it was left the caller sees that its
-- request was accepted.
module _ {K L : Type 0} (ask : K → Request) (Done : L → Type 0) where
  -- a call that makes a write, of which its caller sees that it was accepted
  abbrev pub SeenWrite : Exchange K L → Type 0
  SeenWrite x = ((ask x.call).write ≡ true) × Done x.left

  -- calls of which none is one
  abbrev pub NoneSeen : List (Exchange K L) → Type 0
  NoneSeen xs = All (λ x. SeenWrite x → ⊥) xs

module _ (c : Card) {K L : Type 0} (ask : K → Request) (leave : K → Answer → L) (Done : L → Type 0) where
  -- A call x, and calls after it, run from the arena a to the arena m; and the call y on m, which leaves e. x and y make the same request,
  -- a write in which no purse block is named twice and each cyclic number forms a single run.
  pub record SentTwice
      (a : List ℕ) (x : Exchange K L) (xs : List (Exchange K L)) (m : List ℕ) (y : Exchange K L) (e : List ℕ) : Type 0 where
    pub ran : RanAlong c ask leave a (x ∷ xs) m
    pub asked : Leaves c ask leave m y.call y.left e
    -- but for the length of the staging, which is long enough
    pub repeats : ask y.call ≡ lending (ask y.call).room (ask x.call)
    pub suffices : Enough c (ask y.call).room
    -- the first is accepted
    pub seen : SeenWrite ask Done x
    pub purses-once : PursesOnce (ask x.call)
    pub rings-once : RingsOnce (ask x.call)
    -- of the calls between no write is accepted
    pub between : NoneSeen ask Done xs

  -- The second is left what the first one's answer leaves, and its caller sees that it was accepted.
  pub record AsFirst (a : List ℕ) (x : Exchange K L) (m : List ℕ) (y : Exchange K L) (e : List ℕ) : Type 0 where
    pub left : y.left ≡ leave y.call (answer_of c a (ask x.call))
    pub accepted : Done y.left
    -- no stored byte is changed, by it or by what came between
    pub unchanged : e ≡ m
    pub kept : m ≡ arena_after c a (ask x.call)

  -- RULES 16.6
  abbrev pub ResentBy : Type 0
  ResentBy =
      (a : List ℕ) (x : Exchange K L) (xs : List (Exchange K L)) (m : List ℕ) (y : Exchange K L) (e : List ℕ)
      → SentTwice a x xs m y e
      → AsFirst a x m y e

-- A `W` line, with a buffer of so many bytes lent to it; lines between; and the same line with a buffer that is long enough.
-- RULES 16.6
abbrev pub LineResent : Card → Type 0
LineResent c =
    (a : List ℕ) (k : LineCall) (ks : List LineCall) (room : ℕ)
    → (line_request k).write ≡ true
    → (line_served c a (length k.work) k.line).reply ≡ Accepted
    → PursesOnce (line_request k)
    → RingsOnce (line_request k)
    → IdleThen c a (line_request k) (map line_request ks)
    → Enough c room
    → let b = arena_then c a (line_request k) (map line_request ks) in
    -- the second time no stored byte is changed
    ((line_served c b room k.line).arena ≡ b)
    -- and the line that is printed is, but for the ordinal, that of the first time
    × ((ordinal : ℕ) → request_text c b room k.line ordinal ≡ request_text c a (length k.work) k.line ordinal)
