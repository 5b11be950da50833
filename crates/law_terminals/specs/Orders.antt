-- Two terminals at one server, whatever its states, requests and answers are.
-- An order is any list of requests, each marked with the terminal that sent it. One terminal's own list is what it sent, in its own
-- order; so every order in which the requests of two lists can arrive is such a list, and every such list is one (proofs/Orders).
use Rattle.std.specs.Prelude.{List, [], ◌∷◌, ◌≡◌}

pub data Terminal : Type 0 where
  one two : Terminal

-- a request, or an answer, and whose it is: `by one r`, `by two r`
pub data Marked (X : Type 0) : Type 0 where
  by : Terminal → X → Marked X

-- one terminal's own, in its own order
unfoldable pub only : {X : Type 0} → Terminal → List (Marked X) → List X
only t [] = []
only one (by one x ∷ zs) = x ∷ only one zs
only one (by two x ∷ zs) = only one zs
only two (by one x ∷ zs) = only two zs
only two (by two x ∷ zs) = x ∷ only two zs

-- both terminals', as they come
unfoldable pub all : {X : Type 0} → List (Marked X) → List X
all [] = []
all (by t x ∷ zs) = x ∷ all zs

module _ {S R A : Type 0} (answer : S → R → A) (next : S → R → S) where
  -- the state after a list of requests
  unfoldable pub after : S → List R → S
  after s [] = s
  after s (r ∷ rs) = after (next s r) rs

  -- what the requests of one list are answered, run alone
  unfoldable pub answers : S → List R → List A
  answers s [] = []
  answers s (r ∷ rs) = answer s r ∷ answers (next s r) rs

  -- what the requests of an order are answered, each answer marked with the terminal that is told it
  unfoldable pub told : S → List (Marked R) → List (Marked A)
  told s [] = []
  told s (by t r ∷ zs) = by t (answer s r) ∷ told (next s r) zs

  -- what is promised of an order
  pub record Undisturbed (s : S) (zs : List (Marked R)) : Type 0 where
    -- terminal one is told, request for request, what its own list is told alone from the same state
    pub told-one : only one (told s zs) ≡ answers s (only one zs)
    -- so is terminal two
    pub told-two : only two (told s zs) ≡ answers s (only two zs)
    -- the state ends as after all of one's requests and then all of two's
    pub one-first : after s (all zs) ≡ after (after s (only one zs)) (only two zs)
    -- and as after all of two's and then all of one's
    pub two-first : after s (all zs) ≡ after (after s (only two zs)) (only one zs)
