-- One system on two cards, and two systems on one card: the statements. A system is its nodes; on one card they are as they are, on the
-- other each store lies k blocks later (`moved`). What else a card holds shows only in its blocks in use.
use Rattle.std.specs.Prelude.{ℕ, Bool, true, List, ◌≡◌, length, get_or, take, drop}
use Rattle.card_nodes.specs.declared.node.Node.{Node}
use Rattle.card_build.specs.declared.card.System.{System}
use Rattle.card_build.specs.Card.{nodes_of}
use Rattle.card_moved.specs.Moved.{moved, StoresWithin}
use Rattle.card_moved.specs.Own.{OwnCard}
use Rattle.card_moved.specs.Two.{sound_two}
use Rattle.request_plan.specs.Request.{Request}
use Rattle.request_plan.specs.Serve.{serve}
use Rattle.law_terminals.specs.Two.{All}
use Rattle.law_systems.specs.On.{serve_on, told_on, left_on}
use Rattle.law_systems.specs.Alike.{Stored, StoresAlike, SameButLent, LentEnough}

-- Any nodes, whose stores lie among `blocks` blocks in use on one card and, moved by k, among `used` on another; any request; cards that
-- are both sound or both not; arenas of any lengths that hold the stores alike: it is answered the same on both, but for 4 and 7.
abbrev pub ServedMoved : Type 0
ServedMoved =
    (ns : List Node) (k used blocks : ℕ)
    → StoresWithin (moved k ns) used → StoresWithin ns blocks → (sound : Bool) (a b : List ℕ) (r : Request)
    → StoresAlike k ns a b
    → SameButLent k ns (serve_on sound (moved k ns) used a r) (serve_on sound ns blocks b r)

-- Any list of requests, each lent enough on both cards: all callers are told the same, and the stores are alike after it.
abbrev pub AnsweredMoved : Type 0
AnsweredMoved =
    (ns : List Node) (k used blocks : ℕ)
    → StoresWithin (moved k ns) used → StoresWithin ns blocks → (sound : Bool) (a b : List ℕ) (rs : List Request)
    → All (LentEnough used (length a)) rs → All (LentEnough blocks (length b)) rs
    → StoresAlike k ns a b
    → (told_on sound (moved k ns) used a rs ≡ told_on sound ns blocks b rs)
    × StoresAlike k ns (left_on sound (moved k ns) used a rs) (left_on sound ns blocks b rs)

-- A request to a system leaves every byte of the arena that is of none of its stores.
abbrev pub OthersSpared : Type 0
OthersSpared =
    (sound : Bool) (ns : List Node) (used : ℕ) (a : List ℕ) (r : Request) (i : ℕ)
    → (Stored ns i → ⊥)
    → get_or a i 0 ≡ get_or (serve_on sound ns used a r).arena i 0

-- Two systems, the second's stores begun where the first's end: no byte is of a store of both.
abbrev pub SystemsApart : Type 0
SystemsApart =
    (one two : System) (k w : ℕ) (ns ms : List Node)
    → OwnCard one 0 k ns
    → OwnCard two k w ms
    → (i : ℕ) → Stored ns i → Stored ms i → ⊥

-- Two systems on one card with `used` blocks in use: each has a card of its own and is served as that card is, but for 4 and 7; a request
-- to one leaves every byte of the other's stores.
pub record TwoServed (one two : System) (ns ms : List Node) (used : ℕ) : Type 0 where
  -- the block where the first's stores end and the second's begin
  pub begun : ℕ
  pub first : OwnCard one 0 begun ns
  pub second : OwnCard two begun used ms
  pub first-served : (a b : List ℕ) (r : Request) → StoresAlike 0 (nodes_of first.card) a b →
      SameButLent 0 (nodes_of first.card) (serve_on true ns used a r) (serve first.card b r)
  pub second-served : (a b : List ℕ) (r : Request) → StoresAlike begun (nodes_of second.card) a b →
      SameButLent begun (nodes_of second.card) (serve_on true ms used a r) (serve second.card b r)
  pub first-left : (a : List ℕ) (r : Request) (i : ℕ) → Stored ns i → get_or a i 0 ≡ get_or (serve_on true ms used a r).arena i 0
  pub second-left : (a : List ℕ) (r : Request) (i : ℕ) → Stored ms i → get_or a i 0 ≡ get_or (serve_on true ns used a r).arena i 0

-- So are the two systems of any records that refusal 8 of two systems passes.
abbrev pub SystemsServed : Type 0
SystemsServed =
    (one two : System) (nodes : List Node) (at count used : ℕ)
    → sound_two nodes at count used ≡ true
    → TwoServed one two (take at nodes) (drop at (take count nodes)) used
