-- The reply got lost: the statement. A write that was accepted is sent again, with no other accepted write between.
use Rattle.std.specs.Prelude.{ℕ, ◌*◌, ◌≤◌, ◌<◌, true, List, [], ◌∷◌, ◌≡◌, length, Some}
use Rattle.byte_parts.specs.Sizes.{block_size}
use Rattle.service_code.specs.declared.code.ServiceKind.{ServiceKind}
use Rattle.service_code.specs.declared.code.ServiceKind.TheVariants.{Cyclic, Purse}
use Rattle.service_code.specs.Code.{number_of, code_kind_of}
use Rattle.card_build.specs.declared.card.Card.{Card}
use Rattle.request_plan.specs.declared.Reply.TheVariants.{Done}
use Rattle.request_plan.specs.Request.{Request}
use Rattle.request_plan.specs.Plan.{elements_in}
use Rattle.request_plan.specs.Serve.{serve}
use Rattle.law_terminals.specs.Two.{arena_after}
use Rattle.law_terminals.specs.Last.{element_at, code_named, arena_then}

-- element i of a request, of a service of that kind, names block b of the service number n
pub record NamesOfKind (kind : ServiceKind) (n b : ℕ) (r : Request) (i : ℕ) : Type 0 where
  pub listed : i < length (elements_in r)
  pub kinded : code_kind_of (code_named r i) ≡ Some kind
  pub number : number_of (code_named r i) ≡ n
  pub block : (element_at r i).number ≡ b

-- no two elements of purse kind name the same block of the same service number, by whichever codes
abbrev pub PursesOnce : Request → Type 0
PursesOnce r = (n b i j : ℕ) → i < j → NamesOfKind Purse n b r i → NamesOfKind Purse n b r j → ⊥

-- the elements of each cyclic number are one run: whatever stands between two of them is of that number
abbrev pub RingsOnce : Request → Type 0
RingsOnce r = (n b d i k j : ℕ) → i < k → k < j → NamesOfKind Cyclic n b r i → NamesOfKind Cyclic n d r j → number_of (code_named r k) ≡ n

-- on an arena, the request is a write, and is accepted
abbrev pub AcceptedWrite : Card → List ℕ → Request → Type 0
AcceptedWrite c a r = (r.write ≡ true) × ((serve c a r).reply ≡ Done)

-- From an arena on, no write of the list is accepted: each request is a read, as that of a board is, or a write that fails or is refused.
abbrev pub Idle : Card → List ℕ → List Request → Type 0
Idle c a [] = Unit {0}
Idle c a (r ∷ rs) = (AcceptedWrite c a r → ⊥) × Idle c (arena_after c a r) rs

-- so from the arena that a write leaves
abbrev pub IdleThen : Card → List ℕ → Request → List Request → Type 0
IdleThen c a w rs = Idle c (arena_after c a w) rs

-- staging of so many bytes is long enough: it has room for all stores
abbrev pub Enough : Card → ℕ → Type 0
Enough c room = block_size * c.used ≤ room

-- the same request, with so many bytes lent to it
abbrev pub lending : ℕ → Request → Request
lending room r = record {
  write = r.write;
  «open» = r.«open»;
  codes = r.codes;
  count = r.count;
  list = r.list;
  «data» = r.«data»;
  room = room;
}

-- what the same request comes to when it is sent again, with staging of so many bytes, after the requests that came between
pub record Harmless (c : Card) (a : List ℕ) (w : Request) (rs : List Request) (room : ℕ) : Type 0 where
  -- it is accepted
  pub done : (serve c (arena_then c a w rs) (lending room w)).reply ≡ Done
  -- it changes no stored byte
  pub unchanged : arena_after c (arena_then c a w rs) (lending room w) ≡ arena_then c a w rs
  -- nor did what came between: the arena is as the first one left it
  pub kept : arena_then c a w rs ≡ arena_after c a w

-- At the card c, whatever bytes the arena holds: an accepted write in which no purse block is named twice, by whichever service, and each
-- cyclic number forms a single run does no harm when it is sent again, if no write between was accepted and its staging is long enough.
-- RULES 16.6
abbrev pub Resent : Card → Type 0
Resent c =
    (a : List ℕ) (w : Request) (rs : List Request) (room : ℕ)
    → AcceptedWrite c a w
    → PursesOnce w
    → RingsOnce w
    → IdleThen c a w rs
    → Enough c room
    → Harmless c a w rs room
