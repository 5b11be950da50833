-- The tower reads what the marshal wrote last: the statement.
use Rattle.std.specs.Prelude.{ℕ, ◌*◌, ◌<◌, true, false, List, [], ◌∷◌, ◌≡◌, length, get_or, Some}
use Rattle.byte_parts.specs.Sizes.{block_size}
use Rattle.service_code.specs.declared.code.ServiceKind.TheVariants.{Random}
use Rattle.service_code.specs.Code.{number_of, code_kind_of}
use Rattle.byte_parts.specs.Part.{part}
use Rattle.block_list.specs.declared.element.BlockListElement.{BlockListElement}
use Rattle.card_build.specs.declared.card.Card.{Card}
use Rattle.request_plan.specs.declared.Reply.TheVariants.{Done}
use Rattle.request_plan.specs.Request.{Request}
use Rattle.request_plan.specs.Plan.{elements_in}
use Rattle.request_plan.specs.Serve.{serve, output_after}
use Rattle.law_terminals.specs.Orders.{after}
use Rattle.law_terminals.specs.Two.{answer_of, arena_after}

-- element i of a request's list, counted from 0
abbrev pub element_at : Request → ℕ → BlockListElement
element_at r i = get_or (elements_in r) i (record { number = 0; index = 0; mode = 0 })

-- the service code that it names, by its place among the request's codes
abbrev pub code_named : Request → ℕ → ℕ
code_named r i = get_or r.codes (element_at r i).index 0

-- element i names block b of the service number n
pub record NamesBlock (n b : ℕ) (r : Request) (i : ℕ) : Type 0 where
  pub listed : i < length (elements_in r)
  pub number : number_of (code_named r i) ≡ n
  pub block : (element_at r i).number ≡ b

-- The last element for block b of number n brings the bytes d.
pub record LastBrings (n b : ℕ) (d : List ℕ) (r : Request) : Type 0 where
  -- the place of that element in the list
  pub place : ℕ
  pub names : NamesBlock n b r place
  -- no later element names the block
  pub last : (j : ℕ) → place < j → NamesBlock n b r j → ⊥
  -- its service is of the random kind
  pub random : code_kind_of (code_named r place) ≡ Some Random
  -- of the data its own sixteen bytes are d
  pub bytes : part r.«data» (block_size * place) 16 ≡ d

-- From an arena on, no accepted write of the list has an element that names block b of number n. Reads may name it, and writes that
-- fail or are refused; accepted writes may name other blocks of the number.
abbrev pub Quiet : Card → ℕ → ℕ → List ℕ → List Request → Type 0
Quiet c n b a [] = Unit {0}
Quiet c n b a (r ∷ rs) =
    (r.write ≡ true → (serve c a r).reply ≡ Done → (i : ℕ) → NamesBlock n b r i → ⊥)
    × Quiet c n b (arena_after c a r) rs

-- the arena after a write and the requests that follow it
abbrev pub arena_then : Card → List ℕ → Request → List Request → List ℕ
arena_then c a w rs = after (answer_of c) (arena_after c) (arena_after c a w) rs

-- A write, requests after it, and a read.
pub record Redrawn (c : Card) (n b : ℕ) (d a : List ℕ) (w : Request) (rs : List Request) (q : Request) : Type 0 where
  -- the marshal's write is accepted
  pub write : w.write ≡ true
  pub written : (serve c a w).reply ≡ Done
  -- its last element for block b of the random store of number n brings the bytes d
  pub brings : LastBrings n b d w
  -- of the requests after it no accepted write names that block
  pub quiet : Quiet c n b (arena_after c a w) rs
  -- the tower's read is accepted
  pub read : q.write ≡ false
  pub answered : (serve c (arena_then c a w rs) q).reply ≡ Done

-- At the card c: for each element of the read that names block b of number n, through whatever service, the sixteen bytes at its
-- place of the output are d. `out` is the output that the read is lent.
-- RULES 16.2
abbrev pub TowerReads : Card → Type 0
TowerReads c =
    (n b : ℕ) (d a : List ℕ) (w : Request) (rs : List Request) (q : Request)
    → Redrawn c n b d a w rs q
    → (j : ℕ) → NamesBlock n b q j
    → (out : List ℕ) → length out ≡ q.room
    → part (output_after out (serve c (arena_then c a w rs) q)) (block_size * j) 16 ≡ d
