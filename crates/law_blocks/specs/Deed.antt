-- What a call or a line does that can change a block of a store: it makes a request, or it sets a block. And which block it names for that,
-- and what it brings.
use Rattle.std.specs.Prelude.{ℕ, true, List, ◌≡◌, length, Some, Ok}
use Rattle.service_code.specs.declared.code.ServiceKind.TheVariants.{Random}
use Rattle.service_code.specs.Code.{number_of, code_kind_of}
use Rattle.card_build.specs.declared.card.Card.{Card}
use Rattle.request_plan.specs.declared.Reply.TheVariants.{Done}
use Rattle.request_plan.specs.Request.{Request}
use Rattle.request_plan.specs.Serve.{serve}
use Rattle.request_block.specs.Block.{block_judged}
use Rattle.law_terminals.specs.Last.{NamesBlock, LastBrings}

pub data Deed : Type 0 where
  requested : Request → Deed
  block_set : (code number : ℕ) (bytes : List ℕ) → Deed
  neither : Deed

-- the request is accepted; the block is there
abbrev pub DeedDone : Card → List ℕ → Deed → Type 0
DeedDone c a (requested r) = (serve c a r).reply ≡ Done
DeedDone c a (block_set code number bytes) = block_judged c (length a) code number ≡ Ok tt
DeedDone c a neither = Unit {0}

-- block k of number n is named for writing: by an element of a write, or by code and number
abbrev pub DeedNames : ℕ → ℕ → Deed → Type 0
DeedNames n k (requested r) = (r.write ≡ true) × (i : ℕ) × NamesBlock n k r i
DeedNames n k (block_set code number bytes) = (number_of code ≡ n) × (number ≡ k)
DeedNames n k neither = ⊥

-- the bytes d are brought to it, and it is one of a random store: by the last element of a write that names it, or as they are set
abbrev pub DeedBrings : ℕ → ℕ → List ℕ → Deed → Type 0
DeedBrings n k d (requested r) = (r.write ≡ true) × LastBrings n k d r
DeedBrings n k d (block_set code number bytes) =
    (number_of code ≡ n) × (number ≡ k) × (code_kind_of code ≡ Some Random) × (length bytes ≡ 16) × (bytes ≡ d)
DeedBrings n k d neither = ⊥
