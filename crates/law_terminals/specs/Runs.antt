-- Runs of calls, and both statements of them. A call makes a request, and its answer leaves the caller something. The program's own `read`
-- and `write`, the library's calls and request lines are calls of this kind: `ask` says what request a call makes, `leave` what the
-- answer leaves its caller.
use Rattle.std.specs.Prelude.{ℕ, ◌*◌, Bool, true, false, List, [], ◌∷◌, ◌++◌, map, ◌≡◌, length}
use Rattle.byte_parts.specs.Sizes.{block_size}
use Rattle.byte_parts.specs.Part.{part}
use Rattle.card_build.specs.declared.card.Card.{Card}
use Rattle.request_plan.specs.declared.Reply.{Reply}
use Rattle.request_plan.specs.Request.{Request, read_request, write_request}
use Rattle.law_terminals.specs.Orders.{Marked, one, two, only, all}
use Rattle.law_terminals.specs.Two.{Answer, answer_of, output_of, staging_of, arena_after, All, NoneShared}
use Rattle.law_terminals.specs.Last.{NamesBlock, LastBrings}

-- a call, and what it left its caller
pub record Exchange (K L : Type 0) : Type 0 where
  pub call : K
  pub left : L

abbrev pub calls_of : {K L : Type 0} → List (Exchange K L) → List K
calls_of {K} {L} xs = map (λ (x : Exchange K L). x.call) xs

module _ (c : Card) {K L : Type 0} (ask : K → Request) (leave : K → Answer → L) where
  -- the call k on the arena a leaves its caller x, and the arena b
  abbrev pub Leaves : List ℕ → K → L → List ℕ → Type 0
  Leaves a k x b = (x ≡ leave k (answer_of c a (ask k))) × (b ≡ arena_after c a (ask k))

  -- a run: calls one after another, each on the arena that the one before it left; the last leaves e
  abbrev pub RanAlong : List ℕ → List (Exchange K L) → List ℕ → Type 0
  RanAlong a [] e = e ≡ a
  RanAlong a (x ∷ xs) e = (b : List ℕ) × Leaves a x.call x.left b × RanAlong b xs e

  abbrev pub requests_of : List (Exchange K L) → List Request
  requests_of xs = map (λ (x : Exchange K L). ask x.call) xs

  -- what is promised of a run of both terminals' calls, as they came, from the arena a to the arena e
  pub record Apart (a : List ℕ) (zs : List (Marked (Exchange K L))) (e : List ℕ) : Type 0 where
    -- whenever the calls of one are run alone from a, they leave one what they left it here, call for call
    pub one-alone : (xs : List (Exchange K L)) (b : List ℕ) → RanAlong a xs b → calls_of xs ≡ calls_of (only one zs) → xs ≡ only one zs
    -- so with two
    pub two-alone : (xs : List (Exchange K L)) (b : List ℕ) → RanAlong a xs b → calls_of xs ≡ calls_of (only two zs) → xs ≡ only two zs
    -- whenever all calls of one are run and then all of two, they leave the same arena
    pub one-first : (xs : List (Exchange K L)) (b : List ℕ) → RanAlong a xs b → calls_of xs ≡ calls_of (only one zs ++ only two zs) → b ≡ e
    -- so with all of two and then all of one
    pub two-first : (xs : List (Exchange K L)) (b : List ℕ) → RanAlong a xs b → calls_of xs ≡ calls_of (only two zs ++ only one zs) → b ≡ e

  -- Any run of both terminals' calls, in whatever order they came, where no number of a service of the card is named by both.
  -- RULES 16.1
  abbrev pub TwoRuns : Type 0
  TwoRuns =
      (a : List ℕ) (zs : List (Marked (Exchange K L))) (e : List ℕ)
      → RanAlong a (all zs) e
      → NoneShared c (requests_of (only one zs)) (requests_of (only two zs))
      → Apart a zs e

  -- `Done x`: by what it was left the caller sees that its request was accepted
  module _ (Done : L → Type 0) where
    -- A write, calls after it that are run from the arena that it leaves, and a read on the arena m that these leave.
    pub record RedrawnBy (n b : ℕ) (d a : List ℕ) (w : Exchange K L) (xs : List (Exchange K L)) (m : List ℕ) (q : Exchange K L) (e : List ℕ) : Type 0 where
      pub ran : RanAlong a (w ∷ xs) m
      pub asked : Leaves m q.call q.left e
      -- the marshal's write is accepted, and its last element for block b of the random store of number n brings the bytes d
      pub write : (ask w.call).write ≡ true
      pub written : Done w.left
      pub brings : LastBrings n b d (ask w.call)
      -- of the calls after it no accepted write names that block
      pub quiet : All (λ x. (ask x.call).write ≡ true → Done x.left → (i : ℕ) → NamesBlock n b (ask x.call) i → ⊥) xs
      -- the tower's read is accepted
      pub read : (ask q.call).write ≡ false
      pub answered : Done q.left

    -- The read is left what an answer leaves: for each of its elements that names the block, the sixteen bytes at the element's place are d
    -- in the answer, and in an output of the length that the call lends.
    -- RULES 16.2
    abbrev pub TowerRuns : Type 0
    TowerRuns =
        (n b : ℕ) (d a : List ℕ) (w : Exchange K L) (xs : List (Exchange K L)) (m : List ℕ) (q : Exchange K L) (e : List ℕ)
        → RedrawnBy n b d a w xs m q e
        → (x : Answer)
        × (q.left ≡ leave q.call x)
        × ((j : ℕ) → NamesBlock n b (ask q.call) j → (part x.read (block_size * j) 16 ≡ d)
        × ((out : List ℕ) → length out ≡ (ask q.call).room → part (output_of x out) (block_size * j) 16 ≡ d))

-- A call of `read`, with the output lent to it, or of `write`, with the staging lent to it.
pub data Call : Type 0 where
  reads : («open» : Bool) (codes : List ℕ) (count : ℕ) (list out : List ℕ) → Call
  writes : («open» : Bool) (codes : List ℕ) (count : ℕ) (list «data» staging : List ℕ) → Call

-- the request that it makes
abbrev pub request_of : Call → Request
request_of (reads «open» codes count list out) = read_request «open» codes count list (length out)
request_of (writes «open» codes count list «data» staging) = write_request «open» codes count list «data» (length staging)

-- what it leaves its caller: the reply in whatever form it is given, and the output or the staging as it then is
pub record Left (R : Type 0) : Type 0 where
  pub reply : R
  pub buffer : List ℕ

abbrev pub left_by : {R : Type 0} → (Reply → R) → Card → Call → Answer → Left R
left_by form c (reads «open» codes count list out) x = record { reply = form x.reply; buffer = output_of x out }
left_by form c (writes «open» codes count list «data» staging) x = record { reply = form x.reply; buffer = staging_of c x staging }
