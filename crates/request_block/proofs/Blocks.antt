-- What `block_located` is in each of its cases, and what that says of the block.
use Rattle.std.proofs.Common.{Result, Ok, Err}
use mathlib.Core.Path.{◌≡◌, refl, sym, ◌∙◌}
use mathlib.Core.Bool.{true, false, not}
use mathlib.Core.List.{List, []}
use Prim.Native.Nat.{ℕ, ◌+◌, ◌-◌, ◌*◌, ◌≤◌, ◌<◌}
use native.Mathlib.Omega.{arith}
use lib.ListN.{length, take, drop}
use borrow.Author.Tests.{le-leb, lt-leb, ltb-false, leb-false, not-false}
use Rattle.answers.specs.declared.refusal.Refusal.{Refusal}
use Rattle.answers.specs.declared.refusal.Refusal.TheVariants.{ShortArena, NoSuchBlock, NotBuilt}
use Rattle.byte_parts.specs.Part.{part, put}
use Rattle.card_build.specs.declared.card.Card.{Card}
use Rattle.card_build.specs.Card.{nodes_of, is_sound, is_short}
use Rattle.request_check.specs.declared.table.Row.{Row}
use Rattle.request_check.specs.Row.{row_of}
use Rattle.request_block.specs.Block.{block_place, lacks_block, block_judged, located_by, block_located, stored_block, arena_set}
use Rattle.request_plan.proofs.Tests.{passed_over}
use Rattle.request_plan.proofs.Ready.{row_within, sound_laid}
use Rattle.card_build.proofs.Accepted.{not_done}

module _ (c : Card) (arena_len code number : ℕ) where
  -- a card that was not built
  pub not_built : is_sound c ≡ false → Err NotBuilt ≡ block_located c arena_len code number
  unfolding block_located block_judged
  not_built s = rw s

  module _ (s : is_sound c ≡ true) where
    -- too short an arena
    pub short_arena : is_short arena_len c.used ≡ true → Err ShortArena ≡ block_located c arena_len code number
    unfolding block_located block_judged
    short_arena h = rw (s, h)

    module _ {w : Row} (a : is_short arena_len c.used ≡ false) (r : w ≡ row_of (nodes_of c) code) where
      -- a block that is there
      pub there : number < w.blocks → Ok (16 * (w.start + number)) ≡ block_located c arena_len code number
      unfolding block_located block_judged
      there h = rw (s, a, ← r, lt-leb w.blocks number h)

      -- one that is not
      pub not_there : w.blocks ≤ number → Err NoSuchBlock ≡ block_located c arena_len code number
      unfolding block_located block_judged
      not_there h = rw (s, a, ← r, le-leb w.blocks number h)

-- a block that is there lies in the arena
pub block_inside : (c : Card) (arena_len code number : ℕ) → length c.nodes ≡ 64 → block_judged c arena_len code number ≡ Ok tt →
    block_place (row_of (nodes_of c) code) number + 16 ≤ arena_len
unfolding block_judged
block_inside c arena_len code number h e =
    let s = passed_over (not_done {r = NotBuilt}) (not (is_sound c)) _ e in
    let a = passed_over (not_done {r = ShortArena}) (is_short arena_len c.used) _ s.1 in
    let b = passed_over (not_done {r = NoSuchBlock}) (lacks_block (row_of (nodes_of c) code) number) (Ok tt) a.1 in
    let n = leb-false (row_of (nodes_of c) code).blocks number b.0 in
    let l = ltb-false arena_len (16 * c.used) a.0 in
    let w = row_within (sound_laid c h (not-false (is_sound c) s.0)) code in
    omega arith

-- an answer that has a place is that the block is there, and that is the place
by_answer : (place : ℕ) (a : Result Unit Refusal) {at : ℕ} → located_by place a ≡ Ok at → (a ≡ Ok tt) × (at ≡ place)
by_answer place (Ok tt) e = (refl, cc)
by_answer place (Err r) e = absurd (let z : ◌≡◌ {A = ℕ} 0 1 = cc in omega arith)

-- and one that has none is its refusal
by_refusal : (place : ℕ) (a : Result Unit Refusal) {r : Refusal} → located_by place a ≡ Err r → a ≡ Err r
by_refusal place (Ok tt) e = absurd (let z : ◌≡◌ {A = ℕ} 0 1 = cc in omega arith)
by_refusal place (Err q) e = cc

module _ (c : Card) (arena_len code number : ℕ) {l : Result ℕ Refusal} (told : l ≡ block_located c arena_len code number) where
  -- a block that was found is there, and lies there
  pub found_there_lem : {at : ℕ} → l ≡ Ok at →
      (block_judged c arena_len code number ≡ Ok tt) × (at ≡ block_place (row_of (nodes_of c) code) number)
  unfolding block_located
  found_there_lem e = by_answer (block_place (row_of (nodes_of c) code) number) (block_judged c arena_len code number) (sym told ∙ e)

  -- one that was not is refused
  pub found_refused : {r : Refusal} → l ≡ Err r → block_judged c arena_len code number ≡ Err r
  unfolding block_located
  found_refused e = by_refusal (block_place (row_of (nodes_of c) code) number) (block_judged c arena_len code number) (sym told ∙ e)

module _ (c : Card) (a : List ℕ) (code number : ℕ) where
  -- none
  pub stored-none : {r : Refusal} → block_judged c (length a) code number ≡ Err r → stored_block c a code number ≡ []
  unfolding stored_block
  stored-none e = rw e

  -- sixteen bytes
  pub stored_there : block_judged c (length a) code number ≡ Ok tt →
      stored_block c a code number ≡ part a (block_place (row_of (nodes_of c) code) number) 16
  unfolding stored_block
  stored_there e = rw e

  -- no change
  pub set-none : (block : List ℕ) {r : Refusal} → block_judged c (length a) code number ≡ Err r → arena_set c a code number block ≡ a
  unfolding arena_set
  set-none block e = rw e

  -- one block replaced
  pub set_there : (block : List ℕ) → block_judged c (length a) code number ≡ Ok tt →
      arena_set c a code number block ≡ put a (block_place (row_of (nodes_of c) code) number) 16 block
  unfolding arena_set
  set_there block e = rw e

module _ (c : Card) (a : List ℕ) (code number : ℕ) {at : ℕ} (e : block_judged c (length a) code number ≡ Ok tt)
    (p : at ≡ block_place (row_of (nodes_of c) code) number) where
  -- the place that is found lies in the arena
  pub place_inside : length c.nodes ≡ 64 → at + 16 ≤ length a
  place_inside h = rw p (block_inside c (length a) code number h e)

  -- the part that is lent is the block
  pub lent_block : take (at + 16 - at) (drop at a) ≡ stored_block c a code number
  unfolding part
  lent_block =
      let k : at + 16 - at ≡ 16 = omega arith in
      rw (k, stored_there c a code number e, p)

  -- the arena with the block put
  pub block-put : (block : List ℕ) {new : List ℕ} → new ≡ put a at 16 block → new ≡ arena_set c a code number block
  block-put block k = k ∙ rw (set_there c a code number block e, p)
