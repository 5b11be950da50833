-- What is known once a node was accepted.
use Rattle.std.proofs.Common.{Option, Some, None, Result, Ok, Err}
use mathlib.Core.Path.{◌≡◌, refl, sym, ap, ◌∙◌}
use mathlib.Core.Bool.{Bool, true, false, cond, not, and-eq-true_iff}
use mathlib.Core.List.{List}
use mathlib.Core.Logic.{◌⊎◌, inl, inr, ⊎_elim}
use Prim.Native.Nat.{ℕ, ◌+◌, ◌≤◌, ◌<◌}
use native.Mathlib.Omega.{arith}
use lib.Dec.{leb, ltb}
use lib.ListN.{length, get_or}
use borrow.Author.Tests.{leb-true, ltb-false, le-ltb, le-leb}
use Rattle.answers.specs.declared.refusal.Refusal.{Refusal}
use Rattle.answers.specs.declared.refusal.Refusal.TheVariants.{NoRoom, OverlapKindMismatch}
use Rattle.card_nodes.specs.declared.node.Node.{Node}
use Rattle.card_admit.specs.declared.Placed.{Placed}
use Rattle.card_nodes.specs.Node.{root_node, start_of, blocks_of}
use Rattle.card_nodes.specs.Find.{shared_of, parent_of}
use Rattle.card_nodes.proofs.Searches.{Below, below_cond, parent_below}
use Rattle.card_admit.specs.Admit.{is_depth, parent_at, service_under, same_kind, joined_to, usable, new_store, store_of, if_done, service_found, placed_of}
use Rattle.card_admit.specs.Placed.{placed_at}

-- a depth that a node other than the root may have
pub record Deep (depth : ℕ) : Type 0 where
  pub low : 1 ≤ depth
  pub high : depth ≤ 8

-- such are the depths that pass the test
pub depth_deep : (depth : ℕ) → is_depth depth ≡ true → Deep depth
unfolding is_depth
depth_deep depth e =
    let b = (and-eq-true_iff (leb 1 depth) (leb depth 8)).0 e in
    record { low = leb-true 1 depth b.0; high = leb-true depth 8 b.1 }

-- and no others
pub deep_depth : (depth : ℕ) → 1 ≤ depth → depth ≤ 8 → is_depth depth ≡ true
unfolding is_depth
deep_depth depth h k = rw (le-leb 1 depth h, le-leb depth 8 k)

-- a node with a parent is at such a depth
pub parent_deep : (ns : List Node) (depth : ℕ) {p : ℕ} → parent_at ns depth ≡ Some p → Deep depth
unfolding parent_at
parent_deep ns depth {p = p} e = depth_deep depth (passed (is_depth depth) e)
  where
    passed : (b : Bool) → cond (not b) None (parent_of ns depth) ≡ Some p → b ≡ true
    passed true k = refl
    passed false k = absurd (let z : ◌≡◌ {A = ℕ} 0 1 = cc in (omega arith))

-- a parent is one of the nodes
pub parent_at_below : (ns : List Node) (depth : ℕ) → Below (parent_at ns depth) (0 + length ns)
unfolding parent_at
parent_at_below ns depth = below_cond (not (is_depth depth)) None (parent_of ns depth) _ tt (parent_below depth None 0 ns tt)

-- at most 4,096 blocks are usable
pub usable-most : (arena_len : ℕ) → usable arena_len ≤ 4096
unfolding usable
usable-most arena_len = omega arith

-- a service may come there: all that is left to say is which store it gets
pub record Allowed (ns : List Node) (depth code : ℕ) : Type 0 where
  pub gets : (used arena_len blocks : ℕ) →
      placed_of ns used arena_len depth code blocks ≡ store_of ns used arena_len code blocks (shared_of ns code)

-- its store is that of the first service of its number
pub record Joined (ns : List Node) (used code s b u : ℕ) : Type 0 where
  pub first : ℕ
  pub found : shared_of ns code ≡ Some first
  pub kind : same_kind (get_or ns first root_node).code code ≡ true
  pub start : s ≡ start_of (get_or ns first root_node).entry
  pub count : b ≡ blocks_of (get_or ns first root_node).entry
  pub same : u ≡ used

-- or a new one, next after those in use
pub record Fresh (ns : List Node) (used arena_len code blocks s b u : ℕ) : Type 0 where
  pub none : shared_of ns code ≡ None
  pub start : s ≡ used
  pub count : b ≡ blocks
  pub more : u ≡ used + b
  pub fits : u ≤ usable arena_len

-- a refusal is no store
pub no_store : {A : Type 0} {r : Refusal} {s b u : ℕ} → Err r ≡ placed_at s b u → A
no_store e = absurd (let z : ◌≡◌ {A = ℕ} 0 1 = cc in (omega arith))

-- one store has one place
pub same_store : {p q : Placed} → ◌≡◌ {A = Result Placed Refusal} (Ok p) (Ok q) → p ≡ q
same_store e = cc

module _ (ns : List Node) (depth code : ℕ) {s b u : ℕ} where
  -- a parent under which it may come
  under : {p : ℕ} (store : Result Placed Refusal) (a : Result Unit Refusal) → service_under (get_or ns p root_node) code ≡ a →
      parent_at ns depth ≡ Some p → if_done a store ≡ placed_at s b u → Allowed ns depth code
  unfolding placed_of
  under store (Ok tt) k f e = record { gets = λ used arena_len blocks. rw (f, k) }
  under store (Err r) k f e = no_store e

  -- a parent
  found : (used arena_len blocks : ℕ) (f : Option ℕ) → parent_at ns depth ≡ f →
      service_found ns used arena_len code blocks f ≡ placed_at s b u → Allowed ns depth code
  found used arena_len blocks None k e = no_store e
  found used arena_len blocks (Some p) k e =
      under (store_of ns used arena_len code blocks (shared_of ns code)) (service_under (get_or ns p root_node) code) refl k e

  -- a service that got a store may come there
  pub allowed : (used arena_len blocks : ℕ) → placed_of ns used arena_len depth code blocks ≡ placed_at s b u → Allowed ns depth code
  unfolding placed_of
  allowed used arena_len blocks e = found used arena_len blocks (parent_at ns depth) refl e

  -- a store to join, of one kind
  join : (used j : ℕ) (k : Bool) → shared_of ns code ≡ Some j → same_kind (get_or ns j root_node).code code ≡ k →
      cond (not k) (Err OverlapKindMismatch) (placed_at (start_of (get_or ns j root_node).entry) (blocks_of (get_or ns j root_node).entry) used)
      ≡ placed_at s b u →
      Joined ns used code s b u
  join used j true f h e =
      let q = same_store e in
      record { first = j; found = f; kind = h; start = sym (ap (λ p. p.start) q); count = sym (ap (λ p. p.blocks) q); same = sym (ap (λ p. p.used) q) }
  join used j false f h e = no_store e

  -- room for a new one
  make : (used arena_len blocks : ℕ) (k : Bool) → shared_of ns code ≡ None → ltb (usable arena_len) (used + blocks) ≡ k →
      cond k (Err NoRoom) (placed_at used blocks (used + blocks)) ≡ placed_at s b u → Fresh ns used arena_len code blocks s b u
  make used arena_len blocks true f h e = no_store e
  make used arena_len blocks false f h e =
      let q = same_store e in
      let c : b ≡ blocks = sym (ap (λ p. p.blocks) q) in
      let m : u ≡ used + blocks = sym (ap (λ p. p.used) q) in
      record { none = f; start = sym (ap (λ p. p.start) q); count = c; more = omega arith; fits = omega (arith, ltb-false (usable arena_len) (used + blocks) h) }

  -- one of the two
  either : (used arena_len blocks : ℕ) (f : Option ℕ) → shared_of ns code ≡ f → store_of ns used arena_len code blocks f ≡ placed_at s b u →
      Joined ns used code s b u ⊎ Fresh ns used arena_len code blocks s b u
  unfolding joined_to new_store
  either used arena_len blocks (Some j) k e = inl (join used j (same_kind (get_or ns j root_node).code code) k refl e)
  either used arena_len blocks None k e = inr (make used arena_len blocks (ltb (usable arena_len) (used + blocks)) k refl e)

  module _ (used arena_len blocks : ℕ) (e : placed_of ns used arena_len depth code blocks ≡ placed_at s b u) where
    -- which store it got
    pub stored : Joined ns used code s b u ⊎ Fresh ns used arena_len code blocks s b u
    stored = either used arena_len blocks (shared_of ns code) refl (sym ((allowed used arena_len blocks e).gets used arena_len blocks) ∙ e)

    -- the blocks in use never fall
    pub used_grows : used ≤ u
    used_grows = ⊎_elim (λ j. omega arith) (λ f. omega arith) stored

    -- and stay within 4,096
    pub used-most : used ≤ 4096 → u ≤ 4096
    used-most h = ⊎_elim (λ j. omega arith) (λ f. omega (arith, usable-most arena_len)) stored

    -- the longest arena, and the store's own count in place of the given one, change nothing
    pub placed_longest : placed_of ns used 65536 depth code b ≡ placed_at s b u
    unfolding new_store usable
    placed_longest =
        (allowed used arena_len blocks e).gets used 65536 b
        ∙ ⊎_elim
        (λ j. rw j.found (rw j.found at (sym ((allowed used arena_len blocks e).gets used arena_len blocks) ∙ e)))
        (λ f.
        let m : u ≤ 4096 = omega (arith, usable-most arena_len) in
        rw (f.none, le-ltb 4096 (used + b) (omega arith)) (cc))
        stored
