-- The card of nodes that were made, and what an accepted call makes of it.
use Rattle.std.proofs.Common.{Option, None, Result, Ok, Err}
use mathlib.Core.Path.{◌≡◌, refl, sym, ◌∙◌, ap}
use mathlib.Core.Bool.{Bool, true, false, cond}
use mathlib.Core.List.{List, [], ◌∷◌, ◌++◌}
use Prim.Native.Nat.{ℕ, suc, ◌+◌, ◌-◌, ◌*◌, ◌≤◌, ◌<◌}
use native.Mathlib.Omega.{arith}
use lib.Dec.{ltb, leb}
use lib.IntN.{ℤ}
use lib.ListN.{length, set, get_or, replicate, length-append}
use lib.Seq.{append_snoc, take-append_seam, set-append_seam, set_at, get_or_at}
use borrow.Author.Tests.{ltb-false, leb-false, le-ltb, lt-leb}
use Rattle.answers.specs.declared.refusal.Refusal.{Refusal}
use Rattle.answers.specs.declared.refusal.Refusal.TheVariants.{TableFull, ShortArena}
use Rattle.service_code.specs.declared.limit.Limit.{Limit}
use Rattle.card_nodes.specs.declared.node.Entry.TheVariants.{Area, Service}
use Rattle.card_nodes.specs.declared.node.Node.{Node}
use Rattle.card_admit.specs.declared.Placed.{Placed}
use Rattle.card_nodes.specs.Node.{root_node}
use Rattle.card_admit.specs.Admit.{area_judged, placed_of, agreed}
use Rattle.card_build.specs.declared.card.System.{System}
use Rattle.card_build.specs.declared.card.Card.{Card}
use Rattle.card_build.specs.declared.card.Added.{Added}
use Rattle.card_build.specs.Card.{grown, accepted, refused}
use Rattle.card_build.specs.Grow.{node_as, area_by, add_area, service_by, add_service, set_limit}
use Rattle.card_admit.specs.Placed.{placed_at}
use Rattle.service_code.specs.Limit.{limited_to}

-- nodes, and the unused records after them
abbrev pub records : List Node → List Node
records ns = ns ++ replicate (64 - length ns) root_node

-- the card of these nodes
abbrev pub card_of : System → ℕ → List Node → Card
card_of system used ns = record { nodes = records ns; count = length ns; used = used; system = system }

-- an acceptance gives one card
pub same_card : {c c' : Card} → accepted c ≡ accepted c' → c ≡ c'
same_card e = ap (λ (a : Added). a.card) e

-- a refusal is no acceptance
pub not_accepted : {A : Type 0} {c c' : Card} {r : Refusal} → refused c r ≡ accepted c' → A
not_accepted e = let q = ap (λ (a : Added). a.answer) e in absurd (let z : ◌≡◌ {A = ℕ} 0 1 = cc in (omega arith))

-- what is accepted passed the tests ahead of it
passed : (c : Card) (r : Refusal) {c' : Card} {x : Added} (b : Bool) → cond b (refused c r) x ≡ accepted c' → (b ≡ false) × (x ≡ accepted c')
passed c r true e = not_accepted e
passed c r false e = (refl, e)

-- a node takes the first unused record
fill : (ns : List Node) (n : Node) → length ns < 64 → set (records ns) (length ns) n ≡ records (ns ++ (n ∷ []))
fill ns n h =
    let a : 64 - length ns ≡ suc (63 - length ns) = omega arith in
    let b : 64 - (length ns + 1) ≡ 63 - length ns = omega arith in
    rw (a, set-append_seam ns root_node, append_snoc ns n, length-append ns (n ∷ []), b)

-- so it finds one unused
pub room_for : (ns : List Node) (n : Node) → length (ns ++ (n ∷ [])) ≤ 64 → length ns < 64
room_for ns n h = omega (arith, h, length-append ns (n ∷ []))

-- and takes one of the 64
pub taken : (ns : List Node) (n : Node) → length ns < 64 → length (ns ++ (n ∷ [])) ≤ 64
taken ns n h = omega (arith, h, length-append ns (n ∷ []))

-- the last node's index
last_index : (ns : List Node) (n : Node) → length ns ≡ length (ns ++ (n ∷ [])) - 1
last_index ns n = omega (arith, length-append ns (n ∷ []))

-- there it is read
pub last-node : (ns : List Node) (n : Node) → get_or (records (ns ++ (n ∷ []))) (length (ns ++ (n ∷ [])) - 1) root_node ≡ n
last-node ns n = rw (append_snoc ns n) (get_or_at ns n _ root_node _ (last_index ns n))

-- and replaced
last_set : (ns : List Node) (n m : Node) → set (records (ns ++ (n ∷ []))) (length (ns ++ (n ∷ [])) - 1) m ≡ records (ns ++ (m ∷ []))
last_set ns n m =
    rw (append_snoc ns n, set_at ns n _ m _ (last_index ns n), append_snoc ns m, length-append ns (n ∷ []), length-append ns (m ∷ []))

module _ (system : System) (used : ℕ) (ns : List Node) where
  -- the card with one record more
  grown-card : (n : Node) (u : ℕ) → length ns < 64 → grown (card_of system used ns) n u ≡ card_of system u (ns ++ (n ∷ []))
  grown-card n u h =
      λ i. record { nodes = fill ns n h i; count = sym (length-append ns (n ∷ [])) i; used = u; system = system }

  module _ (depth code version : ℕ) where
    -- an area that may come there comes next
    pub area-card : (end : ℕ) → length ns < 64 → area_judged ns depth code end ≡ Ok tt →
        add_area (card_of system used ns) depth code end version
        ≡ accepted (card_of system used (ns ++ (node_as depth code version (Area end) ∷ [])))
    unfolding add_area
    area-card end h e =
        rw (lt-leb 64 (length ns) h, take-append_seam, e) (ap accepted (grown-card (node_as depth code version (Area end)) used h))

    -- no other area is accepted
    pub area-accepted : {c' : Card} (end : ℕ) →
        add_area (card_of system used ns) depth code end version ≡ accepted c' →
        (length ns < 64) × (area_judged ns depth code end ≡ Ok tt)
    unfolding add_area
    area-accepted {c' = c'} end e =
        let f = passed (card_of system used ns) TableFull (leb 64 (length ns)) (rw take-append_seam at e) in
        (leb-false 64 (length ns) f.0, done (area_judged ns depth code end) f.1)
      where
        done : (a : Result Unit Refusal) → area_by (card_of system used ns) (node_as depth code version (Area end)) a ≡ accepted c' → a ≡ Ok tt
        done (Ok tt) k = refl
        done (Err r) k = not_accepted k

    module _ (arena_len blocks : ℕ) where
      -- a service that gets a store comes next, with no limit, where the arena holds the blocks in use
      pub service-card : {s b u : ℕ} → 16 * used ≤ arena_len → length ns < 64 →
          agreed system.join blocks (placed_of ns used arena_len depth code blocks) ≡ placed_at s b u →
          add_service (card_of system used ns) arena_len depth code blocks version
          ≡ accepted (card_of system u (ns ++ (node_as depth code version (Service s b None) ∷ [])))
      unfolding add_service
      service-card {s = s} {b = b} {u = u} h f e =
          rw (le-ltb arena_len (16 * used) h, lt-leb 64 (length ns) f, take-append_seam, e)
          (ap accepted (grown-card (node_as depth code version (Service s b None)) u f))

      -- no other service is accepted
      pub service-accepted : {c' : Card} → add_service (card_of system used ns) arena_len depth code blocks version ≡ accepted c' →
          (16 * used ≤ arena_len) × (length ns < 64) × (s : ℕ) × (b : ℕ) × (u : ℕ) ×
          (agreed system.join blocks (placed_of ns used arena_len depth code blocks) ≡ placed_at s b u)
      unfolding add_service
      service-accepted {c' = c'} e =
          let h = passed (card_of system used ns) ShortArena (ltb arena_len (16 * used)) (rw take-append_seam at e) in
          let f = passed (card_of system used ns) TableFull (leb 64 (length ns)) h.1 in
          let p = stored (agreed system.join blocks (placed_of ns used arena_len depth code blocks)) f.1 in
          (ltb-false arena_len (16 * used) h.0, leb-false 64 (length ns) f.0, p.0, p.1, p.2, p.3)
        where
          stored : (p : Result Placed Refusal) → service_by (card_of system used ns) depth code version p ≡ accepted c' →
              (s : ℕ) × (b : ℕ) × (u : ℕ) × (p ≡ placed_at s b u)
          stored (Ok placed) k = (placed.start, placed.blocks, placed.used, refl)
          stored (Err r) k = not_accepted k

  module _ (depth code version s b : ℕ) (old : Option Limit) (upper lower : ℤ) (generation : ℕ) where
    -- a limit takes the place of the last service's
    pub limit-card :
        set_limit (card_of system used (ns ++ (node_as depth code version (Service s b old) ∷ []))) upper lower generation
        ≡ accepted (card_of system used (ns ++ (node_as depth code version (Service s b (limited_to upper lower generation)) ∷ [])))
    unfolding set_limit
    limit-card =
        let n = node_as depth code version (Service s b old) in
        let m = node_as depth code version (Service s b (limited_to upper lower generation)) in
        rw (last-node ns n, last-node ns n)
        (ap accepted
        (λ i. record {
          nodes = last_set ns n m i;
          count = (length-append ns (n ∷ []) ∙ sym (length-append ns (m ∷ []))) i;
          used = used;
          system = system;
        }))
