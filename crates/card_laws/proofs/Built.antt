-- Refusal 8 says yes exactly of the cards that accepted additions and limits produce.
use Rattle.std.proofs.Common.{Option, Some, None}
use mathlib.Core.Path.{◌≡◌, refl, sym, ◌∙◌, ap, subst}
use mathlib.Core.Bool.{Bool, true, false, cond, not}
use mathlib.Core.List.{List, [], ◌∷◌, ◌++◌}
use Prim.Native.Nat.{ℕ, ◌≤◌, ◌<◌}
use native.Mathlib.Omega.{arith}
use lib.IntN.{ℤ}
use lib.ListN.{length}
use Rattle.answers.specs.declared.refusal.Refusal.TheVariants.{NotBuilt}
use Rattle.service_code.specs.declared.limit.Limit.{Limit}
use Rattle.card_nodes.specs.declared.node.Entry.TheVariants.{Area, Service}
use Rattle.card_nodes.specs.declared.node.Node.{Node}
use Rattle.card_admit.specs.Admit.{placed_of, agreed}
use Rattle.card_admit.proofs.Growth.{placed_longest}
use Rattle.card_admit.proofs.Counts.{agreed-stored, own_count}
use Rattle.card_build.specs.declared.card.System.{System}
use Rattle.card_build.specs.declared.card.Card.{Card}
use Rattle.card_build.specs.declared.card.Added.{Added}
use Rattle.card_build.specs.Card.{is_sound, accepted, refused}
use Rattle.card_build.specs.Grow.{node_as, add_area, add_service, set_limit}
use Rattle.card_laws.specs.Built.{Built}
use Rattle.card_laws.proofs.Decided.{made_sound, sound_made}
use Rattle.card_laws.proofs.Made.{Made, made-used}
use Rattle.card_laws.proofs.Cards.{card_of, same_card, not_accepted, room_for, taken, last-node, area-card, area-accepted, service-card, service-accepted, limit-card}
use Rattle.service_code.specs.Limit.{limited_to}

-- a card of nodes that were made, at most 64
pub data Carded : Card → Type 0 where
  carded : (system : System) {ns : List Node} {used : ℕ} → Made ns used → length ns ≤ 64 → Carded (card_of system used ns)

-- such a card is produced node by node, a service before its limit
made-built : (system : System) {ns : List Node} {used : ℕ} → Made ns used → length ns ≤ 64 → Built (card_of system used ns)
made-built system Made.root h = let new = Built.new system in new
made-built system (Made.area {ns = ns} {used = used} depth code end version m e) h =
    let f = room_for ns (node_as depth code version (Area end)) h in
    Built.area depth code end version (made-built system m (omega arith)) (area-card system used ns depth code version end f e)
made-built system (Made.service {ns = ns} {used = used} {s = s} {b = b} {u = u} depth code version limit m e) h =
    let f = room_for ns (node_as depth code version (Service s b limit)) h in
    limited limit (Built.service 65536 depth code b version (made-built system m (omega arith))
    (service-card system used ns depth code version 65536 b (omega (arith, made-used m)) f
    (ap (agreed system.join b) e ∙ own_count system.join s b u)))
  where
    limited : (l : Option Limit) → Built (card_of system u (ns ++ (node_as depth code version (Service s b None) ∷ []))) →
        Built (card_of system u (ns ++ (node_as depth code version (Service s b l) ∷ [])))
    limited None c = c
    limited (Some limit) c =
        let limit = Built.limit limit.upper limit.lower limit.generation c (limit-card system u ns depth code version s b None limit.upper limit.lower limit.generation) in
        limit

-- the card after an accepted call: one node more, or another limit on the last service
pub data Follows : Card → Card → Type 0 where
  added : (system : System) (used : ℕ) (ns : List Node) (n : Node) {u : ℕ} → Made (ns ++ (n ∷ [])) u → length ns < 64 →
      Follows (card_of system used ns) (card_of system u (ns ++ (n ∷ [])))
  limited : (system : System) (ns : List Node) (depth code version s b : ℕ) (old new : Option Limit) {u : ℕ} →
      Made (ns ++ (node_as depth code version (Service s b new) ∷ [])) u → length ns < 64 →
      Follows (card_of system u (ns ++ (node_as depth code version (Service s b old) ∷ [])))
      (card_of system u (ns ++ (node_as depth code version (Service s b new) ∷ [])))

module _ {c' : Card} where
  -- an area that is accepted
  pub area_follows : {c : Card} (depth code end version : ℕ) → Carded c → add_area c depth code end version ≡ accepted c' → Follows c c'
  area_follows depth code end version (carded system {ns = ns} {used = used} m h) e =
      let j = area-accepted system used ns depth code version end e in
      subst (Follows (card_of system used ns)) (same_card (sym (area-card system used ns depth code version end j.0 j.1) ∙ e))
      (Follows.added system used ns (node_as depth code version (Area end)) (Made.area depth code end version m j.1) j.0)

  -- a service that is accepted
  pub service_follows : {c : Card} (arena_len depth code blocks version : ℕ) → Carded c →
      add_service c arena_len depth code blocks version ≡ accepted c' → Follows c c'
  service_follows arena_len depth code blocks version (carded system {ns = ns} {used = used} m h) e =
      let p = service-accepted system used ns depth code version arena_len blocks e in
      subst (Follows (card_of system used ns))
      (same_card (sym (service-card system used ns depth code version arena_len blocks p.0 p.1 p.5) ∙ e))
      (Follows.added system used ns (node_as depth code version (Service p.2 p.3 None))
      (Made.service depth code version None m (placed_longest ns depth code used arena_len blocks (agreed-stored system.join blocks (placed_of ns used arena_len depth code blocks) p.5))) p.1)

  -- a limit that is accepted
  pub limit_follows : {c : Card} (upper lower : ℤ) (generation : ℕ) → Carded c →
      set_limit c upper lower generation ≡ accepted c' → Follows c c'
  unfolding set_limit
  limit_follows upper lower generation (carded system Made.root h) e = not_accepted e
  limit_follows upper lower generation (carded system (Made.area {ns = ns} depth code end version m j) h) e =
      not_accepted (rw (last-node ns (node_as depth code version (Area end))) at e)
  limit_follows upper lower generation (carded system (Made.service {ns = ns} {s = s} {b = b} {u = u} depth code version old m j) h) e =
      subst (Follows (card_of system u (ns ++ (node_as depth code version (Service s b old) ∷ []))))
      (same_card (sym (limit-card system u ns depth code version s b old upper lower generation) ∙ e))
      (Follows.limited system ns depth code version s b old (limited_to upper lower generation)
      (Made.service depth code version (limited_to upper lower generation) m j) (room_for ns (node_as depth code version (Service s b old)) h))

-- its nodes were made too
follows_carded : {c c' : Card} → Follows c c' → Carded c'
follows_carded (Follows.added system used ns n m h) = carded system m (taken ns n h)
follows_carded (Follows.limited system ns depth code version s b old new m h) =
    carded system m (taken ns (node_as depth code version (Service s b new)) h)

-- the nodes of a card that is produced were made
pub built_carded : {c : Card} → Built c → Carded c
built_carded (Built.new system) = carded system Made.root (omega arith)
built_carded (Built.area depth code end version b e) = follows_carded (area_follows depth code end version (built_carded b) e)
built_carded (Built.service arena_len depth code blocks version b e) =
    follows_carded (service_follows arena_len depth code blocks version (built_carded b) e)
built_carded (Built.limit upper lower generation b e) = follows_carded (limit_follows upper lower generation (built_carded b) e)

carded_sound : {c : Card} → Carded c → is_sound c ≡ true
carded_sound (carded system m h) = made_sound m h

-- refusal 8 is given to no card that accepted additions and limits produce
pub built_sound : {c : Card} → Built c → is_sound c ≡ true
built_sound b = carded_sound (built_carded b)

-- it is given to every other card of 64 records
pub sound_built : (c : Card) → length c.nodes ≡ 64 → is_sound c ≡ true → Built c
sound_built c h e =
    let r = sound_made c.nodes c.count c.used h e in
    let same : card_of c.system c.used r.0 ≡ c =
    λ i. record { nodes = sym r.2 i; count = sym r.3 i; used = c.used; system = c.system } in
    subst Built same (made-built c.system r.1 r.4)

-- a call that asks for refusal 8 first, and is accepted, was made on a card that is produced
pub past-eight : (c : Card) {x : Added} {c' : Card} → length c.nodes ≡ 64 → cond (not (is_sound c)) (refused c NotBuilt) x ≡ accepted c' →
    Built c × (x ≡ accepted c')
past-eight c {x = x} {c' = c'} h e = let t = passed (is_sound c) e in (sound_built c h t.0, t.1)
  where
    passed : (t : Bool) → cond (not t) (refused c NotBuilt) x ≡ accepted c' → (t ≡ true) × (x ≡ accepted c')
    passed true k = (refl, k)
    passed false k = not_accepted k
