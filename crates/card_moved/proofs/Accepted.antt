-- A step of refusal 8's walk goes exactly where the addition of the record is accepted. Assumes nothing.
use Rattle.std.proofs.Common.{Option, Some, None, Result, Ok, Err}
use Prim.Native.Nat.{ℕ, ◌≤◌}
use native.Mathlib.Omega.{arith}
use native.Mathlib.Decide.{ℕ_discrete}
use mathlib.Core.Path.{◌≡◌, refl}
use mathlib.Core.List.{List, [], ◌∷◌, ◌++◌}
use borrow.Author.Tests.{eq-eqb, ne_eqb}
use Rattle.service_code.specs.declared.limit.Limit.{Limit}
use Rattle.card_nodes.specs.declared.node.Entry.{Entry}
use Rattle.card_nodes.specs.declared.node.Entry.TheVariants.{Area, Service}
use Rattle.card_nodes.specs.declared.node.Node.{Node}
use Rattle.card_admit.specs.declared.Placed.{Placed}
use Rattle.card_admit.specs.Admit.{area_judged, placed_of}
use Rattle.card_admit.proofs.Growth.{used_grows, used-most}
use Rattle.card_sound.specs.Sound.{area_step, service_step, step_by, step_of, then_step, steps_from}
use Rattle.answers.specs.declared.refusal.Refusal.{Refusal}
use Rattle.card_admit.specs.Placed.{placed_at}

-- a walk that stops does not go on
pub no_stop : {A : Type 0} {u : ℕ} → None ≡ Some u → A
no_stop e = absurd (let z : ◌≡◌ {A = ℕ} 0 1 = cc in (omega arith))

-- the addition of n after other nodes, with `used` blocks in use, is accepted, and u are in use then; a service gets the store that n holds
pub data Accepted (before : List Node) (used : ℕ) (n : Node) (u : ℕ) : Type 0 where
  area : (e : ℕ) → n.entry ≡ Area e → area_judged before n.depth n.code e ≡ Ok tt → used ≡ u → Accepted before used n u
  service : (s b : ℕ) (l : Option Limit) → n.entry ≡ Service s b l → placed_of before used 65536 n.depth n.code b ≡ placed_at s b u →
      Accepted before used n u

-- a service's step stops, or its store is the one that it was given
service_step_lem : (s b : ℕ) (p : Result Placed Refusal) → (u : ℕ) → service_step s b p ≡ Some u → p ≡ placed_at s b u
service_step_lem s b (Err r) u h = no_stop h
service_step_lem s b (Ok placed) u h =
    elim (ℕ_discrete placed.start s) [
      | no q ↦ no_stop (rw (ne_eqb placed.start s q) at h)
      | yes q ↦ elim (ℕ_discrete placed.blocks b) [
        | no r ↦ no_stop (rw (eq-eqb placed.start s q, ne_eqb placed.blocks b r) at h)
        | yes r ↦
            let g : Some placed.used ≡ Some u = rw (eq-eqb placed.start s q, eq-eqb placed.blocks b r) at h in
            let k : placed.used ≡ u = cc in
            λ i. placed_at (q i) (r i) (k i)
      ]
    ]

module _ (before : List Node) (used : ℕ) (n : Node) {u : ℕ} where
  -- where it goes, the addition is accepted
  pub goes_accepted : step_of before used n ≡ Some u → Accepted before used n u
  unfolding step_of
  goes_accepted h = by_entry_lem n.entry refl h
    where
      by_answer : (e : ℕ) (a : Result Unit Refusal) → n.entry ≡ Area e → area_judged before n.depth n.code e ≡ a → area_step used a ≡ Some u →
          Accepted before used n u
      by_answer e (Ok tt) q j g = area e q j (cc)
      by_answer e (Err r) q j g = no_stop g

      by_entry_lem : (e : Entry) → n.entry ≡ e → step_by before used n e ≡ Some u → Accepted before used n u
      by_entry_lem (Area e) q g = by_answer e (area_judged before n.depth n.code e) q refl g
      by_entry_lem (Service s b l) q g = service s b l q (service_step_lem s b (placed_of before used 65536 n.depth n.code b) u g)

  -- and back
  pub accepted_goes : Accepted before used n u → step_of before used n ≡ Some u
  unfolding step_of
  accepted_goes (area e q j g) = rw (q, j, g)
  accepted_goes (service s b l q p) = rw (q, p, eq-eqb s s refl, eq-eqb b b refl)

  -- the blocks in use never fall
  pub accepted_grows : Accepted before used n u → used ≤ u
  accepted_grows (area e q j g) = omega (arith, g)
  accepted_grows (service s b l q p) = used_grows before n.depth n.code used 65536 b p

  -- and stay within 4,096
  pub accepted-most : Accepted before used n u → used ≤ 4096 → u ≤ 4096
  accepted-most (area e q j g) h = omega (arith, g, h)
  accepted-most (service s b l q p) h = used-most before n.depth n.code used 65536 b p h

-- where a walk over records goes, it goes over the first, and from there over the rest
pub walked_on : (before : List Node) (used : ℕ) (n : Node) (ns : List Node) {w : ℕ} → steps_from before used (n ∷ ns) ≡ Some w →
    (u : ℕ) × Accepted before used n u × (steps_from (before ++ (n ∷ [])) u ns ≡ Some w)
unfolding steps_from
walked_on before used n ns {w} h = by_step (step_of before used n) refl h
  where
    by_step : (x : Option ℕ) → step_of before used n ≡ x → then_step x (λ u. steps_from (before ++ (n ∷ [])) u ns) ≡ Some w →
        (u : ℕ) × Accepted before used n u × (steps_from (before ++ (n ∷ [])) u ns ≡ Some w)
    by_step (Some u) q g = (u, goes_accepted before used n q, g)
    by_step None q g = no_stop g
