-- Each way through a call is its own case of the definition.
use Rattle.std.proofs.Common.{Option, None, Result, Ok, Err}
use mathlib.Core.Path.{◌≡◌, refl, sym, ◌∙◌, ap}
use mathlib.Core.Bool.{Bool, true, false, cond, not}
use mathlib.Core.List.{List}
use Prim.Native.Nat.{ℕ, ◌-◌, ◌*◌, ◌/◌, ◌≤◌, ◌<◌}
use native.Mathlib.Omega.{arith}
use lib.Dec.{leb}
use lib.IntN.{ℤ}
use lib.ListN.{replicate, set}
use borrow.Author.Tests.{ltb-false, leb-false}
use Rattle.answers.specs.declared.refusal.Refusal.{Refusal}
use Rattle.answers.specs.declared.refusal.Refusal.TheVariants.{TableFull, NotBuilt, ShortArena, NotAService}
use Rattle.service_code.specs.declared.limit.Limit.{Limit}
use Rattle.byte_parts.specs.Part.{put}
use Rattle.byte_parts.proofs.Part.{put_zero}
use Rattle.card_nodes.specs.declared.node.Node.{Node}
use Rattle.card_nodes.specs.declared.node.Entry.TheVariants.{Area, Service}
use Rattle.card_admit.specs.declared.Placed.{Placed}
use Rattle.card_admit.specs.Admit.{area_judged, placed_of, agreed}
use Rattle.card_build.specs.declared.card.Card.{Card}
use Rattle.card_build.specs.declared.card.Added.{Added}
use Rattle.card_build.specs.declared.build.Growth.{Growth}
use Rattle.card_build.specs.Card.{nodes_of, is_sound, is_short, grown, accepted, refused}
use Rattle.card_build.specs.Grow.{node_as, growth_of, grown_by, add_area, ahead_of_service, service_by, add_service, last_node, set_limit}
use Rattle.card_build.specs.Build.{area_added, service_added, arena_added, limit_added}
use Rattle.card_build.proofs.Accepted.{not_done}
use Rattle.card_admit.specs.Placed.{placed_at}
use Rattle.service_code.specs.Limit.{limited_to}

-- a card that grew by a record
pub grew : (c : Card) (n : Node) (used : ℕ) {g : Growth} {x : Added} → x ≡ grown_by c g → g ≡ growth_of n c.count used → x ≡ accepted (grown c n used)
grew c n used p q = p ∙ ap (grown_by c) q

module _ (c : Card) (depth code end version : ℕ) where
  -- refusal 8
  pub area-unsound : is_sound c ≡ false → refused c NotBuilt ≡ area_added c depth code end version
  unfolding area_added
  area-unsound h = rw h

  -- then 20
  pub area-full : is_sound c ≡ true → leb 64 c.count ≡ true → refused c TableFull ≡ area_added c depth code end version
  unfolding area_added add_area
  area-full h f = rw (h, f)

  -- then those of the judge
  pub area-refused : {r : Refusal} → is_sound c ≡ true → leb 64 c.count ≡ false → area_judged (nodes_of c) depth code end ≡ Err r →
      refused c r ≡ area_added c depth code end version
  unfolding area_added add_area
  area-refused h f e = rw (h, f, e)

  -- the area comes next, and no block more is in use
  pub area-done : is_sound c ≡ true → leb 64 c.count ≡ false → area_judged (nodes_of c) depth code end ≡ Ok tt →
      accepted (grown c (node_as depth code version (Area end)) c.used) ≡ area_added c depth code end version
  unfolding area_added add_area
  area-done h f e = rw (h, f, e)

-- a call that an answer refuses, and that else goes on
abbrev unless : Card → Added → Result Unit Refusal → Added
unless c rest (Err r) = refused c r
unless c rest (Ok tt) = rest

-- 8, 7 and 20 as one answer
as_one : (c : Card) (rest : Added) (sound short full : Bool) →
    unless c rest (ahead_of_service sound short full)
    ≡ cond (not sound) (refused c NotBuilt) (cond short (refused c ShortArena) (cond full (refused c TableFull) rest))
unfolding ahead_of_service
as_one c rest false short full = refl
as_one c rest true true full = refl
as_one c rest true false true = refl
as_one c rest true false false = refl

-- nothing is ahead: the arena holds the blocks in use, and a record is free
pub record Clear (arena_len used count : ℕ) : Type 0 where
  pub long : used ≤ arena_len / 16
  pub free : count < 64

-- what the tests say then
clear : (arena_len used count : ℕ) (s k f : Bool) → is_short arena_len used ≡ k → leb 64 count ≡ f → ahead_of_service s k f ≡ Ok tt →
    Clear arena_len used count
unfolding ahead_of_service
clear arena_len used count false k f a b e = absurd (not_done e)
clear arena_len used count true true f a b e = absurd (not_done e)
clear arena_len used count true false true a b e = absurd (not_done e)
clear arena_len used count true false false a b e =
    record { long = omega (arith, ltb-false arena_len (16 * used) a); free = leb-false 64 count b }

module _ (c : Card) (arena_len depth code blocks version : ℕ) where
  -- where a service is placed that nothing ahead refuses
  abbrev given : Result Placed Refusal
  given = agreed c.system.join blocks (placed_of (nodes_of c) c.used arena_len depth code blocks)

  -- the definition: what is ahead, then the placing
  ordered : unless c (service_by c depth code version given) (ahead_of_service (is_sound c) (is_short arena_len c.used) (leb 64 c.count))
      ≡ service_added c arena_len depth code blocks version
  unfolding service_added add_service
  ordered = as_one c (service_by c depth code version given) (is_sound c) (is_short arena_len c.used) (leb 64 c.count)

  module _ {a : Result Unit Refusal} (told : a ≡ ahead_of_service (is_sound c) (is_short arena_len c.used) (leb 64 c.count)) where
    -- once nothing is ahead the arena is long enough, and a record is free
    pub service-clear : a ≡ Ok tt → Clear arena_len c.used c.count
    service-clear e =
        clear arena_len c.used c.count (is_sound c) (is_short arena_len c.used) (leb 64 c.count) refl refl (sym told ∙ e)

    -- 8, 7 and 20
    pub service-ahead : {r : Refusal} → a ≡ Err r → refused c r ≡ service_added c arena_len depth code blocks version
    service-ahead e = ap (unless c (service_by c depth code version given)) (sym e ∙ told) ∙ ordered

    -- then those of the placing
    pub service-refused : {r : Refusal} → a ≡ Ok tt →
        agreed c.system.join blocks (placed_of (nodes_of c) c.used arena_len depth code blocks) ≡ Err r →
        refused c r ≡ service_added c arena_len depth code blocks version
    service-refused e k = ap (service_by c depth code version) (sym k) ∙ ap (unless c (service_by c depth code version given)) (sym e ∙ told) ∙ ordered

    -- the service comes next, with the store that it was given
    pub service-stored : {s b u : ℕ} → a ≡ Ok tt →
        agreed c.system.join blocks (placed_of (nodes_of c) c.used arena_len depth code blocks) ≡ placed_at s b u →
        accepted (grown c (node_as depth code version (Service s b None)) u) ≡ service_added c arena_len depth code blocks version
    service-stored e k = ap (service_by c depth code version) (sym k) ∙ ap (unless c (service_by c depth code version given)) (sym e ∙ told) ∙ ordered

module _ (c : Card) (arena : List ℕ) {x a : Added} (e : x ≡ a) where
  -- the blocks in use before an addition and after it say what becomes of the arena
  pub arena-after : put arena (16 * c.used) (16 * (x.card.used - c.used)) (replicate (16 * (x.card.used - c.used)) 0) ≡ arena_added c a arena
  unfolding arena_added
  arena-after = ap (λ (y : Added). arena_added c y arena) e

  -- where they are the same it is left as it was
  pub arena-kept : x.card.used ≡ c.used → arena ≡ arena_added c a arena
  unfolding arena_added
  arena-kept h =
      let z : x.card.used - c.used ≡ 0 = omega arith in
      sym (put_zero arena (16 * c.used) (replicate 0 0)) ∙ rw z at arena-after

-- the card with another record in place of the last
abbrev pub with-last : Card → Node → Added
with-last c n = accepted (record { nodes = set c.nodes (c.count - 1) n; count = c.count; used = c.used; system = c.system })

module _ (c : Card) (upper lower : ℤ) (generation : ℕ) where
  -- refusal 8
  pub limit-unsound : is_sound c ≡ false → refused c NotBuilt ≡ limit_added c upper lower generation
  unfolding limit_added
  limit-unsound h = rw h

  -- 28 for an area
  pub limit-refused : {e : ℕ} (n : Node) → is_sound c ≡ true → n ≡ last_node c → n.entry ≡ Area e →
      refused c NotAService ≡ limit_added c upper lower generation
  unfolding limit_added set_limit
  limit-refused n h k e = rw (h, ← k, e)

  -- a service gets the limit, and nothing else is changed
  pub limit-set : {s b : ℕ} {l : Option Limit} (n : Node) → is_sound c ≡ true → n ≡ last_node c → n.entry ≡ Service s b l →
      with-last c (node_as n.depth n.code n.version (Service s b (limited_to upper lower generation))) ≡ limit_added c upper lower generation
  unfolding limit_added set_limit
  limit-set n h k e = rw (h, ← k, e, ← k)
