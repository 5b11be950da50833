-- The theorem is not empty, and its premises are needed: a write of every kind that does no harm when it is sent again, and writes that do,
-- computed. Assumes nothing.
use Prim.Native.Nat.{ℕ, zero, suc, ◌*◌, ◌≤◌, ◌<◌}
use native.Mathlib.Omega.{arith}
use mathlib.Core.Path.{◌≡◌, refl, sym, ap, ◌∙◌}
use mathlib.Core.Bool.{true, false, false≢true}
use mathlib.Core.List.{List, [], ◌∷◌, ◌++◌}
use lib.ListN.{get_or, replicate}
use Rattle.answers.specs.declared.status.Fault.{Fault}
use Rattle.answers.specs.declared.status.Fault.TheVariants.{PurseRaised, OutsideWord}
use Rattle.answers.specs.declared.refusal.Refusal.{Refusal}
use Rattle.answers.specs.declared.refusal.Refusal.TheVariants.{ShortStaging}
use Rattle.service_code.specs.declared.code.ServiceKind.TheVariants.{Cyclic, Purse}
use Rattle.service_code.specs.Code.{number_of, attributes_of, table_of, decoded_of, attribute_of, code_kind_of, requires_key}
use Rattle.block_list.specs.Element.{unpack_at, ends_from, ends_after, elements_from}
use Rattle.byte_parts.specs.Part.{part, put, same_bytes}
use Rattle.byte_parts.specs.Word.{word_at, word_bytes, signed_of, word_of}
use Rattle.rule_purse.specs.Purse.{value_of, inside_of, outside_of, sum_of, stored_of, purse_rule}
use Rattle.rule_cyclic.specs.Cyclic.{cyclic_of}
use Rattle.rule_purse.specs.Bytes.{purse_data_of, block_of, purse_applied}
use Rattle.card_nodes.specs.Find.{first_from, open_at, parent_from}
use Rattle.card_admit.specs.Admit.{is_depth, parent_at, outside, service_under, same_kind, joined_to, usable, new_store, may_join, placed_of}
use Rattle.card_sound.specs.Sound.{is_root, all_roots, step_of, steps_from, steps_of, sound_of}
use Rattle.card_build.specs.declared.card.Card.{Card}
use Rattle.card_build.specs.Card.{system_of, new_card}
use Rattle.card_build.specs.Grow.{add_service}
use Rattle.card_laws.specs.Built.{Built, new, service}
use Rattle.request_check.specs.Row.{row_of}
use Rattle.request_check.specs.Check.{mode_allowed, attribute_check, service_check, row_check, element_check, checked_from}
use Rattle.request_rules.specs.Lens.{back, within}
use Rattle.request_rules.specs.Rules.{cashback_in, element_by, end_by, on_store}
use Rattle.request_runs.specs.Runs.{then, push, runs_of, scan, walk}
use Rattle.request_runs.specs.Staged.{staged}
use Rattle.request_plan.specs.declared.Reply.{Reply}
use Rattle.request_plan.specs.declared.Reply.TheVariants.{Refused, Done, Failed}
use Rattle.request_plan.specs.Request.{Request, read_request, write_request}
use Rattle.request_plan.specs.Plan.{write_judged, read_judged, judged_with, plan_of}
use Rattle.request_plan.specs.Serve.{blocks_read, committed, carried, serve}
use Rattle.law_terminals.specs.Orders.{after}
use Rattle.law_terminals.specs.Two.{arena_after}
use Rattle.law_terminals.specs.Last.{code_named}
use Rattle.law_resend.specs.Resend.{NamesOfKind, PursesOnce, RingsOnce, Idle, lending, Harmless}
use Rattle.law_resend.proofs.Resend.{idle_each, built_resent}

-- lanes, a random store of one block, number 41h
abbrev lanes : Card
lanes = (add_service (new_card (system_of 1 0 false)) 96 1 0x1049 1 0).card

-- a purse of two blocks, number 42h: what is paid, what is given back or paid, what is lowered directly
abbrev paid : Card
paid = (add_service lanes 96 1 0x1095 2 0).card

abbrev given : Card
given = (add_service paid 96 1 0x1093 2 0).card

abbrev lowered : Card
lowered = (add_service given 96 1 0x1091 2 0).card

-- a ring of three, number 43h
abbrev card : Card
card = (add_service lowered 96 1 0x10cd 3 0).card

built : Built card
unfolding add_service placed_of is_depth parent_at parent_from open_at first_from service_under outside same_kind joined_to usable new_store may_join number_of attributes_of table_of decoded_of attribute_of code_kind_of
built =
    service {c = lowered} 96 1 0x10cd 3 0
    (service {c = given} 96 1 0x1091 2 0
    (service {c = paid} 96 1 0x1093 2 0
    (service {c = lanes} 96 1 0x1095 2 0
    (service {c = new_card (system_of 1 0 false)} 96 1 0x1049 1 0 (new (system_of 1 0 false)) refl) refl) refl) refl) refl

-- the arena: a lane, the two blocks of the purse, the ring
abbrev arena_of : ℕ → List ℕ → List ℕ → List ℕ → List ℕ
arena_of lane first second ring = replicate 16 lane ++ first ++ second ++ ring

-- a purse of that much, its cashback, its last execution id
abbrev purse : ℕ → ℕ → ℕ → List ℕ
purse value back id = value ∷ 0 ∷ 0 ∷ 0 ∷ back ∷ replicate 7 0 ++ (id ∷ 0 ∷ 0 ∷ 0 ∷ [])

-- three blocks of a ring
abbrev ring : ℕ → ℕ → ℕ → List ℕ
ring x y z = replicate 16 x ++ replicate 16 y ++ replicate 16 z

-- an empty lane, credits of 100 and 50, a ring of 1, 2, 3
abbrev arena : List ℕ
arena = arena_of 0 (purse 100 0 0) (purse 50 0 0) (ring 1 2 3)

-- an open write
abbrev writing : List ℕ → ℕ → List ℕ → List ℕ → Request
writing codes count list «data» = write_request true codes count list «data» 96

-- an amount paid, by an execution id
abbrev pay : ℕ → ℕ → List ℕ
pay amount id = purse amount 0 id

-- Every kind at once: a payment, the lane twice, a payment from the other block through the other service, two blocks to the ring.
abbrev every : Request
every =
    writing (0x1095 ∷ 0x1049 ∷ 0x1093 ∷ 0x10cd ∷ []) 6
    (0x80 ∷ 0 ∷ 0x81 ∷ 0 ∷ 0x81 ∷ 0 ∷ 0x82 ∷ 1 ∷ 0x83 ∷ 0 ∷ 0x83 ∷ 0 ∷ [])
    (pay 10 1 ++ replicate 16 8 ++ replicate 16 9 ++ pay 5 2 ++ replicate 16 5 ++ replicate 16 6)

-- A purse block named twice, through two services.
abbrev twice : Request
twice = writing (0x1095 ∷ 0x1093 ∷ []) 2 (0x80 ∷ 0 ∷ 0x81 ∷ 0 ∷ []) (pay 10 1 ++ pay 10 2)

-- Named twice by one code, with a lane between.
abbrev parted : Request
parted = writing (0x1095 ∷ 0x1049 ∷ []) 3 (0x80 ∷ 0 ∷ 0x81 ∷ 0 ∷ 0x80 ∷ 0 ∷ []) (pay 10 1 ++ replicate 16 9 ++ pay 10 2)

-- Lowered twice directly.
abbrev lowering : Request
lowering = writing (0x1091 ∷ []) 2 (0x80 ∷ 0 ∷ 0x80 ∷ 0 ∷ []) (purse 90 0 0 ++ purse 80 0 0)

-- A cyclic number in two runs, in a ring longer than both together: a lane stands between.
abbrev turned : Request
turned = writing (0x10cd ∷ 0x1049 ∷ []) 3 (0x80 ∷ 0 ∷ 0x81 ∷ 0 ∷ 0x80 ∷ 0 ∷ []) (replicate 16 5 ++ replicate 16 9 ++ replicate 16 6)

-- A payment of too much.
abbrev toomuch : Request
toomuch = writing (0x1095 ∷ []) 1 (0x80 ∷ 0 ∷ []) (pay 200 1)

-- what a request is told and leaves the first time, and the second
pub record Twice (r : Request) (one two : Reply) (a b : List ℕ) : Type 0 where
  pub first : (serve card arena r).reply ≡ one
  pub left : arena_after card arena r ≡ a
  pub second : (serve card a r).reply ≡ two
  pub then-left : arena_after card a r ≡ b

-- what comes of them, by the definitions
computed
    : Twice every Done Done (arena_of 9 (purse 90 10 1) (purse 45 5 2) (ring 5 6 1)) (arena_of 9 (purse 90 10 1) (purse 45 5 2) (ring 5 6 1))
    × Twice twice Done Done (arena_of 0 (purse 80 10 2) (purse 50 0 0) (ring 1 2 3)) (arena_of 0 (purse 60 10 2) (purse 50 0 0) (ring 1 2 3))
    × Twice parted Done Done (arena_of 9 (purse 80 10 2) (purse 50 0 0) (ring 1 2 3)) (arena_of 9 (purse 60 10 2) (purse 50 0 0) (ring 1 2 3))
    × Twice lowering Done (Failed 0 PurseRaised) (arena_of 0 (purse 80 0 0) (purse 50 0 0) (ring 1 2 3)) (arena_of 0 (purse 80 0 0) (purse 50 0 0) (ring 1 2 3))
    × Twice turned Done Done (arena_of 9 (purse 100 0 0) (purse 50 0 0) (ring 6 5 1)) (arena_of 9 (purse 100 0 0) (purse 50 0 0) (ring 6 5 6))
    × Twice toomuch (Failed 0 OutsideWord) (Failed 0 OutsideWord) arena arena
unfolding add_service placed_of is_depth parent_at parent_from open_at first_from service_under outside same_kind joined_to usable new_store may_join number_of attributes_of table_of decoded_of attribute_of code_kind_of requires_key unpack_at ends_from ends_after elements_from part put same_bytes word_at word_bytes signed_of word_of cyclic_of value_of inside_of outside_of sum_of stored_of purse_rule purse_data_of block_of purse_applied is_root all_roots step_of steps_from steps_of sound_of row_of mode_allowed attribute_check service_check row_check element_check checked_from then push runs_of scan walk back within cashback_in element_by end_by on_store staged write_judged judged_with plan_of committed carried serve
computed = (
  record { first = refl; left = refl; second = refl; then-left = refl },
  record { first = refl; left = refl; second = refl; then-left = refl },
  record { first = refl; left = refl; second = refl; then-left = refl },
  record { first = refl; left = refl; second = refl; then-left = refl },
  record { first = refl; left = refl; second = refl; then-left = refl },
  record { first = refl; left = refl; second = refl; then-left = refl },
)

-- a request that leaves another byte the second time, or is not accepted, does harm
harms : {r : Request} {one : Reply} {a b : List ℕ} (i : ℕ) → Twice r one Done a b → (get_or b i 0 ≡ get_or a i 0 → ⊥) →
    Harmless card arena r [] r.room → ⊥
unfolding after
harms i x f h = f (ap (λ (l : List ℕ). get_or l i 0) (rw (x.left, x.then-left) at h.unchanged))

-- what fails or is refused is not accepted
failed : {i : ℕ} {f : Fault} → Failed i f ≡ Done → ⊥
failed e = let z : ◌≡◌ {A = ℕ} 0 1 = cc in omega arith

not_served : {r : Refusal} → Refused r ≡ Done → ⊥
not_served e = let z : ◌≡◌ {A = ℕ} 0 1 = cc in omega arith

-- the purse paid twice more, the ring turned on, the lowered purse raised: none of these is harmless
harmful
    : (Harmless card arena twice [] 96 → ⊥) × (Harmless card arena parted [] 96 → ⊥) × (Harmless card arena turned [] 96 → ⊥)
    × (Harmless card arena lowering [] 96 → ⊥) × (Harmless card arena toomuch [] 96 → ⊥)
unfolding after
harmful = (
  harms 16 computed.1 (λ e. omega arith),
  harms 16 computed.2 (λ e. omega arith),
  harms 80 computed.4 (λ e. omega arith),
  λ h. failed (sym computed.3.second ∙ (rw computed.3.left at h.done)),
  λ h. failed (sym computed.5.second ∙ (rw computed.5.left at h.done)),
)

-- where the premises fail: a purse block is named twice, by two codes, by elements that are not neighbours, directly; a ring has two runs
premises
    : (PursesOnce twice → ⊥) × (PursesOnce parted → ⊥) × (PursesOnce lowering → ⊥) × (RingsOnce turned → ⊥)
    × (code_named twice 0 ≡ code_named twice 1 → ⊥)
unfolding number_of attributes_of table_of decoded_of attribute_of code_kind_of unpack_at elements_from
premises = (
  λ q. q 0x42 0 0 1 (omega arith) (record { listed = omega arith; kinded = refl; number = refl; block = refl })
      (record { listed = omega arith; kinded = refl; number = refl; block = refl }),
  λ q. q 0x42 0 0 2 (omega arith) (record { listed = omega arith; kinded = refl; number = refl; block = refl })
      (record { listed = omega arith; kinded = refl; number = refl; block = refl }),
  λ q. q 0x42 0 0 1 (omega arith) (record { listed = omega arith; kinded = refl; number = refl; block = refl })
      (record { listed = omega arith; kinded = refl; number = refl; block = refl }),
  λ q.
      let e = q 0x43 0 0 0 1 2 (omega arith) (omega arith) (record { listed = omega arith; kinded = refl; number = refl; block = refl })
      (record { listed = omega arith; kinded = refl; number = refl; block = refl }) in
      omega arith,
  λ e. omega arith,
)

-- and the other premise holds there
no_ring : (n b i : ℕ) → NamesOfKind Cyclic n b twice i → ⊥
unfolding number_of attributes_of table_of decoded_of attribute_of code_kind_of unpack_at elements_from
no_ring n b zero h = let z : ◌≡◌ {A = ℕ} 0 1 = let q = h.kinded in cc in omega arith
no_ring n b (suc zero) h = let z : ◌≡◌ {A = ℕ} 0 1 = let q = h.kinded in cc in omega arith
no_ring n b (suc (suc i)) h = let l = h.listed in omega arith

no_purse : (n b i : ℕ) → NamesOfKind Purse n b turned i → ⊥
unfolding number_of attributes_of table_of decoded_of attribute_of code_kind_of unpack_at elements_from
no_purse n b zero h = let z : ◌≡◌ {A = ℕ} 0 1 = let q = h.kinded in cc in omega arith
no_purse n b (suc zero) h = let z : ◌≡◌ {A = ℕ} 0 1 = let q = h.kinded in cc in omega arith
no_purse n b (suc (suc zero)) h = let z : ◌≡◌ {A = ℕ} 0 1 = let q = h.kinded in cc in omega arith
no_purse n b (suc (suc (suc i))) h = let l = h.listed in omega arith

others : RingsOnce twice × PursesOnce turned
others = (λ n b d i k j l m x y. absurd (no_ring n b i x), λ n b i j l x y. no_purse n b i x)

-- in the write of every kind elements 0 and 3 name blocks 0 and 1 of the purse, and elements 4 and 5 the ring
every_purse : (n b i : ℕ) → NamesOfKind Purse n b every i → i ≡ 3 * b
unfolding number_of attributes_of table_of decoded_of attribute_of code_kind_of unpack_at elements_from
every_purse n b zero h = let q = h.block in omega arith
every_purse n b (suc zero) h = let z : ◌≡◌ {A = ℕ} 0 1 = let q = h.kinded in cc in omega arith
every_purse n b (suc (suc zero)) h = let z : ◌≡◌ {A = ℕ} 0 1 = let q = h.kinded in cc in omega arith
every_purse n b (suc (suc (suc zero))) h = let q = h.block in omega arith
every_purse n b (suc (suc (suc (suc zero)))) h = let z : ◌≡◌ {A = ℕ} 0 1 = let q = h.kinded in cc in omega arith
every_purse n b (suc (suc (suc (suc (suc zero))))) h = let z : ◌≡◌ {A = ℕ} 0 1 = let q = h.kinded in cc in omega arith
every_purse n b (suc (suc (suc (suc (suc (suc i)))))) h = let l = h.listed in omega arith

every_ring : (n b i : ℕ) → NamesOfKind Cyclic n b every i → (4 ≤ i) × (i < 6)
unfolding number_of attributes_of table_of decoded_of attribute_of code_kind_of unpack_at elements_from
every_ring n b zero h = let z : ◌≡◌ {A = ℕ} 0 1 = let q = h.kinded in cc in omega arith
every_ring n b (suc zero) h = let z : ◌≡◌ {A = ℕ} 0 1 = let q = h.kinded in cc in omega arith
every_ring n b (suc (suc zero)) h = let z : ◌≡◌ {A = ℕ} 0 1 = let q = h.kinded in cc in omega arith
every_ring n b (suc (suc (suc zero))) h = let z : ◌≡◌ {A = ℕ} 0 1 = let q = h.kinded in cc in omega arith
every_ring n b (suc (suc (suc (suc i)))) h = (omega arith, h.listed)

every_purses : PursesOnce every
every_purses n b i j l x y = omega (arith, l, every_purse n b i x, every_purse n b j y)

every_rings : RingsOnce every
every_rings n b d i k j l m x y = let p = every_ring n b i x in let q = every_ring n d j y in absurd (omega arith)

-- What comes between: a read of the lane, a payment that fails, a write that is refused for its staging.
abbrev look : Request
look = read_request true (0x1049 ∷ []) 1 (0x80 ∷ 0 ∷ []) 16

abbrev overdrawn : Request
overdrawn = writing (0x1095 ∷ []) 1 (0x80 ∷ 0 ∷ []) (pay 200 3)

abbrev between : List Request
between = look ∷ overdrawn ∷ lending 95 every ∷ []

-- The lane, written by another.
abbrev other : Request
other = writing (0x1049 ∷ []) 1 (0x80 ∷ 0 ∷ []) (replicate 16 7)

-- what the first one leaves
abbrev left : List ℕ
left = arena_of 9 (purse 90 10 1) (purse 45 5 2) (ring 5 6 1)

-- how they are answered there: none of those between is an accepted write, the other is, and staging of 95 bytes is too short
replies
    : ((serve card left look).reply ≡ Done) × ((serve card left overdrawn).reply ≡ Failed 0 OutsideWord)
    × ((serve card left (lending 95 every)).reply ≡ Refused ShortStaging)
    × (serve card left other ≡ record { reply = Done; read = []; arena = arena_of 7 (purse 90 10 1) (purse 45 5 2) (ring 5 6 1) })
unfolding add_service placed_of is_depth parent_at parent_from open_at first_from service_under outside same_kind joined_to usable new_store may_join number_of attributes_of table_of decoded_of attribute_of code_kind_of requires_key unpack_at ends_from ends_after elements_from part put same_bytes word_at word_bytes signed_of word_of cyclic_of value_of inside_of outside_of sum_of stored_of purse_rule purse_data_of block_of purse_applied is_root all_roots step_of steps_from steps_of sound_of row_of mode_allowed attribute_check service_check row_check element_check checked_from then push runs_of scan walk back within cashback_in element_by end_by on_store staged write_judged read_judged judged_with plan_of blocks_read committed carried serve
replies = (refl, refl, refl, refl)

idle : Idle card (arena_after card arena every) between
idle = idle_each card (arena_after card arena every) between (rw computed.0.left (
  λ (t, d). false≢true t,
  (
    λ (t, d). failed (sym replies.1 ∙ d),
    (λ (t, d). not_served (sym replies.2 ∙ d), tt),
  ),
))

-- after the other's write it is accepted and changes what that one wrote; with too little staging it is refused
needed : (Harmless card arena every (other ∷ []) 96 → ⊥) × (Harmless card arena every [] 95 → ⊥)
unfolding after
needed = (
  λ h.
      let q : get_or (serve card left other).arena 0 0 ≡ get_or left 0 0 = ap (λ (l : List ℕ). get_or l 0 0) (rw computed.0.left at h.kept) in
      let z : ◌≡◌ {A = ℕ} 7 9 = rw replies.3 at q in
      omega arith,
  λ h. not_served (sym replies.2 ∙ (rw computed.0.left at h.done)),
)

in_use : card.used ≡ 6
unfolding add_service placed_of is_depth parent_at parent_from open_at first_from service_under outside same_kind joined_to usable new_store may_join number_of attributes_of table_of decoded_of attribute_of code_kind_of
in_use = refl

-- so the theorem speaks of it, at once and after those, with staging of any length that is enough
every_harmless : Harmless card arena every [] 96 × Harmless card arena every between 4096
every_harmless = (
  built_resent built arena every [] 96 (refl, computed.0.first) every_purses every_rings tt (omega (arith, in_use)),
  built_resent built arena every between 4096 (refl, computed.0.first) every_purses every_rings idle (omega (arith, in_use)),
)
