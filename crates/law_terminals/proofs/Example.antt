-- The theorems are not empty: a card, an order with writes on both sides and its answers, computed; an order of requests that name one
-- number, where the answers differ; and the race of the sample, an instance of the tower's theorem. Assumes nothing.
use Prim.Native.Nat.{ℕ, zero, suc, ◌+◌}
use native.Mathlib.Omega.{arith}
use mathlib.Core.Path.{◌≡◌, refl, sym, subst}
use mathlib.Core.Logic.{◌⊎◌, inl, inr, ⊎_elim}
use mathlib.Core.Bool.{false, true, ◌||◌, false≢true}
use lib.Dec.{eqb}
use mathlib.Core.List.{List, [], ◌∷◌, ◌++◌}
use lib.IntN.{pos}
use lib.ListN.{length, replicate}
use Rattle.answers.specs.declared.status.Fault.{Fault}
use Rattle.answers.specs.declared.status.Fault.TheVariants.{Attribute, BlockNumber, OutsideWord}
use Rattle.answers.specs.declared.refusal.Refusal.{Refusal}
use Rattle.answers.specs.declared.refusal.Refusal.TheVariants.{ListLength}
use Rattle.service_code.specs.Code.{number_of, attributes_of, table_of, decoded_of, attribute_of, code_kind_of, requires_key}
use Rattle.block_list.specs.Element.{unpack_at, ends_from, ends_after, elements_from}
use Rattle.byte_parts.specs.Part.{part, put, same_bytes}
use Rattle.byte_parts.specs.Word.{word_at, word_bytes, signed_of, word_of}
use Rattle.rule_purse.specs.Purse.{value_of, inside_of, outside_of, sum_of, stored_of, purse_rule}
use Rattle.rule_cyclic.specs.Cyclic.{cyclic_of}
use Rattle.rule_purse.specs.Bytes.{purse_data_of, block_of, purse_applied}
use Rattle.card_nodes.specs.Find.{first_from, open_at, parent_from}
use Rattle.card_admit.specs.Admit.{is_depth, parent_at, root_misfit, outside, area_under, area_judged, service_under, same_kind, joined_to, usable, new_store, may_join, placed_of}
use Rattle.card_sound.specs.Sound.{is_root, all_roots, step_of, steps_from, steps_of, sound_of}
use Rattle.card_build.specs.declared.card.Card.{Card}
use Rattle.card_build.specs.Card.{system_of, new_card}
use Rattle.card_build.specs.Grow.{add_area, add_service, set_limit}
use Rattle.card_laws.specs.Built.{Built, new, area, service, limit}
use Rattle.card_laws.proofs.Laid.{sized}
use Rattle.request_check.specs.Row.{row_of}
use Rattle.request_check.specs.Check.{mode_allowed, attribute_check, service_check, row_check, element_check, checked_from}
use Rattle.request_rules.specs.Lens.{back, within}
use Rattle.request_rules.specs.Rules.{cashback_in, element_by, end_by, on_store}
use Rattle.request_runs.specs.Runs.{then, push, runs_of, scan, walk}
use Rattle.request_runs.specs.Staged.{staged}
use Rattle.request_plan.specs.declared.Reply.{Reply}
use Rattle.request_plan.specs.declared.Reply.TheVariants.{Refused, Done, Failed}
use Rattle.request_plan.specs.Request.{Request, read_request, write_request}
use Rattle.request_plan.specs.Plan.{write_judged, read_judged, judged_with, plan_of}
use Rattle.request_plan.specs.Serve.{blocks_read, committed, carried, serve, output_after}
use Rattle.law_terminals.specs.Orders.{Marked, by, one, two, only, all, after, answers, told, Undisturbed}
use Rattle.law_terminals.specs.Two.{Answer, answer_of, arena_after, Any, All, Names, HasNumber, NoneShared}
use Rattle.law_terminals.specs.Last.{NamesBlock, Quiet, arena_then, Redrawn}
use Rattle.law_terminals.specs.Runs.{Exchange, RanAlong, Call, reads, writes, request_of, Left, left_by}
use Rattle.law_terminals.proofs.Two.{two_terminals}
use Rattle.law_terminals.proofs.Last.{tower_reads}
use Rattle.law_terminals.proofs.Race as Race

-- lanes, a random store of two blocks, number 41h, of a system that joins
abbrev lanes : Card
lanes = (add_service (new_card (system_of 1 0 true)) 80 1 0x1049 2 0).card

-- with a read-only service that joins it, of another count
abbrev towers : Card
towers = (add_service lanes 80 1 0x104b 9 0).card

-- a purse of one block, number 42h
abbrev credit : Card
credit = (add_service towers 80 1 0x1095 1 0).card

-- a ring of two, number 43h
abbrev card : Card
card = (add_service credit 80 1 0x10cd 2 0).card

-- both cards are built
built : Built card × Built Race.race
unfolding add_area area_judged area_under root_misfit set_limit add_service placed_of is_depth parent_at parent_from open_at first_from service_under outside same_kind joined_to usable new_store may_join number_of attributes_of table_of decoded_of attribute_of code_kind_of
built = (
  service {c = credit} 80 1 0x10cd 2 0
      (service {c = towers} 80 1 0x1095 1 0
      (service {c = lanes} 80 1 0x104b 9 0
      (service {c = new_card (system_of 1 0 true)} 80 1 0x1049 2 0 (new (system_of 1 0 true)) refl) refl) refl) refl,
  service {c = Race.limited} 112 2 0x1097 1 0
      (limit {c = Race.credit} (pos 120) (pos 0) 1
      (service {c = Race.towers} 112 2 0x1095 1 0
      (service {c = Race.marshals} 112 2 0x104b 6 0
      (service {c = Race.field} 112 2 0x1049 6 0
      (area {c = new_card (system_of 1 0 false)} 1 0x1040 0x10bf 0 (new (system_of 1 0 false)) refl) refl) refl) refl) refl) refl,
)

-- 80 bytes: empty lanes, a credit of 100, two blocks of 7
abbrev arena : List ℕ
arena = replicate 32 0 ++ (100 ∷ replicate 15 0) ++ replicate 32 7

-- an open read of one element, of two list bytes: block `number` of the code
abbrev reading : ℕ → ℕ → Request
reading code number = read_request true (code ∷ []) 1 (0x80 ∷ number ∷ []) 16

-- the same with one list byte, which is refused
abbrev cut : ℕ → Request
cut code = read_request true (code ∷ []) 1 (0x80 ∷ []) 16

-- an open write of one element
abbrev writing : ℕ → ℕ → List ℕ → Request
writing code number block = write_request true (code ∷ []) 1 (0x80 ∷ number ∷ []) block 80

-- an amount paid, by an execution id
abbrev paying : ℕ → ℕ → Request
paying amount id = writing 0x1095 0 (amount ∷ replicate 11 0 ++ (id ∷ 0 ∷ 0 ∷ 0 ∷ []))

abbrev done : List ℕ → Answer
done bytes = record { reply = Done; read = bytes }

abbrev fails : Fault → Answer
fails f = record { reply = Failed 0 f; read = [] }

abbrev refused : Refusal → Answer
refused x = record { reply = Refused x; read = [] }

-- an open read that lists FFFF, the root's code and an unknown one beside a code, and names block 0 of the code at an index
abbrev listing : ℕ → ℕ → Request
listing code index = read_request true (0xffff ∷ 0 ∷ 0x2009 ∷ code ∷ []) 1 ((0x80 + index) ∷ 0 ∷ []) 16

-- one writes a lane, reads it through the other service, asks for a lane that is not there, and sends a request cut short; both list
-- FFFF, the root's code and an unknown one, and one names the first of them; two pays twice from a credit of 100, the second time too much, writes to its ring, and pays the rest
abbrev order : List (Marked Request)
order =
    by two (paying 60 1)
    ∷ by one (writing 0x1049 1 (replicate 16 9))
    ∷ by two (paying 60 2)
    ∷ by one (reading 0x104b 1)
    ∷ by two (writing 0x10cd 0 (replicate 16 5))
    ∷ by one (reading 0x1049 2)
    ∷ by one (cut 0x104b)
    ∷ by one (listing 0x104b 0)
    ∷ by two (paying 40 3)
    ∷ by two (listing 0x10cd 3)
    ∷ []

-- what an order is told at this card
abbrev told_all : List (Marked Request) → List (Marked Answer)
told_all zs = told (answer_of card) (arena_after card) arena zs

-- what a list is told alone
abbrev told_alone : List Request → List Answer
told_alone rs = answers (answer_of card) (arena_after card) arena rs

-- the arena that a list leaves
abbrev leaves : List Request → List ℕ
leaves rs = after (answer_of card) (arena_after card) arena rs

-- the answers in that order
abbrev Told : Type 0
Told =
    told_all order
    ≡ by two (done [])
    ∷ by one (done [])
    ∷ by two (fails OutsideWord)
    ∷ by one (done (replicate 16 9))
    ∷ by two (done [])
    ∷ by one (fails BlockNumber)
    ∷ by one (refused ListLength)
    ∷ by one (fails Attribute)
    ∷ by two (done [])
    ∷ by two (done (replicate 16 5))
    ∷ []

-- the answers of one alone, and of two alone
abbrev Alone : Type 0
Alone =
    (told_alone (only one order) ≡ done [] ∷ done (replicate 16 9) ∷ fails BlockNumber ∷ refused ListLength ∷ fails Attribute ∷ [])
    × (told_alone (only two order) ≡ done [] ∷ fails OutsideWord ∷ done [] ∷ done [] ∷ done (replicate 16 5) ∷ [])

-- the arena after it: the lane written, all credit paid (40 by id 3), the ring turned
abbrev Ends : Type 0
Ends =
    leaves (all order)
    ≡ replicate 16 0 ++ replicate 16 9 ++ (0 ∷ 0 ∷ 0 ∷ 0 ∷ 40 ∷ replicate 7 0) ++ (3 ∷ 0 ∷ 0 ∷ 0 ∷ []) ++ replicate 16 5 ++ replicate 16 7

-- both pay from the one credit: in turn two is told 01, alone it is told 00
abbrev both : List (Marked Request)
both = by one (paying 60 1) ∷ by two (paying 60 2) ∷ []

abbrev Disturbed : Type 0
Disturbed = (only two (told_all both) ≡ fails OutsideWord ∷ []) × (told_alone (only two both) ≡ done [] ∷ [])

-- The marshal writes lane 1 twice in one request, and lane 0 between; the tower reads lane 1 through the read-only service.
abbrev redraw : Request
redraw =
    write_request true (0x1049 ∷ []) 3 (0x80 ∷ 1 ∷ 0x80 ∷ 0 ∷ 0x80 ∷ 1 ∷ []) (replicate 16 1 ++ replicate 16 2 ++ replicate 16 3) 80

-- in between: a write to lane 1 by the read-only service fails, one cut short is refused, a payment and a read are accepted
abbrev between : List Request
between =
    writing 0x104b 1 (replicate 16 4)
    ∷ write_request true (0x1049 ∷ []) 1 (0x80 ∷ []) (replicate 16 5) 80
    ∷ paying 60 1
    ∷ reading 0x1049 1
    ∷ []

-- what the tower is told after requests that follow the write
abbrev tower_told : List Request → Answer
tower_told rs = answer_of card (arena_then card arena redraw rs) (reading 0x104b 1)

-- the last bytes written; and if an accepted write follows, those of that one
abbrev Redraws : Type 0
Redraws =
    (tower_told between ≡ done (replicate 16 3))
    × (tower_told (between ++ (writing 0x1049 1 (replicate 16 4) ∷ [])) ≡ done (replicate 16 4))

-- a number of which the card has a service, by the numbers of its services
has_one : {k : ℕ} → HasNumber card k → (k ≡ 0x41) ⊎ (k ≡ 0x42) ⊎ (k ≡ 0x43)
unfolding add_service placed_of is_depth parent_at parent_from open_at first_from service_under outside same_kind joined_to usable new_store may_join number_of attributes_of table_of decoded_of attribute_of code_kind_of
has_one (inl h) = absurd (false≢true h.0)
has_one (inr (inl h)) = inl (sym h.1)
has_one (inr (inr (inl h))) = inl (sym h.1)
has_one (inr (inr (inr (inl h)))) = inr (inl (sym h.1))
has_one (inr (inr (inr (inr (inl h))))) = inr (inr (sym h.1))
has_one (inr (inr (inr (inr (inr h))))) = absurd h

-- what holds of the number of each code holds of each number that is named
module _ (Q : ℕ → Type 0) where
  of_codes_lem : (codes : List ℕ) → All (λ code. Q (number_of code)) codes → (k : ℕ) → Any (λ code. number_of code ≡ k) codes → Q k
  of_codes_lem [] f k h = absurd h
  of_codes_lem (code ∷ codes) f k (inl h) = subst Q h f.0
  of_codes_lem (code ∷ codes) f k (inr h) = of_codes_lem codes f.1 k h

  of_requests : (rs : List Request) → All (λ r. All (λ code. Q (number_of code)) r.codes) rs → (k : ℕ) → Any (Names k) rs → Q k
  of_requests [] f k h = absurd h
  of_requests (r ∷ rs) f k (inl h) = of_codes_lem r.codes f.0 k h
  of_requests (r ∷ rs) f k (inr h) = of_requests rs f.1 k h

-- the order is one of the theorem: of the card's numbers one names 41h only, and two 42h and 43h
order_apart : NoneShared card (only one order) (only two order)
unfolding only number_of
order_apart k h p q =
    let x : eqb k 0x42 || eqb k 0x43 ≡ false =
    of_requests (λ n. eqb n 0x42 || eqb n 0x43 ≡ false) (only one order)
    ((refl, tt), ((refl, tt), ((refl, tt), ((refl, tt), ((refl, (refl, (refl, (refl, tt)))), tt))))) k p in
    let y : eqb k 0x41 ≡ false =
    of_requests (λ n. eqb n 0x41 ≡ false) (only two order)
    ((refl, tt), ((refl, tt), ((refl, tt), ((refl, tt), ((refl, (refl, (refl, (refl, tt)))), tt))))) k q in
    ⊎_elim (λ e. false≢true (sym (rw e at y))) (⊎_elim (λ e. false≢true (sym (rw e at x))) (λ e. false≢true (sym (rw e at x)))) (has_one h)

order_undisturbed : Undisturbed (answer_of card) (arena_after card) arena order
order_undisturbed = two_terminals card (sized built.0).long arena order order_apart

-- a payment names no lane
unnamed : (i : ℕ) → NamesBlock 0x41 1 (paying 60 1) i → ⊥
unfolding number_of unpack_at elements_from
unnamed zero h = let n = h.number in omega arith
unnamed (suc i) h = let l = h.listed in omega arith

-- these are requests of the theorem
abbrev IsRedrawn : Type 0
IsRedrawn = Redrawn card 0x41 1 (replicate 16 3) arena redraw between (reading 0x104b 1)

-- The redraw is accepted, and the fourth request is told lane 1 as first drawn, lanes 2 and 3 as redrawn. Of lane 1 the theorem speaks.
abbrev Raced : Type 0
Raced =
    ((serve Race.race (arena_after Race.race Race.arena Race.draw) Race.redraw).reply ≡ Done)
    × (answer_of Race.race (arena_then Race.race Race.arena Race.draw Race.between) Race.look ≡ done (Race.leander ++ Race.molesey_two ++ Race.thames_three))
    × Redrawn Race.race 0x41 0 Race.leander Race.arena Race.draw Race.between Race.look

-- The premises are not idle: an accepted write to the lane is not quiet, and the two codes of the lanes' number are shared.
abbrev Premises : Type 0
Premises =
    (Quiet card 0x41 1 (arena_after card arena redraw) (writing 0x1049 1 (replicate 16 4) ∷ []) → ⊥)
    × (NoneShared card (reading 0x1049 0 ∷ []) (reading 0x104b 0 ∷ []) → ⊥)

-- a run of two calls: a lane is written, and read through the other service; the staging is left zero
abbrev exchanges : List (Exchange Call (Left Reply))
exchanges =
    record { call = writes true (0x1049 ∷ []) 1 (0x80 ∷ 1 ∷ []) (replicate 16 9) (replicate 80 1); left = record { reply = Done; buffer = replicate 80 0 } }
    ∷ record { call = reads true (0x104b ∷ []) 1 (0x80 ∷ 1 ∷ []) (replicate 16 0); left = record { reply = Done; buffer = replicate 16 9 } }
    ∷ []

-- the arena after it
abbrev lane : List ℕ
lane = replicate 16 0 ++ replicate 16 9 ++ (100 ∷ replicate 15 0) ++ replicate 32 7

abbrev IsRun : Type 0
IsRun = RanAlong card request_of (left_by (λ (x : Reply). x) card) arena exchanges lane

-- all of it, computed by the definitions
computed : Told × Alone × Ends × Disturbed × Redraws × Premises × IsRun × IsRedrawn × Raced
unfolding add_area area_judged area_under root_misfit set_limit add_service placed_of is_depth parent_at parent_from open_at first_from service_under outside same_kind joined_to usable new_store may_join number_of attributes_of table_of decoded_of attribute_of code_kind_of requires_key unpack_at ends_from ends_after elements_from part put same_bytes word_at word_bytes signed_of word_of cyclic_of value_of inside_of outside_of sum_of stored_of purse_rule purse_data_of block_of purse_applied is_root all_roots step_of steps_from steps_of sound_of row_of mode_allowed attribute_check service_check row_check element_check checked_from then push runs_of scan walk back within cashback_in element_by end_by on_store staged write_judged read_judged judged_with plan_of blocks_read committed carried serve only all after answers told
computed = (
  refl,
  (refl, refl),
  refl,
  (refl, refl),
  (refl, refl),
  (
    λ q. q.0 refl refl 0 (record { listed = omega arith; number = refl; block = refl }),
    λ n. n 0x41 (inr (inl (refl, refl))) (inl (inl refl)) (inl (inl refl)),
  ),
  (lane, (refl, refl), (lane, (refl, refl), refl)),
  record {
    write = refl;
    written = refl;
    brings = record {
      place = 2;
      names = record { listed = omega arith; number = refl; block = refl };
      last = λ j l m. let h = m.listed in omega arith;
      random = refl;
      bytes = refl;
    };
    quiet = (
      λ t e i n. let z : ◌≡◌ {A = ℕ} 0 1 = cc in omega arith,
      (λ t e i n. let z : ◌≡◌ {A = ℕ} 0 1 = cc in omega arith, (λ t e i n. unnamed i n, (λ t e i n. absurd (false≢true t), tt))),
    );
    read = refl;
    answered = refl;
  },
  (
    refl,
    refl,
    record {
      write = refl;
      written = refl;
      brings = record {
        place = 0;
        names = record { listed = omega arith; number = refl; block = refl };
        last = Race.draw_later;
        random = refl;
        bytes = refl;
      };
      quiet = (λ t e i n. absurd (false≢true t), (λ t e i n. Race.redraw_spares i n, tt));
      read = refl;
      answered = refl;
    },
  ),
)

-- so by the theorem the tower reads what the last element brought
tower_told_lem : part (output_after (replicate 16 0) (serve card (arena_then card arena redraw between) (reading 0x104b 1))) 0 16 ≡ replicate 16 3
unfolding number_of unpack_at elements_from
tower_told_lem =
    tower_reads card (sized built.0).long 0x41 1 (replicate 16 3) arena redraw between (reading 0x104b 1) computed.7 0
    (record { listed = omega arith; number = refl; block = refl }) (replicate 16 0) refl

-- and what it reads of lane 1 in the race, in whatever output it is lent
lane_one
    : (out : List ℕ) → length out ≡ 48
    → part (output_after out (serve Race.race (arena_then Race.race Race.arena Race.draw Race.between) Race.look)) 0 16 ≡ Race.leander
unfolding number_of unpack_at elements_from
lane_one out l =
    tower_reads Race.race (sized built.1).long 0x41 0 Race.leander Race.arena Race.draw Race.between Race.look computed.8.2 0
    (record { listed = omega arith; number = refl; block = refl }) out l
