-- An accepted write that is sent again does no harm, where no write between was accepted. Read specs/Resend.antt for the statement:
-- `Resent c`. The last law says that it holds of every card.
use Rattle.std.proofs.Common.{Some, Result, Ok, Err}
use Prim.Native.Nat.{ℕ, ◌+◌, ◌*◌, ◌≤◌}
use native.Mathlib.Omega.{arith}
use native.Mathlib.Decide.{ℕ_discrete}
use mathlib.Core.Path.{◌≡◌, refl, sym, ap, subst, ◌∙◌}
use mathlib.Core.Bool.{Bool, true, false, false≢true}
use mathlib.Core.List.{List, [], ◌∷◌}
use mathlib.Core.Logic.{⊎_elim}
use lib.ListN.{length, get_or, take}
use lib.Seq.{take_all, length-take-le}
use borrow.Author.Tests.{le-ltb}
use Rattle.service_code.specs.declared.code.ServiceKind.{ServiceKind}
use Rattle.service_code.specs.declared.code.ServiceKind.TheVariants.{Random, Cyclic, Purse}
use Rattle.service_code.specs.declared.code.ServiceAttribute.{ServiceAttribute}
use Rattle.service_code.specs.declared.code.ServiceAttribute.TheVariants.{RandomReadWrite, RandomReadOnly, CyclicReadWrite, CyclicReadOnly, PurseDirect, PurseCashback, PurseDecrement, PurseReadOnly}
use Rattle.service_code.specs.Code.{number_of, code_kind_of, kind_of, decoded_kind_of, allows_write}
use Rattle.block_list.specs.declared.element.BlockListElement.{BlockListElement}
use Rattle.byte_parts.specs.Part.{part, put}
use Rattle.byte_parts.proofs.Part.{length_part, length-put, part-put, put-put}
use Rattle.card_build.specs.declared.card.Card.{Card}
use Rattle.card_build.specs.Card.{nodes_of, is_sound}
use Rattle.card_laws.specs.Built.{Built}
use Rattle.card_laws.proofs.Built.{sound_built}
use Rattle.card_laws.proofs.Laid.{laid}
use Rattle.rule_purse.specs.declared.fields.PurseOperation.TheVariants.{Direct, Decrement}
use Rattle.request_check.specs.declared.table.Row.{Row}
use Rattle.request_check.specs.Check.{checked_from}
use Rattle.request_check.specs.Row.{row_in, number_in}
use Rattle.request_check.proofs.Laws.{AllPass, Good}
use Rattle.request_rules.specs.Rules.{cashback_in, element_by, end_by}
use Rattle.request_runs.specs.Runs.{runs_of, good as walked}
use Rattle.request_runs.specs.Staged.{staged}
use Rattle.request_plan.specs.declared.Reply.TheVariants.{Done}
use Rattle.request_plan.specs.declared.Judged.{Judged}
use Rattle.request_plan.specs.declared.Judged.TheVariants.{Refused as NotFit, ShortData as NoData, Fit}
use Rattle.request_plan.specs.Request.{Request}
use Rattle.request_plan.specs.Plan.{go, write_judged, judged_with, plan_of, judged_of, judged_plan, checked_plan, rows_in, elements_in}
use Rattle.request_plan.specs.Serve.{Served, committed, carried, plan_served, serve}
use Rattle.request_plan.proofs.Accepted.{Accepted, accepted, nothing, good_at, counted, each_passed, stores_put_lem, done_or_left, read_leaves}
use Rattle.law_terminals.specs.Orders.{after}
use Rattle.law_terminals.specs.Two.{answer_of, arena_after, All}
use Rattle.law_terminals.specs.Last.{element_at, arena_then}
use Rattle.law_terminals.proofs.Owned.{ServiceRow, good-service, index_code_lem, one_store, two_stores}
use Rattle.law_resend.specs.Resend.{NamesOfKind, PursesOnce, RingsOnce, AcceptedWrite, Idle, IdleThen, Enough, lending, Resent}
use Rattle.request_runs.proofs.Steps.{Each, each_map, each_both, pairs-map, stepped}
use Rattle.request_runs.proofs.WalkSteps.{Step, element, close, index_of, element_of, steps_of, AllFrom, Before, Parted, Stands, steps_each, steps_ordered, flat_runs, runs_stand, runs_parted}
use Rattle.request_runs.proofs.OwnRuns.{store_of, Owns, own_steps}
use Rattle.law_terminals.proofs.Stored.{random-writes, Checks}
use Rattle.law_terminals.proofs.Written.{checks_from_lem}
use Rattle.law_resend.proofs.Stores.{staged-long, staged-again}
use Rattle.law_resend.proofs.ByKind.{Brings, PurseElement, RandomStep, RingStep, RingApart, PurseStep, PurseApart, step_own, random-again, rings-again, purses-again}
use Rattle.answers.specs.declared.status.Failure.{Failure}

-- of the cyclic kind only one attribute may be written
cyclic_writes : (a : ServiceAttribute) → Some (kind_of a) ≡ Some Cyclic → allows_write a ≡ true → Some a ≡ Some CyclicReadWrite
cyclic_writes RandomReadWrite k w = absurd (let z : ◌≡◌ {A = ℕ} 0 1 = cc in (omega arith))
cyclic_writes RandomReadOnly k w = absurd (false≢true w)
cyclic_writes CyclicReadWrite k w = refl
cyclic_writes CyclicReadOnly k w = absurd (false≢true w)
cyclic_writes PurseDirect k w = absurd (let z : ◌≡◌ {A = ℕ} 0 1 = cc in (omega arith))
cyclic_writes PurseCashback k w = absurd (let z : ◌≡◌ {A = ℕ} 0 1 = cc in (omega arith))
cyclic_writes PurseDecrement k w = absurd (let z : ◌≡◌ {A = ℕ} 0 1 = cc in (omega arith))
cyclic_writes PurseReadOnly k w = absurd (false≢true w)

-- those of the purse kind are purse writes
purse_writes : (rows : List Row) (d : List ℕ) (n blocks i : ℕ) (x : BlockListElement) (a : ServiceAttribute) → (row_in rows x).attribute ≡ Some a →
    Some (kind_of a) ≡ Some Purse → allows_write a ≡ true → Brings rows d n blocks i x → PurseElement rows d n blocks i x
unfolding element_by end_by
purse_writes rows d n blocks i x RandomReadWrite q k w f = absurd (let z : ◌≡◌ {A = ℕ} 0 1 = cc in (omega arith))
purse_writes rows d n blocks i x RandomReadOnly q k w f = absurd (false≢true w)
purse_writes rows d n blocks i x CyclicReadWrite q k w f = absurd (let z : ◌≡◌ {A = ℕ} 0 1 = cc in (omega arith))
purse_writes rows d n blocks i x CyclicReadOnly q k w f = absurd (false≢true w)
purse_writes rows d n blocks i x PurseDirect q k w f = record { operation = Direct; writes = λ s u. rw q; ends = λ s u. rw q; fits = f }
purse_writes rows d n blocks i x PurseCashback q k w f =
    record { operation = cashback_in x.mode; writes = λ s u. rw q; ends = λ s u. rw q; fits = f }
purse_writes rows d n blocks i x PurseDecrement q k w f = record { operation = Decrement; writes = λ s u. rw q; ends = λ s u. rw q; fits = f }
purse_writes rows d n blocks i x PurseReadOnly q k w f = absurd (false≢true w)

-- elements of which each passed
all_passes : (rows : List Row) (d : List ℕ) (i : ℕ) (es : List BlockListElement) → AllFrom (Checks rows d) i es → AllFrom (λ j x. Good rows true x) i es
all_passes rows d i [] h = tt
all_passes rows d i (e ∷ es) h = (h.0.passes, all_passes rows d (i + 1) es h.1)

-- An accepted write at a card that is built.
module _ {c : Card} (b : Built c) (a : List ℕ) (w : Request) (t : w.write ≡ true) (e : (serve c a w).reply ≡ Done) where
  it : Accepted c a w
  it = accepted c a w e

  abbrev rows : List Row
  rows = rows_in c w

  abbrev es : List BlockListElement
  es = elements_in w

  abbrev size : ℕ
  size = 16 * c.used

  abbrev Fine : BlockListElement → Type 0
  Fine x = Good rows true x

  -- the code that an element names
  abbrev code_of : BlockListElement → ℕ
  code_of x = get_or w.codes x.index 0

  passes : AllPass rows true w.«open» es
  passes = rw t at (each_passed it)

  checks : AllFrom (Checks rows w.«data») 0 es
  checks = checks_from_lem rows w.«data» w.«open» 0 es passes (omega (arith, it.fit.«data» t, counted it))

  fine : AllFrom (λ i x. Fine x) 0 es
  fine = all_passes rows w.«data» 0 es checks

  -- an element that passed: its row is that of the service, its number that of the code, its kind that of the attribute
  service : (x : BlockListElement) → Fine x → ServiceRow (nodes_of c) (code_of x) (row_in rows x)
  service x g = good-service (nodes_of c) w.codes g

  numbered : (x : BlockListElement) → Fine x → number_in rows x ≡ number_of (code_of x)
  numbered x g = ap number_of (index_code_lem (nodes_of c) w.codes x.index g.known)

  kinded : (x : BlockListElement) (g : Fine x) → code_kind_of (code_of x) ≡ Some (kind_of g.attribute)
  unfolding code_kind_of
  kinded x g = ap decoded_kind_of (sym (service x g).attribute ∙ g.defined)

  -- two elements of one number
  module _ (x y : BlockListElement) (g : Fine x) (h : Fine y) (q : number_in rows y ≡ number_in rows x) where
    stored : ((row_in rows y).start ≡ (row_in rows x).start) × ((row_in rows y).blocks ≡ (row_in rows x).blocks) × (code_kind_of (code_of y) ≡ code_kind_of (code_of x))
    stored = one_store (laid b) (service y h) (service x g) (sym (numbered y h) ∙ q ∙ numbered x g)

    alike : Some (kind_of h.attribute) ≡ Some (kind_of g.attribute)
    alike = sym (kinded y h) ∙ stored.2 ∙ kinded x g

  -- each row is that of its number
  owns : (x : BlockListElement) → Fine x → Owns rows w.«data» size Fine (number_in rows x) (row_in rows x)
  owns x g = record {
    fits = let o = service x g in omega (arith, (laid b).within o.node, o.start, o.blocks);
    same = λ y h q. let z = stored x y g h q in (z.0, z.1);
    other = λ y h q. two_stores (laid b) (service y h) (service x g) (λ z. q (numbered y h ∙ z ∙ sym (numbered x g)));
  }

  abbrev steps : List (Step BlockListElement)
  steps = steps_of 0 (runs_of (number_in rows) es)

  each_checks : Each (λ p. Checks rows w.«data» (index_of p) (element_of p)) steps
  each_checks = steps_each (Checks rows w.«data») 0 (runs_of (number_in rows) es) (rw (flat_runs (number_in rows) es) checks)

  -- element i, where it stands
  module _ (i : ℕ) (x : BlockListElement) (s : Stands (number_in rows) es nothing i x) where
    named : (k : ServiceKind) (n : ℕ) → Fine x → code_kind_of (code_of x) ≡ Some k → number_in rows x ≡ n → NamesOfKind k n x.number w i
    named k n g q h = record {
      listed = s.0;
      kinded = rw s.1 q;
      number = rw s.1 (sym (numbered x g) ∙ h);
      block = rw s.1;
    }

  -- a step's element passed, and stands where it is counted
  abbrev Placed : Step BlockListElement → Type 0
  Placed p = Checks rows w.«data» (index_of p) (element_of p) × Stands (number_in rows) es nothing (index_of p) (element_of p)

  each_placed : Each Placed steps
  each_placed = each_both _ _ steps each_checks (runs_stand (number_in rows) es nothing)

  -- the store of an element's number
  module _ (x : BlockListElement) (g : Fine x) where
    abbrev n : ℕ
    n = number_in rows x

    abbrev blocks : ℕ
    blocks = (row_in rows x).blocks

    -- what an element of the number brings
    brings : (i : ℕ) (y : BlockListElement) → Checks rows w.«data» i y → number_in rows y ≡ n → Brings rows w.«data» n blocks i y
    brings i y k q = record { inside = rw (stored x y g k.passes q).1 at k.passes.number; brings = k.brings }

    own_again : PursesOnce w → RingsOnce w → (u v : List ℕ) → length u ≡ 16 * blocks →
        stepped (step_own rows w.«data» n blocks) steps u ≡ walked v → stepped (step_own rows w.«data» n blocks) steps v ≡ walked v
    own_again purses rings u v l h = by_kind (kind_of g.attribute) refl
      where
        random_each : Some (kind_of g.attribute) ≡ Some Random → (p : Step BlockListElement) → Checks rows w.«data» (index_of p) (element_of p) →
            RandomStep rows w.«data» n blocks p
        random_each q p k r =
            let y = element_of p in
            let f = k.passes in
            (f.defined ∙ random-writes f.attribute (alike x y g f r ∙ q) (f.writable refl), brings (index_of p) y k r)

        ring_each : Some (kind_of g.attribute) ≡ Some Cyclic → (p : Step BlockListElement) → Checks rows w.«data» (index_of p) (element_of p) →
            RingStep rows w.«data» n blocks p
        ring_each q p k r =
            let f = k.passes in
            f.defined ∙ cyclic_writes f.attribute (alike x (element_of p) g f r ∙ q) (f.writable refl)

        purse_each : Some (kind_of g.attribute) ≡ Some Purse → (p : Step BlockListElement) → Checks rows w.«data» (index_of p) (element_of p) →
            PurseStep rows w.«data» n blocks p
        purse_each q p k r =
            let f = k.passes in
            purse_writes rows w.«data» n blocks (index_of p) (element_of p) f.attribute f.defined (alike x (element_of p) g f r ∙ q) (f.writable refl)
            (brings (index_of p) (element_of p) k r)

        -- an element of the number is of its kind
        of_kind_lem : (k : ServiceKind) → kind_of g.attribute ≡ k → (y : BlockListElement) → Fine y → number_in rows y ≡ n → code_kind_of (code_of y) ≡ Some k
        of_kind_lem k q y f r = kinded y f ∙ alike x y g f r ∙ ap Some q

        purse_apart : kind_of g.attribute ≡ Purse → (p o : Step BlockListElement) → Placed p → Placed o → Before p o →
            PurseApart rows w.«data» n blocks p o
        purse_apart q (element i y) (element j z) (ky, sy) (kz, sz) l =
            λ hy hz m. purses n z.number i j l
            (subst (λ k. NamesOfKind Purse n k w i) m (named i y sy Purse n ky.passes (of_kind_lem Purse q y ky.passes hy) hy))
            (named j z sz Purse n kz.passes (of_kind_lem Purse q z kz.passes hz) hz)
        purse_apart q (element i y) (close j z m) py pz l = tt
        purse_apart q (close i y m) o py pz l = tt

        ring_apart : kind_of g.attribute ≡ Cyclic → (p o : Step BlockListElement) → Placed p → Placed o → Parted (number_in rows) es nothing p o →
            RingApart rows w.«data» n blocks p o
        ring_apart q (element i y) o py pz l = tt
        ring_apart q (close i y m) (element j z) py pz l = tt
        ring_apart q (close i y m) (close j z k) (ky, sy) (kz, sz) (more, least, other) =
            λ hy hz. elim (ℕ_discrete (i + m) j) [
              | yes here ↦ other (rw here (ap (number_in rows) sz.1 ∙ hz ∙ sym hy))
              | no there ↦
                  let mid = good_at rows true w.«open» es (i + m) passes (omega (arith, sz.0, least)) in
                  let one = rings n y.number z.number i (i + m) j more (omega (arith, least, there))
                  (named i y sy Cyclic n ky.passes (of_kind_lem Cyclic q y ky.passes hy) hy)
                  (named j z sz Cyclic n kz.passes (of_kind_lem Cyclic q z kz.passes hz) hz) in
                  other (numbered (element_at w (i + m)) mid ∙ one ∙ sym hy)
            ]

        by_kind : (k : ServiceKind) → kind_of g.attribute ≡ k → stepped (step_own rows w.«data» n blocks) steps v ≡ walked v
        by_kind Random q = random-again rows w.«data» n blocks steps u v (each_map _ _ (random_each (ap Some q)) steps each_checks) l h
        by_kind Cyclic q = rings-again rows w.«data» n blocks steps u v (each_map _ _ (ring_each (ap Some q)) steps each_checks)
            (pairs-map Placed (Parted (number_in rows) es nothing) _ (ring_apart q) steps each_placed (runs_parted (number_in rows) es nothing)) h
        by_kind Purse q = purses-again rows w.«data» n blocks steps u v (each_map _ _ (purse_each (ap Some q)) steps each_checks)
            (pairs-map Placed Before _ (purse_apart q) steps each_placed (steps_ordered 0 (runs_of (number_in rows) es))) l h

  -- the plan asks of the arena only its length, so it is the first one's
  planned : plan_of c (length a) w ≡ go es
  unfolding serve plan_of
  planned = by_judged (judged_of c (length a) w) e
    where
      by_checked : (k : Result Unit Failure) → (plan_served c a w (checked_plan es k)).reply ≡ Done → checked_plan es k ≡ go es
      by_checked (Ok tt) h = refl
      by_checked (Err failure) h = absurd (let z : ◌≡◌ {A = ℕ} 0 1 = cc in (omega arith))

      by_judged : (j : Judged) → (plan_served c a w (judged_plan c w j)).reply ≡ Done → judged_plan c w j ≡ go es
      by_judged (NotFit x) h = absurd (let z : ◌≡◌ {A = ℕ} 0 1 = cc in (omega arith))
      by_judged NoData h = absurd (let z : ◌≡◌ {A = ℕ} 0 1 = cc in (omega arith))
      by_judged Fit h = by_checked (checked_from rows w.write w.«open» 0 es) h

  -- what the write comes to on an arena that holds stores which the runs leave as they are
  served-again : (s : List ℕ) → length s ≡ size → staged rows w.«data» es s ≡ walked s →
      serve c (put a 0 size s) w ≡ record { reply = Done; read = []; arena = put a 0 size s }
  unfolding serve carried committed part
  served-again s l h =
      let p : plan_of c (length (put a 0 size s)) w ≡ go es = ap (λ k. plan_of c k w) (length-put a 0 size s) ∙ planned in
      let f : take size (put a 0 size s) ≡ s = part-put a 0 size s (omega (arith, it.fit.arena)) (omega (arith, l)) ∙ take_all size s (omega (arith, l)) in
      rw (p, t, f, h, put-put a 0 size s s (omega (arith, l)))

  -- sent again at once, it is accepted, and leaves the arena as it is
  at_once : PursesOnce w → RingsOnce w → ((serve c (arena_after c a w) w).reply ≡ Done) × (arena_after c (arena_after c a w) w ≡ arena_after c a w)
  at_once purses rings =
      let s = stores_put_lem c a w e t in
      let long : length (take size a) ≡ size = length-take-le size a it.fit.arena in
      let again = staged-again rows w.«data» size Fine es fine owns (take size a) s.0 long s.1 (λ x g u h.
      let n = number_in rows x in
      let own = own_steps rows w.«data» size Fine es fine n in
      let r = row_in rows x in
      own u ∙ own_again x g purses rings (store_of r (take size a)) u
      (length_part (take size a) (16 * r.start) (16 * r.blocks) (omega (arith, (owns x g).fits, long))) (sym (own (store_of r (take size a))) ∙ h)) in
      let z = served-again s.0 (staged-long rows w.«data» size Fine es fine owns (take size a) s.0 long s.1) again in
      (rw s.2 (ap (λ (x : Served). x.reply) z), rw s.2 (ap (λ (x : Served). x.arena) z))

-- what is no accepted write leaves the arena
idle_one : (c : Card) (a : List ℕ) (r : Request) → (AcceptedWrite c a r → ⊥) → arena_after c a r ≡ a
idle_one c a r h = by_write r.write refl
  where
    by_write : (t : Bool) → r.write ≡ t → arena_after c a r ≡ a
    by_write true e = ⊎_elim (λ d. absurd (h (e, d))) (λ q. q) (done_or_left c a r)
    by_write false e = read_leaves c a r e

-- so do requests of which no write is accepted
pub idle_leaves : (c : Card) (a : List ℕ) (rs : List Request) → Idle c a rs → after (answer_of c) (arena_after c) a rs ≡ a
unfolding after
idle_leaves c a [] h = refl
idle_leaves c a (r ∷ rs) h = idle_leaves c (arena_after c a r) rs h.1 ∙ idle_one c a r h.0

-- after a write they leave the arena that it left
then-kept : (c : Card) (a : List ℕ) (w : Request) (rs : List Request) → IdleThen c a w rs → arena_then c a w rs ≡ arena_after c a w
then-kept c a w rs h = idle_leaves c (arena_after c a w) rs h

-- and it is enough to look at each of them on the first arena
pub idle_each : (c : Card) (a : List ℕ) (rs : List Request) → All (λ r. AcceptedWrite c a r → ⊥) rs → Idle c a rs
idle_each c a [] h = tt
idle_each c a (r ∷ rs) h = (h.0, subst (λ (b : List ℕ). Idle c b rs) (sym (idle_one c a r h.0)) (idle_each c a rs h.1))

-- staging that is long enough is judged as any other
enough_judged : (sound write : Bool) (list : List ℕ) (used count codes arena «data» room other : ℕ) → write ≡ true → 16 * used ≤ room → 16 * used ≤ other →
    judged_with sound write list (record { used = used; count = count; codes = codes; arena = arena; «data» = «data»; room = room })
    ≡ judged_with sound write list (record { used = used; count = count; codes = codes; arena = arena; «data» = «data»; room = other })
unfolding judged_with write_judged
enough_judged sound write list used count codes arena «data» room other t h g = rw (t, le-ltb room (16 * used) h, le-ltb other (16 * used) g)

-- a write that was accepted comes to the same with any staging that is long enough
lent_enough : (c : Card) (a : List ℕ) (w : Request) (room : ℕ) → AcceptedWrite c a w → Enough c room →
    serve c a (lending room w) ≡ serve c a w
unfolding serve plan_of
lent_enough c a w room (t, e) h =
    ap (λ (j : Judged). plan_served c a (lending room w) (judged_plan c (lending room w) j))
    (enough_judged (is_sound c) w.write w.list c.used w.count (length w.codes) (length a) (length w.«data») room w.room t h
    ((accepted c a w e).fit.staging t))
    ∙ by_judged (judged_of c (length a) w)
  where
    by_checked : (k : Result Unit Failure) → plan_served c a (lending room w) (checked_plan (elements_in w) k) ≡ plan_served c a w (checked_plan (elements_in w) k)
    by_checked (Ok tt) = refl
    by_checked (Err failure) = refl

    by_judged : (j : Judged) → plan_served c a (lending room w) (judged_plan c (lending room w) j) ≡ plan_served c a w (judged_plan c w j)
    by_judged (NotFit x) = refl
    by_judged NoData = refl
    by_judged Fit = by_checked (checked_from (rows_in c w) w.write w.«open» 0 (elements_in w))

-- on every card that accepted additions and limits produce
pub built_resent : {c : Card} → Built c → Resent c
built_resent {c} b a w rs room (t, e) purses rings idle enough =
    let kept = then-kept c a w rs idle in
    let once = at_once b a w t e purses rings in
    let lent = lent_enough c (arena_after c a w) w room (t, once.0) enough in
    record {
      done = ap (λ (x : List ℕ). (serve c x (lending room w)).reply) kept ∙ ap (λ (x : Served). x.reply) lent ∙ once.0;
      unchanged = ap (λ (x : List ℕ). (serve c x (lending room w)).arena) kept ∙ ap (λ (x : Served). x.arena) lent ∙ once.1 ∙ sym kept;
      kept = kept;
    }

-- so on every card, which has 64 records: one that accepts a write is built
pub resent : (c : Card) → length c.nodes ≡ 64 → Resent c
resent c z a w rs room k = built_resent (sound_built c z (accepted c a w k.1).fit.sound) a w rs room k
