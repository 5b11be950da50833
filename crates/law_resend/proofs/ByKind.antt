-- The runs of one number, done again on what they left of its store, change nothing: of a random number always, of a purse number where
-- no block is named twice, of a cyclic number where there is one run. Assumes nothing.
use Rattle.std.proofs.Common.{Some}
use Prim.Native.Nat.{ℕ, ◌+◌, ◌-◌, ◌*◌, ◌≤◌, ◌<◌}
use native.Mathlib.Omega.{arith}
use native.Mathlib.Decide.{ℕ_discrete, dec_lt, dec_le}
use mathlib.Core.Path.{◌≡◌, refl, sym, ap, ◌∙◌}
use mathlib.Core.Bool.{Bool, true, false}
use mathlib.Core.List.{List, [], ◌∷◌}
use mathlib.Core.Logic.{◌⊎◌, inl, inr}
use lib.Dec.{eqb}
use lib.ListN.{length, get_or}
use lib.Seq.{take_all, ext_get_or, get_or-take}
use borrow.Author.Tests.{eq-eqb, ne_eqb}
use Rattle.service_code.specs.declared.code.ServiceAttribute.TheVariants.{RandomReadWrite, CyclicReadWrite}
use Rattle.answers.specs.declared.status.Fault.{Fault}
use Rattle.answers.specs.declared.status.Fault.TheVariants.{CyclicBlock}
use Rattle.answers.specs.Outcome.{Outcome, passed, failed}
use Rattle.block_list.specs.declared.element.BlockListElement.{BlockListElement}
use Rattle.byte_parts.specs.Part.{part, put}
use Rattle.byte_parts.proofs.Part.{length_part, length-put, part-put, part-put_apart, put-part, get_d_part, get_d_put_apart}
use Rattle.rule_purse.specs.declared.fields.PurseOperation.{PurseOperation}
use Rattle.rule_purse.specs.Bytes.{purse_applied}
use Rattle.rule_cyclic.specs.Cyclic.{cyclic_of}
use Rattle.request_check.specs.declared.table.Row.{Row}
use Rattle.request_check.specs.Row.{row_in, number_in}
use Rattle.request_rules.specs.Lens.{back, within}
use Rattle.request_rules.specs.Rules.{element_by, end_by, purse_in}
use Rattle.request_runs.specs.Runs.{Walked, bad, good, then}
use Rattle.request_runs.specs.Staged.{at_index}
use Rattle.request_runs.specs.Own.{own_element, own_end}
use Rattle.rule_purse.proofs.Again.{purse_again, purse_long}
use Rattle.rule_cyclic.proofs.Again.{ring_again}
use Rattle.request_runs.proofs.Steps.{failure, Each, Pairs, stepped, Settles, settled_again, Sets, sets-again}
use Rattle.request_runs.proofs.WalkSteps.{Step, element, close, index_of, element_of, act}

-- states that are good are one
same_good : {s t : List ℕ} → good s ≡ good t → s ≡ t
same_good e = cc

-- what passes at an index is what was stored
passed_is : (i : ℕ) (o : Outcome) {t : List ℕ} → at_index i o ≡ good t → o ≡ passed t
passed_is i (passed u) e = ap passed (same_good e)
passed_is i (failed f) e = failure e

never : {A : Type 0} {f : Fault} {t : List ℕ} → failed f ≡ passed t → A
never e = absurd (let z : ◌≡◌ {A = ℕ} 0 1 = cc in (omega arith))

-- a byte of what was put
get_d_put : (s : List ℕ) (at n : ℕ) (t : List ℕ) (i : ℕ) → at + n ≤ length s → n ≤ length t → at ≤ i → i < at + n →
    get_or (put s at n t) i 0 ≡ get_or t (i - at) 0
get_d_put s at n t i h k a b =
    let m : at + (i - at) ≡ i = omega arith in
    rw m at (sym (get_d_part (put s at n t) at n (i - at) (omega arith)))
    ∙ ap (λ (l : List ℕ). get_or l (i - at) 0) (part-put s at n t h k) ∙ get_or-take n t (i - at) 0 (omega arith)

-- The runs of the number n, of a store of so many blocks, with the data d.
module _ (rows : List Row) (d : List ℕ) (n blocks : ℕ) where
  abbrev pub step_own : Step BlockListElement → List ℕ → Walked (List ℕ)
  step_own = act (own_element rows d n) (own_end rows d n)

  -- the store has its length
  abbrev pub Sized : List ℕ → Type 0
  Sized u = length u ≡ 16 * blocks

  -- an element whose block is in the store, and whose data are there
  pub record Brings (i : ℕ) (x : BlockListElement) : Type 0 where
    pub inside : x.number < blocks
    pub brings : 16 * i + 16 ≤ length d

  -- the sixteen bytes that element i brings
  abbrev data_at : ℕ → List ℕ
  data_at i = part d (16 * i) 16

  -- an element of another number is passed over
  skips : (i : ℕ) (x : BlockListElement) → (number_in rows x ≡ n → ⊥) → (u : List ℕ) → own_element rows d n i x u ≡ good u
  skips i x h u = rw (ne_eqb (number_in rows x) n h)

  skips_end : (i : ℕ) (x : BlockListElement) (m : ℕ) → (number_in rows x ≡ n → ⊥) → (u : List ℕ) → own_end rows d n i x m u ≡ good u
  skips_end i x m h u = rw (ne_eqb (number_in rows x) n h)

  -- Random: an element of the number replaces its block, and a run's end does nothing.
  abbrev pub RandomStep : Step BlockListElement → Type 0
  RandomStep p =
      number_in rows (element_of p) ≡ n
      → ((row_in rows (element_of p)).attribute ≡ Some RandomReadWrite) × Brings (index_of p) (element_of p)

  random_puts : (i : ℕ) (x : BlockListElement) → RandomStep (element i x) → number_in rows x ≡ n → (u : List ℕ) →
      own_element rows d n i x u ≡ good (put u (16 * x.number) 16 (data_at i))
  unfolding element_by
  random_puts i x r h u = rw (eq-eqb (number_in rows x) n h, (r h).0)

  random-ends : (i : ℕ) (x : BlockListElement) (m : ℕ) → RandomStep (close i x m) → (u : List ℕ) → own_end rows d n i x m u ≡ good u
  unfolding end_by
  random-ends i x m r u =
      elim (ℕ_discrete (number_in rows x) n) [
        | yes h ↦ rw (eq-eqb (number_in rows x) n h, (r h).0)
        | no h ↦ skips_end i x m h u
      ]

  -- it always passes
  random_passes : (p : Step BlockListElement) (u : List ℕ) → RandomStep p → Sized u → (t : List ℕ) × (step_own p u ≡ good t) × Sized t
  random_passes (element i x) u r l =
      elim (ℕ_discrete (number_in rows x) n) [
        | yes h ↦ (put u (16 * x.number) 16 (data_at i), random_puts i x r h u, length-put u (16 * x.number) 16 (data_at i) ∙ l)
        | no h ↦ (u, skips i x h u, l)
      ]
  random_passes (close i x m) u r l = (u, random-ends i x m r u, l)

  all_pass : (ps : List (Step BlockListElement)) (u : List ℕ) → Each RandomStep ps → Sized u → (t : List ℕ) × (stepped step_own ps u ≡ good t) × Sized t
  unfolding stepped then
  all_pass [] u r l = (u, refl, l)
  all_pass (p ∷ ps) u r l =
      let w = random_passes p u r.0 l in
      let q = all_pass ps w.0 r.1 w.2 in
      (q.0, rw w.1 q.1, q.2)

  random_fit : (p : Step BlockListElement) (u t : List ℕ) → RandomStep p → Sized u → step_own p u ≡ good t → Sized t
  random_fit p u t r l e = let w = random_passes p u r l in rw (same_good (sym e ∙ w.1)) w.2

  -- each step sets byte b, or leaves it
  random-sets : (b : ℕ) (p : Step BlockListElement) → RandomStep p → Sets step_own RandomStep Sized (λ u. get_or u b 0) p
  random-sets b (close i x m) r = inr (λ s t f e. ap (λ (u : List ℕ). get_or u b 0) (same_good (sym e ∙ random-ends i x m r s)))
  random-sets b (element i x) r =
      elim (ℕ_discrete (number_in rows x) n) [
        | no h ↦ inr (λ s t f e. ap (λ (u : List ℕ). get_or u b 0) (same_good (sym e ∙ skips i x h s)))
        | yes h ↦ elim (dec_le (16 * x.number) b) [
          | no k ↦ inr (λ s t f e. leaves h s t e (inl (omega arith)))
          | yes k ↦ elim (dec_lt b (16 * x.number + 16)) [
            | no l ↦ inr (λ s t f e. leaves h s t e (inr (omega arith)))
            | yes l ↦ inl (λ s t u v f g e q. sets h s t f e k l ∙ sym (sets h u v g q k l))
          ]
        ]
      ]
    where
      leaves : number_in rows x ≡ n → (s t : List ℕ) → own_element rows d n i x s ≡ good t → (b + 1 ≤ 16 * x.number) ⊎ (16 * x.number + 16 ≤ b) →
          get_or t b 0 ≡ get_or s b 0
      leaves h s t e q =
          ap (λ (u : List ℕ). get_or u b 0) (same_good (sym e ∙ random_puts i x r h s)) ∙ get_d_put_apart s (16 * x.number) 16 (data_at i) b q

      sets : number_in rows x ≡ n → (s t : List ℕ) → Sized s → own_element rows d n i x s ≡ good t → 16 * x.number ≤ b → b < 16 * x.number + 16 →
          get_or t b 0 ≡ get_or (data_at i) (b - 16 * x.number) 0
      sets h s t f e k l =
          let w = (r h).1 in
          ap (λ (u : List ℕ). get_or u b 0) (same_good (sym e ∙ random_puts i x r h s))
          ∙ get_d_put s (16 * x.number) 16 (data_at i) b (omega (arith, w.inside, f)) (omega (arith, length_part d (16 * i) 16 w.brings)) k l

  pub random-again : (ps : List (Step BlockListElement)) (s t : List ℕ) → Each RandomStep ps → Sized s → stepped step_own ps s ≡ good t →
      stepped step_own ps t ≡ good t
  random-again ps s t r l e =
      let a = all_pass ps s r l in
      let f : Sized t = rw (same_good (sym e ∙ a.1)) a.2 in
      let w = all_pass ps t r f in
      w.1 ∙ ap good (ext_get_or 0 w.0 t (w.2 ∙ sym f) (λ b k.
      sets-again step_own RandomStep Sized (λ u. get_or u b 0) random_fit ps s t w.0 r (each_sets b ps r) l f e w.1))
    where
      each_sets : (b : ℕ) (qs : List (Step BlockListElement)) → Each RandomStep qs → Each (Sets step_own RandomStep Sized (λ u. get_or u b 0)) qs
      each_sets b [] h = tt
      each_sets b (q ∷ qs) h = (random-sets b q h.0, each_sets b qs h.1)

  -- Cyclic: an element of the number must name block 0, and a run's end does the rest.
  abbrev pub RingStep : Step BlockListElement → Type 0
  RingStep p = number_in rows (element_of p) ≡ n → (row_in rows (element_of p)).attribute ≡ Some CyclicReadWrite

  -- two runs of the number
  abbrev pub RingApart : Step BlockListElement → Step BlockListElement → Type 0
  RingApart (element i x) q = Unit {0}
  RingApart (close i x m) (element j y) = Unit {0}
  RingApart (close i x m) (close j y k) = number_in rows x ≡ n → number_in rows y ≡ n → ⊥

  -- an element that passes leaves the store, and passes on any
  ring_element : (i : ℕ) (x : BlockListElement) → RingStep (element i x) → (s t u : List ℕ) → own_element rows d n i x s ≡ good t →
      (t ≡ s) × (own_element rows d n i x u ≡ good u)
  unfolding element_by
  ring_element i x r s t u e =
      elim (ℕ_discrete (number_in rows x) n) [
        | yes h ↦ here h (eqb x.number 0) refl
        | no h ↦ (same_good (sym e ∙ skips i x h s), skips i x h u)
      ]
    where
      here : number_in rows x ≡ n → (b : Bool) → eqb x.number 0 ≡ b → (t ≡ s) × (own_element rows d n i x u ≡ good u)
      here h true q =
          let f : (v : List ℕ) → own_element rows d n i x v ≡ good v = λ v. rw (eq-eqb (number_in rows x) n h, r h, q) in
          (same_good (sym e ∙ f s), f u)
      here h false q =
          let f : own_element rows d n i x s ≡ bad i CyclicBlock = rw (eq-eqb (number_in rows x) n h, r h, q) in
          failure (sym f ∙ e)

  -- a run's end, on its store
  ring_end : (i : ℕ) (x : BlockListElement) (m : ℕ) → RingStep (close i x m) → number_in rows x ≡ n → (s : List ℕ) →
      own_end rows d n i x m s ≡ at_index i (cyclic_of s (part d (16 * i) (16 * m)))
  unfolding end_by
  ring_end i x m r h s = rw (eq-eqb (number_in rows x) n h, r h)

  ring_settles : Settles step_own RingStep (λ u. Unit {0}) RingApart
  ring_settles = record {
    again = λ p s t o f e. (tt, once p s t o e);
    stays = λ p q s t o k a f h e. stays p q s t o k a h e;
  }
    where
      once : (p : Step BlockListElement) (s t : List ℕ) → RingStep p → step_own p s ≡ good t → step_own p t ≡ good t
      once (element i x) s t o e = (ring_element i x o s t t e).1
      once (close i x m) s t o e =
          elim (ℕ_discrete (number_in rows x) n) [
            | yes h ↦
                ring_end i x m o h t
                ∙ ap (at_index i) (ring_again s (part d (16 * i) (16 * m)) t (passed_is i _ (sym (ring_end i x m o h s) ∙ e)))
            | no h ↦ skips_end i x m h t
          ]

      stays : (p q : Step BlockListElement) (s t : List ℕ) → RingStep p → RingStep q → RingApart p q → step_own p s ≡ good s → step_own q s ≡ good t →
          step_own p t ≡ good t
      stays (element i x) q s t o k a h e = (ring_element i x o s s t h).1
      stays (close i x m) (element j y) s t o k a h e = rw (ring_element j y k s t t e).0 h
      stays (close i x m) (close j y l) s t o k a h e =
          elim (ℕ_discrete (number_in rows x) n) [
            | yes z ↦ elim (ℕ_discrete (number_in rows y) n) [
              | yes w ↦ absurd (a z w)
              | no w ↦ rw (same_good (sym e ∙ skips_end j y l w s)) h
            ]
            | no z ↦ skips_end i x m z t
          ]

  pub rings-again : (ps : List (Step BlockListElement)) (s t : List ℕ) → Each RingStep ps → Pairs RingApart ps → stepped step_own ps s ≡ good t →
      stepped step_own ps t ≡ good t
  rings-again ps s t r a e = settled_again step_own RingStep (λ u. Unit {0}) RingApart ring_settles ps s t r a tt e

  -- Purse: an element of the number is one purse write on its block, and a run's end does nothing.
  pub record PurseElement (i : ℕ) (x : BlockListElement) : Type 0 where
    pub operation : PurseOperation
    pub writes : (block u : List ℕ) →
        element_by (row_in rows x).attribute (row_in rows x).limit x.number x.mode block u
        ≡ purse_in operation (row_in rows x).limit x.number block u
    pub ends : (run u : List ℕ) → end_by (row_in rows x).attribute run u ≡ passed u
    pub fits : Brings i x

  abbrev pub PurseStep : Step BlockListElement → Type 0
  PurseStep p = number_in rows (element_of p) ≡ n → PurseElement (index_of p) (element_of p)

  -- two elements of the number name two blocks
  abbrev pub PurseApart : Step BlockListElement → Step BlockListElement → Type 0
  PurseApart (element i x) (element j y) = number_in rows x ≡ n → number_in rows y ≡ n → x.number ≡ y.number → ⊥
  PurseApart (element i x) (close j y m) = Unit {0}
  PurseApart (close i x m) q = Unit {0}

  purse_ends : (i : ℕ) (x : BlockListElement) (m : ℕ) → PurseStep (close i x m) → (u : List ℕ) → own_end rows d n i x m u ≡ good u
  purse_ends i x m r u =
      elim (ℕ_discrete (number_in rows x) n) [
        | yes h ↦ rw (eq-eqb (number_in rows x) n h, (r h).ends (part d (16 * i) (16 * m)) u)
        | no h ↦ skips_end i x m h u
      ]

  -- an element of the number
  module _ (i : ℕ) (x : BlockListElement) (r : PurseStep (element i x)) (h : number_in rows x ≡ n) where
    -- the rule on its block
    abbrev rule : List ℕ → Outcome
    rule b = purse_applied (r h).operation (row_in rows x).limit b (data_at i)

    abbrev block_in : List ℕ → List ℕ
    block_in u = part u (16 * x.number) 16

    purse_is : (u : List ℕ) → own_element rows d n i x u ≡ at_index i (back u (16 * x.number) 16 (rule (block_in u)))
    unfolding within
    purse_is u = rw (eq-eqb (number_in rows x) n h, (r h).writes (data_at i) u)

    -- one that passes: what was put
    purse_puts : (s t : List ℕ) → own_element rows d n i x s ≡ good t →
        (b : List ℕ) × (rule (block_in s) ≡ passed b) × (t ≡ put s (16 * x.number) 16 b)
    unfolding back
    purse_puts s t e = by_outcome_lem (rule (block_in s)) refl (sym (purse_is s) ∙ e)
      where
        by_outcome_lem : (o : Outcome) → rule (block_in s) ≡ o → at_index i (back s (16 * x.number) 16 o) ≡ good t →
            (b : List ℕ) × (rule (block_in s) ≡ passed b) × (t ≡ put s (16 * x.number) 16 b)
        by_outcome_lem (passed b) q k = (b, q, sym (same_good k))
        by_outcome_lem (failed f) q k = failure k

    -- where the rule leaves the block, the element leaves the store
    purse_leaves : (u b : List ℕ) → block_in u ≡ b → rule b ≡ passed b → own_element rows d n i x u ≡ good u
    unfolding back
    purse_leaves u b q e =
        let z : rule (block_in u) ≡ passed (block_in u) = rw q e in
        purse_is u ∙ rw z (ap good (put-part u (16 * x.number) 16))

    module _ (s t : List ℕ) (f : Sized s) (e : own_element rows d n i x s ≡ good t) where
      lies : 16 * x.number + 16 ≤ length s
      lies = omega (arith, (r h).fits.inside, f)

      block-long : length (purse_puts s t e).0 ≡ 16
      block-long =
          let q = purse_puts s t e in
          purse_long (row_in rows x).limit (data_at i) (block_in s) q.0 (length_part s (16 * x.number) 16 lies)
          (length_part d (16 * i) 16 (r h).fits.brings) (r h).operation q.1

      -- the block that it left
      block-left : block_in t ≡ (purse_puts s t e).0
      block-left =
          let q = purse_puts s t e in
          ap block_in q.2 ∙ part-put s (16 * x.number) 16 q.0 lies (omega (arith, block-long)) ∙ take_all 16 q.0 (omega (arith, block-long))

      purse_sized : Sized t
      purse_sized = let q = purse_puts s t e in ap length q.2 ∙ length-put s (16 * x.number) 16 q.0 ∙ f

      -- it leaves again
      purse_twice : own_element rows d n i x t ≡ good t
      purse_twice =
          let q = purse_puts s t e in
          purse_leaves t q.0 block-left
          (purse_again (row_in rows x).limit (data_at i) (block_in s) q.0 (length_part s (16 * x.number) 16 lies)
          (length_part d (16 * i) 16 (r h).fits.brings) (r h).operation q.1)

    -- an element that leaves the store leaves one with the same block
    purse_stays : (s t : List ℕ) → Sized s → own_element rows d n i x s ≡ good s → block_in t ≡ block_in s → own_element rows d n i x t ≡ good t
    purse_stays s t f e q =
        let z = purse_puts s s e in
        let k : block_in s ≡ z.0 = block-left s s f e in
        purse_leaves t z.0 (q ∙ k) (ap rule (sym k) ∙ z.1)

  purse_settles : Settles step_own PurseStep Sized PurseApart
  purse_settles = record { again = once; stays = stays }
    where
      once : (p : Step BlockListElement) (s t : List ℕ) → PurseStep p → Sized s → step_own p s ≡ good t → Sized t × (step_own p t ≡ good t)
      once (element i x) s t o f e =
          elim (ℕ_discrete (number_in rows x) n) [
            | yes h ↦ (purse_sized i x o h s t f e, purse_twice i x o h s t f e)
            | no h ↦ rw (same_good (sym e ∙ skips i x h s)) (f, skips i x h s)
          ]
      once (close i x m) s t o f e = rw (same_good (sym e ∙ purse_ends i x m o s)) (f, purse_ends i x m o s)

      stays : (p q : Step BlockListElement) (s t : List ℕ) → PurseStep p → PurseStep q → PurseApart p q → Sized s → step_own p s ≡ good s →
          step_own q s ≡ good t → step_own p t ≡ good t
      stays (close i x m) q s t o k a f h e = purse_ends i x m o t
      stays (element i x) (close j y m) s t o k a f h e = rw (same_good (sym e ∙ purse_ends j y m k s)) h
      stays (element i x) (element j y) s t o k a f h e =
          elim (ℕ_discrete (number_in rows x) n) [
            | no z ↦ skips i x z t
            | yes z ↦ elim (ℕ_discrete (number_in rows y) n) [
              | no w ↦ rw (same_good (sym e ∙ skips j y w s)) h
              | yes w ↦
                  let q = purse_puts j y k w s t e in
                  purse_stays i x o z s t f h
                  (ap (λ (u : List ℕ). part u (16 * x.number) 16) q.2
                  ∙ part-put_apart s (16 * y.number) 16 q.0 (16 * x.number) 16 (sides (a z w)))
            ]
          ]
        where
          sides : (x.number ≡ y.number → ⊥) → (16 * x.number + 16 ≤ 16 * y.number) ⊎ (16 * y.number + 16 ≤ 16 * x.number)
          sides g = elim (dec_lt x.number y.number) [ yes l ↦ inl (omega arith) | no l ↦ inr (omega arith) ]

  pub purses-again : (ps : List (Step BlockListElement)) (s t : List ℕ) → Each PurseStep ps → Pairs PurseApart ps → Sized s →
      stepped step_own ps s ≡ good t → stepped step_own ps t ≡ good t
  purses-again ps s t r a f e = settled_again step_own PurseStep Sized PurseApart purse_settles ps s t r a f e
