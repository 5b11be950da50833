-- What a whole write comes to: the stores are staged, the runs work on them, the arena takes them over, the staging is zeroed.
use Rattle.std.proofs.Common.{Result, Ok, Err}
use mathlib.Core.Path.{◌≡◌, refl, sym, ap, ◌∙◌}
use mathlib.Core.Bool.{true, not}
use mathlib.Core.List.{List, ◌++◌}
use Prim.Native.Nat.{ℕ, ◌+◌, ◌-◌, ◌*◌, ◌≤◌}
use native.Mathlib.Omega.{arith}
use native.Mathlib.Nat.{sub-zero, zero-add}
use lib.Dec.{ltb}
use lib.ListN.{length, take, drop, replicate, length-replicate, length-append}
use lib.Seq.{length-take-le, take_at, drop_at}
use borrow.Author.Tests.{ltb-false}
use Rattle.answers.specs.declared.refusal.Refusal.{Refusal}
use Rattle.answers.specs.declared.refusal.Refusal.TheVariants.{TooManyElements, TooManyCodes, ListLength, ShortStaging, ShortArena, NotBuilt}
use Rattle.answers.specs.declared.status.Fault.{Fault}
use Rattle.block_list.specs.Element.{ends_after}
use Rattle.block_list.specs.declared.element.BlockListElement.{BlockListElement}
use Rattle.byte_parts.specs.Part.{part, put}
use Rattle.byte_parts.proofs.Part.{put-split, put-take, part-put}
use Rattle.card_build.specs.declared.card.Card.{Card}
use Rattle.card_build.specs.Card.{nodes_of, is_sound}
use Rattle.request_check.specs.declared.table.Row.{Row}
use Rattle.request_check.specs.declared.table.Table.{Table}
use Rattle.request_check.specs.Row.{row_table}
use Rattle.request_check.specs.Check.{checked_from}
use Rattle.request_runs.specs.Runs.{Walked, bad, good}
use Rattle.request_runs.specs.Staged.{staged}
use Rattle.request_runs.specs.Ready.{AllReady, walked_to}
use Rattle.request_plan.specs.declared.Judged.TheVariants.{Refused as NotFit, ShortData as NoData, Fit}
use Rattle.request_plan.specs.declared.Reply.{Reply}
use Rattle.request_plan.specs.declared.Reply.TheVariants.{Done, Failed}
use Rattle.request_plan.specs.Request.{Request}
use Rattle.request_plan.specs.Plan.{write_judged, judged_with, judged_of, rows_in, elements_in, checked_plan, plan_of}
use Rattle.request_plan.specs.Serve.{committed, carried, plan_served, serve, staging_by}
use Rattle.request_plan.proofs.Tests.{passed_over}
use Rattle.request_plan.proofs.Ready.{rows_within_lem, sound_laid, all_ready}
use Rattle.request_plan.proofs.Serves.{failed, passed, unchanged}
use Rattle.request_plan.proofs.Fits.{fit, rows, checked}
use Rattle.request_plan.proofs.Same.{Same, same_refl, same_sym_lem, same_trans_lem, same_whole, same_take, front_same, front_spare}
use Rattle.request_plan.proofs.Frame.{Alike, Spared, staged_keeps, staged_spares}
use Rattle.request_serve.specs.Stores.{AllIn, stores_put}
use Rattle.request_serve.proofs.Stores.{Named, stores_spare, stores_front, stores_rest}
use Rattle.answers.specs.Failure.{failed_at}
use Rattle.answers.specs.declared.status.Failure.{Failure}

-- the staging s, once the rows' stores of the arena a were copied over its old bytes g
module _ (rows : List Row) (a g s : List ℕ) (size : ℕ) (fa : size ≤ length a) (fg : size ≤ length g) (n : AllIn rows size)
    (e : s ≡ stores_put g a rows) where
  -- in those stores it is alike to the staging that holds all of the arena's front
  whole : Same (Named rows) s (put g 0 size a)
  whole = rw e (stores_front g a rows size n fg fa)

  -- so it is alike to that front
  front : Same (Named rows) (take (size - 0) (drop 0 s)) (take size a)
  unfolding part
  front = rw (sub-zero size, ← part-put g 0 size a (omega arith) fa) (same_take (Named rows) size s (put g 0 size a) whole)

  -- what is lent to the runs is as long as the blocks in use
  pub lent_long : length (take (size - 0) (drop 0 s)) ≡ size
  lent_long = front.long ∙ length-take-le size a fa

  -- the part lent comes back as t
  module _ (t : List ℕ) (l : length t ≡ length (take (size - 0) (drop 0 s))) where
    -- beyond it the staging is as it was
    pub rest-kept : drop size (take 0 s ++ (t ++ drop (size - 0) (drop 0 s))) ≡ drop size g
    rest-kept = rw (sub-zero size, drop_at t (drop size s) size (l ∙ lent_long), e) (stores_rest g a rows size n fg)

    -- the stores lie in it
    pub staged_in : AllIn rows (length (take 0 s ++ (t ++ drop (size - 0) (drop 0 s))))
    staged_in j = simp length-append (omega (arith, l, lent_long, n j))

    module _ («data» : List ℕ) (es : List BlockListElement) {r : Result Unit Failure} (h : staged rows «data» es (take (size - 0) (drop 0 s)) ≡ walked_to r t) where
      -- on the arena's front the runs fail alike, or leave the stores alike
      alike : {x : Result Unit Failure} → r ≡ x → Alike (Named rows) (walked_to x t) (staged rows «data» es (take size a))
      alike k = rw (h ∙ ap (λ (x : Result Unit Failure). walked_to x t) k) at (staged_keeps (Named rows) rows «data» es (λ j i l. (j, l)) _ _ front)

      -- a run that fails leaves the arena
      pub run_failed : {i : ℕ} {x : Fault} → r ≡ failed_at i x → let y = committed size a (staged rows «data» es (take size a)) in
          (Failed i x ≡ y.reply) × (a ≡ y.arena)
      unfolding committed
      run_failed {i = i} {x = x} k = by_walked (staged rows «data» es (take size a)) (alike k)
        where
          by_walked : (w : Walked (List ℕ)) → Alike (Named rows) (bad i x) w → (Failed i x ≡ (committed size a w).reply) × (a ≡ (committed size a w).arena)
          by_walked (bad j f) m = ((λ d. Failed (m.0 d) (m.1 d)), refl)
          by_walked (good u) m = absurd m

      -- all runs pass: the arena takes the staged stores over
      pub runs_done : {new : List ℕ} → r ≡ Ok tt → new ≡ stores_put a (take 0 s ++ (t ++ drop (size - 0) (drop 0 s))) rows →
          let y = committed size a (staged rows «data» es (take size a)) in (Done ≡ y.reply) × (new ≡ y.arena)
      unfolding committed
      runs_done {new = new} k q =
          by_walked (staged rows «data» es (take size a)) (alike k) (staged_spares (λ i. Named rows i → ⊥) rows «data» es (λ j i m p. p (j, m)) (take size a))
        where
          v : List ℕ
          v = t ++ drop (size - 0) s

          lent : put a 0 size v ≡ put a 0 size t
          lent = sym (put-take a 0 size v) ∙ ap (put a 0 size) (take_at t (drop (size - 0) s) size (l ∙ lent_long))

          taken : (u : List ℕ) → Same (Named rows) t u → Same (λ i. Named rows i → ⊥) (take size a) u → stores_put a v rows ≡ put a 0 size u
          taken u m o =
              same_whole (Named rows) (stores_put a v rows) (put a 0 size u)
              (same_trans_lem (Named rows) (stores_put a v rows) (put a 0 size t) (put a 0 size u)
              (rw lent at (stores_front a v rows size n fa (simp length-append (omega (arith, l, lent_long)))))
              (front_same (Named rows) a a size t u (same_refl (Named rows) a) m))
              (same_trans_lem (λ i. Named rows i → ⊥) (stores_put a v rows) a (put a 0 size u)
              (same_sym_lem (λ i. Named rows i → ⊥) a (stores_put a v rows) (stores_spare (λ i. Named rows i → ⊥) a v rows (λ j i w p. p (j, w))))
              (front_spare (λ i. Named rows i → ⊥) a size u o))

          by_walked : (w : Walked (List ℕ)) → Alike (Named rows) (good t) w → Spared (λ i. Named rows i → ⊥) (take size a) w →
              (Done ≡ (committed size a w).reply) × (new ≡ (committed size a w).arena)
          by_walked (bad j f) m o = absurd m
          by_walked (good u) m o = (refl, q ∙ taken u m o)

module _ (c : Card) (a : List ℕ) (r : Request) (j : judged_of c (length a) r ≡ Fit) where
  -- a write that fits has its stores in arena and staging
  pub stores_fit : r.write ≡ true → (16 * c.used ≤ length a) × (16 * c.used ≤ r.room)
  stores_fit w = let f = fit c a r j in (f.arena, f.staging w)

  module _ {t : Table} (made : t ≡ row_table (nodes_of c) r.codes) {k : Result Unit Failure}
      (e : k ≡ checked_from (take t.count t.rows) r.write r.«open» 0 (elements_in r)) where
    -- an element that fails
    pub write-failed : {i : ℕ} {f : Fault} → k ≡ failed_at i f → (Failed i f ≡ (serve c a r).reply) × (a ≡ (serve c a r).arena)
    write-failed h = unchanged (failed c a r j (checked c a r j made e h))

    module _ (w : r.write ≡ true) (p : k ≡ Ok tt) where
      -- all pass: the stores are there, and each element names a block of one
      pub write_ready : length c.nodes ≡ 64 →
          (16 * c.used ≤ length a) × (16 * c.used ≤ r.room) × (16 * r.count ≤ length r.«data»)
          × AllReady (take t.count t.rows) (16 * c.used) (elements_in r)
          × (t.count ≤ 16) × AllIn (take t.count t.rows) (16 * c.used)
      unfolding row_table
      write_ready h =
          let f = fit c a r j in (
            f.arena,
            f.staging w,
            f.«data» w,
            rw (rows c a r j made)
                (all_ready c h f.sound r.codes r.write r.«open» (elements_in r) (checked c a r j made e p) (16 * c.used) (omega arith)),
            rw made (omega arith),
            rw (rows c a r j made) (λ i. omega (arith, rows_within_lem (sound_laid c h f.sound) r.codes i)),
          )

      -- the runs are carried out
      pub write_done : {x : Reply} {new : List ℕ} →
          let s = committed (16 * c.used) a (staged (take t.count t.rows) r.«data» (elements_in r) (take (16 * c.used) a)) in
          x ≡ s.reply → new ≡ s.arena → (x ≡ (serve c a r).reply) × (new ≡ (serve c a r).arena)
      unfolding carried
      write_done m n =
          let q = rows c a r j made in rw (passed c a r j (checked c a r j made e p), w) (rw q at m, rw q at n)

-- after a status pair the staging is zero where stores were staged
abbrev Zeroes : Reply → Type 0
Zeroes x = (size : ℕ) (g : List ℕ) → staging_by x size g ≡ put g 0 size (replicate size 0)

-- so after the runs
committed_zeroes : (size : ℕ) (a : List ℕ) (w : Walked (List ℕ)) → Zeroes (committed size a w).reply
unfolding committed
committed_zeroes size a (bad i f) = λ n g. refl
committed_zeroes size a (good s) = λ n g. refl

-- and after the checks
checked_zeroes : (c : Card) (a : List ℕ) (r : Request) (k : Result Unit Failure) → r.write ≡ true →
    Zeroes (plan_served c a r (checked_plan (elements_in r) k)).reply
unfolding carried
checked_zeroes c a r (Err failure) w = λ n g. refl
checked_zeroes c a r (Ok tt) w =
    rw w (committed_zeroes (16 * c.used) a (staged (rows_in c r) r.«data» (elements_in r) (take (16 * c.used) a)))

-- a write that fits gets a status pair
fit_zeroes : (c : Card) (a : List ℕ) (r : Request) → judged_of c (length a) r ≡ Fit → r.write ≡ true → Zeroes (serve c a r).reply
unfolding serve plan_of
fit_zeroes c a r j w = rw j (checked_zeroes c a r (checked_from (rows_in c r) r.write r.«open» 0 (elements_in r)) w)

-- the staging s, zeroed to t, is the old one g, zeroed
pub wiped : (c : Card) (a : List ℕ) (r : Request) → judged_of c (length a) r ≡ Fit → r.write ≡ true → (g s t : List ℕ) {x : Reply} →
    x ≡ (serve c a r).reply → length g ≡ r.room → length s ≡ length g → drop (16 * c.used) s ≡ drop (16 * c.used) g →
    t ≡ put s 0 (16 * c.used) (replicate (16 * c.used) 0) → t ≡ staging_by x (16 * c.used) g
wiped c a r j w g s t m l k d e =
    let size = 16 * c.used in
    let f : size ≤ length g = omega (arith, stores_fit c a r j w) in
    let z : size ≤ length {A = ℕ} (replicate size 0) = simp length-replicate (omega arith) in
    rw (m, fit_zeroes c a r j w size g)
    (e ∙ put-split s 0 size (replicate size 0) (omega arith) z ∙ rw (zero-add size, d)
    (sym (put-split g 0 size (replicate size 0) (omega arith) z ∙ rw (zero-add size))))

-- a refusal is not short data
not_short : (r : Refusal) → NotFit r ≡ NoData → ⊥
not_short r e = let z : ◌≡◌ {A = ℕ} 0 1 = cc in (omega arith)

-- a write with too few data has room for its stores
pub short_fits_lem : (c : Card) (arena_len : ℕ) (r : Request) → r.write ≡ true → judged_of c arena_len r ≡ NoData →
    (16 * c.used ≤ arena_len) × (16 * c.used ≤ r.room)
unfolding judged_with write_judged
short_fits_lem c arena_len r w e =
    let b = passed_over (not_short NotBuilt) (not (is_sound c)) _ e in
    let m = passed_over (not_short TooManyElements) (ltb 512 r.count) _ b.1 in
    let k = passed_over (not_short TooManyCodes) (ltb 16 (length r.codes)) _ m.1 in
    let l = passed_over (not_short ListLength) (not (ends_after r.list r.count)) _ k.1 in
    let a = passed_over (not_short ShortArena) (ltb arena_len (16 * c.used)) _ l.1 in
    let s = passed_over (not_short ShortStaging) (ltb r.room (16 * c.used)) _ (rw w at a.1) in
    (ltb-false arena_len (16 * c.used) a.0, ltb-false r.room (16 * c.used) s.0)
