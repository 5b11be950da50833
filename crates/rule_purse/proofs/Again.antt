-- A purse write that passed passes again on the block that it left, and changes nothing of it. Assumes nothing.
use Rattle.std.proofs.Common.{Option, Result, Ok, Err}
use Prim.Native.Nat.{ℕ, suc, ◌+◌, ◌-◌, ◌≤◌, ◌<◌}
use native.Mathlib.Omega.{arith}
use native.Mathlib.Decide.{dec_lt}
use mathlib.Core.Path.{◌≡◌, refl, sym, ap, ◌∙◌}
use mathlib.Core.Bool.{Bool, true, false, cond}
use mathlib.Core.List.{List}
use lib.IntN.{ℤ, pos, negsuc, sub_ℕ, ◌+ℤ◌}
use lib.ListN.{length, get_or, drop, length-drop}
use lib.Seq.{take_all}
use lib.Signed.{lt_z}
use borrow.Author.Tests.{eq-eqb, lt-ltb, le-ltb, ltb-false}
use Rattle.answers.specs.declared.status.Fault.{Fault}
use Rattle.answers.specs.declared.status.Fault.TheVariants.{PurseRaised, CashbackRaised, SumTooLarge}
use Rattle.answers.specs.Outcome.{passed}
use Rattle.byte_parts.specs.Part.{part, put}
use Rattle.byte_parts.specs.Word.{word_at, word_bytes}
use Rattle.byte_parts.proofs.Part.{length-put, part-put, get_d_part}
use Rattle.service_code.specs.declared.limit.Limit.{Limit}
use Rattle.rule_purse.specs.declared.fields.PurseOperation.{PurseOperation}
use Rattle.rule_purse.specs.declared.fields.PurseOperation.TheVariants.{Direct, Decrement, Cashback}
use Rattle.rule_purse.specs.declared.fields.PurseData.{PurseData}
use Rattle.rule_purse.specs.declared.fields.PurseWrite.{PurseWrite}
use Rattle.rule_purse.specs.declared.fields.PurseWrite.TheVariants.{Unchanged, Whole, Stored}
use Rattle.rule_purse.specs.Purse.{value_of, inside_of, outside_of, purse_rule}
use Rattle.rule_purse.specs.Bytes.{purse_data_of, block_of, purse_applied}

-- no number is below itself
never_below : (z : ℤ) → lt_z z z ≡ false
never_below (pos n) = le-ltb n n (omega arith)
never_below (negsuc n) = le-ltb n n (omega arith)

-- a difference of two numbers without a sign is not above m, if the first is no more than m and the second together
sub_below : (m a b : ℕ) → a ≤ m + b → lt_z (pos m) (sub_ℕ a b) ≡ false
sub_below m a b h =
    elim (dec_lt a b) [
      | yes l ↦ rw (lt-ltb a b l)
      | no l ↦ rw (le-ltb a b (omega arith)) (le-ltb m (a - b) (omega arith))
    ]

-- and the other way
below_sub : (m a b : ℕ) → lt_z (pos m) (sub_ℕ a b) ≡ false → a ≤ m + b
below_sub m a b h =
    elim (dec_lt a b) [
      | yes l ↦ omega arith
      | no l ↦ omega (arith, ltb-false m (a - b) (rw (le-ltb a b (omega arith)) at h))
    ]

-- a smaller number's sum is not above what the larger one's is not above
sum_below : (m : ℕ) (p c k : ℤ) → lt_z p c ≡ false → lt_z (pos m) (p +ℤ k) ≡ false → lt_z (pos m) (c +ℤ k) ≡ false
sum_below m (pos p) (pos c) (pos k) h e = le-ltb m (c + k) (omega (arith, ltb-false p c h, ltb-false m (p + k) e))
sum_below m (pos p) (pos c) (negsuc k) h e = sub_below m c (suc k) (omega (arith, ltb-false p c h, below_sub m p (suc k) e))
sum_below m (pos p) (negsuc c) (pos k) h e = sub_below m k (suc c) (omega (arith, ltb-false m (p + k) e))
sum_below m (pos p) (negsuc c) (negsuc k) h e = refl
sum_below m (negsuc p) (pos c) k h e = cc
sum_below m (negsuc p) (negsuc c) (pos k) h e = sub_below m k (suc c) (omega (arith, ltb-false c p h, below_sub m k (suc p) e))
sum_below m (negsuc p) (negsuc c) (negsuc k) h e = refl

-- a failure stores nothing
no_write : {A : Type 0} {f : Fault} {w : Result PurseWrite Fault} → Err f ≡ w → (w ≡ Ok Whole) → A
no_write e k = absurd (let z : ◌≡◌ {A = ℕ} 0 1 = cc in (omega arith))

-- a test that would have failed did not
must_not : (f : Fault) (t : Bool) (more : Result PurseWrite Fault) → cond t (Err f) more ≡ Ok Whole → (t ≡ false) × (more ≡ Ok Whole)
must_not f true more e = no_write refl e
must_not f false more e = (refl, e)

must : (f : Fault) (t : Bool) → cond t (Ok Whole) (Err f) ≡ Ok Whole → t ≡ true
must f true e = refl
must f false e = no_write refl e

-- a direct write that passed, on what it stored: nothing is raised, and the sum is no larger than it was
pub direct_again : (limit : Option Limit) (s c : PurseData) → purse_rule Direct limit s c ≡ Ok Whole → purse_rule Direct limit c c ≡ Ok Whole
unfolding purse_rule
direct_again limit s c e =
    let a = must_not PurseRaised (lt_z (value_of limit s.purse) (value_of limit c.purse)) _ e in
    let b = must_not CashbackRaised (lt_z (value_of limit s.cashback) (value_of limit c.cashback)) _ a.1 in
    let d = must_not SumTooLarge (lt_z (pos 4294967295) (value_of limit s.purse +ℤ value_of limit c.cashback)) _ b.1 in
    let i = must (outside_of limit) (inside_of limit (value_of limit c.purse)) d.1 in
    rw (
      never_below (value_of limit c.purse),
      never_below (value_of limit c.cashback),
      sum_below 4294967295 (value_of limit s.purse) (value_of limit c.purse) (value_of limit c.cashback) a.0 d.0,
      i,
    )

-- so no direct write stores fields
unstored : {p k : ℕ} (f : Fault) (t : Bool) (more : Result PurseWrite Fault) → (more ≡ Ok (Stored p k) → ⊥) → cond t (Err f) more ≡ Ok (Stored p k) → ⊥
unstored f true more h e = absurd (let z : ◌≡◌ {A = ℕ} 0 1 = cc in (omega arith))
unstored f false more h e = h e

direct_whole : (limit : Option Limit) (s c : PurseData) {p k : ℕ} → purse_rule Direct limit s c ≡ Ok (Stored p k) → ⊥
unfolding purse_rule
direct_whole limit s c {p} {k} e =
    unstored PurseRaised (lt_z (value_of limit s.purse) (value_of limit c.purse)) _
    (unstored CashbackRaised (lt_z (value_of limit s.cashback) (value_of limit c.cashback)) _
    (unstored SumTooLarge (lt_z (pos 4294967295) (value_of limit s.purse +ℤ value_of limit c.cashback)) _
    (last (inside_of limit (value_of limit c.purse))))) e
  where
    last : (t : Bool) → cond t (Ok Whole) (Err (outside_of limit)) ≡ Ok (Stored p k) → ⊥
    last true h = absurd (let z : ◌≡◌ {A = ℕ} 0 1 = cc in (omega arith))
    last false h = absurd (let z : ◌≡◌ {A = ℕ} 0 1 = cc in (omega arith))

-- blocks of equal last bytes have one execution id
id_same : (s c : List ℕ) → part s 12 4 ≡ part c 12 4 → (purse_data_of c).id ≡ (purse_data_of s).id
unfolding purse_data_of word_at
id_same s c e =
    let f : (i : ℕ) → i < 4 → get_or c (12 + i) 0 ≡ get_or s (12 + i) 0 =
    λ i l. sym (get_d_part c 12 4 i l) ∙ ap (λ (l : List ℕ). get_or l i 0) (sym e) ∙ get_d_part s 12 4 i l in
    rw (f 0 (omega arith), f 1 (omega arith), f 2 (omega arith), f 3 (omega arith))

-- a whole block that is stored is the command's
whole_is : (s c : List ℕ) → length s ≡ 16 → length c ≡ 16 → put s 0 16 c ≡ c
unfolding part
whole_is s c ls lc =
    sym (take_all 16 (put s 0 16 c) (omega (arith, length-put s 0 16 c)))
    ∙ part-put s 0 16 c (omega arith) (omega arith) ∙ take_all 16 c (omega arith)

-- of fields that are stored the execution id is the command's
stored_id : (s c : List ℕ) (p k : ℕ) → length s ≡ 16 → length c ≡ 16 →
    part (put (put (put s 0 4 (word_bytes p)) 4 4 (word_bytes k)) 12 4 (drop 12 c)) 12 4 ≡ part c 12 4
unfolding part
stored_id s c p k ls lc =
    let u = put (put s 0 4 (word_bytes p)) 4 4 (word_bytes k) in
    let l : length u ≡ 16 = length-put (put s 0 4 (word_bytes p)) 4 4 (word_bytes k) ∙ length-put s 0 4 (word_bytes p) ∙ ls in
    part-put u 12 4 (drop 12 c) (omega arith) (simp length-drop (omega arith))

module _ (limit : Option Limit) (c : List ℕ) where
  -- equal execution ids leave the block
  decrement_again : (t : List ℕ) → part t 12 4 ≡ part c 12 4 → purse_applied Decrement limit t c ≡ passed t
  unfolding purse_applied purse_rule block_of
  decrement_again t e = rw (eq-eqb (purse_data_of c).id (purse_data_of t).id (id_same t c e))

  cashback-again : (t : List ℕ) → part t 12 4 ≡ part c 12 4 → purse_applied Cashback limit t c ≡ passed t
  unfolding purse_applied purse_rule block_of
  cashback-again t e = rw (eq-eqb (purse_data_of c).id (purse_data_of t).id (id_same t c e))

  module _ (s t : List ℕ) (ls : length s ≡ 16) (lc : length c ≡ 16) where
    -- the whole block was stored
    whole_again : (o : PurseOperation) → purse_rule o limit (purse_data_of s) (purse_data_of c) ≡ Ok Whole → t ≡ c → purse_applied o limit t c ≡ passed t
    unfolding purse_applied block_of
    whole_again Direct h e = rw (e, direct_again limit (purse_data_of s) (purse_data_of c) h) (ap passed (whole_is c c lc lc))
    whole_again Decrement h e = decrement_again t (ap (λ (l : List ℕ). part l 12 4) e)
    whole_again Cashback h e = cashback-again t (ap (λ (l : List ℕ). part l 12 4) e)

    -- fields were
    fields_again : (o : PurseOperation) {p k : ℕ} → purse_rule o limit (purse_data_of s) (purse_data_of c) ≡ Ok (Stored p k) → part t 12 4 ≡ part c 12 4 →
        purse_applied o limit t c ≡ passed t
    fields_again Direct h e = absurd (direct_whole limit (purse_data_of s) (purse_data_of c) h)
    fields_again Decrement h e = decrement_again t e
    fields_again Cashback h e = cashback-again t e

    by_write : (o : PurseOperation) (w : Result PurseWrite Fault) → purse_rule o limit (purse_data_of s) (purse_data_of c) ≡ w → block_of s c w ≡ passed t →
        purse_applied o limit t c ≡ passed t
    unfolding block_of purse_applied
    by_write o (Ok Unchanged) h e = let q : s ≡ t = cc in rw (← q, h)
    by_write o (Ok Whole) h e =
        let q : put s 0 16 c ≡ t = cc in
        whole_again o h (sym q ∙ whole_is s c ls lc)
    by_write o (Ok (Stored p k)) h e =
        let q : put (put (put s 0 4 (word_bytes p)) 4 4 (word_bytes k)) 12 4 (drop 12 c) ≡ t = cc in
        fields_again o h (ap (λ (l : List ℕ). part l 12 4) (sym q) ∙ stored_id s c p k ls lc)
    by_write o (Err f) h e = absurd (let z : ◌≡◌ {A = ℕ} 0 1 = cc in (omega arith))

    -- a purse write that passed, on the block that it left: it passes, and leaves that block
    pub purse_again : (o : PurseOperation) → purse_applied o limit s c ≡ passed t → purse_applied o limit t c ≡ passed t
    unfolding purse_applied
    purse_again o e = by_write o (purse_rule o limit (purse_data_of s) (purse_data_of c)) refl e

    -- and it is as long as it was
    pub purse_long : (o : PurseOperation) → purse_applied o limit s c ≡ passed t → length t ≡ 16
    unfolding purse_applied block_of
    purse_long o e = by_block (purse_rule o limit (purse_data_of s) (purse_data_of c)) e
      where
        by_block : (w : Result PurseWrite Fault) → block_of s c w ≡ passed t → length t ≡ 16
        by_block (Ok Unchanged) h = let q : s ≡ t = cc in rw (← q) ls
        by_block (Ok Whole) h = let q : put s 0 16 c ≡ t = cc in rw (← q) (length-put s 0 16 c ∙ ls)
        by_block (Ok (Stored p k)) h =
            let q : put (put (put s 0 4 (word_bytes p)) 4 4 (word_bytes k)) 12 4 (drop 12 c) ≡ t = cc in
            rw (← q) (length-put (put (put s 0 4 (word_bytes p)) 4 4 (word_bytes k)) 12 4 (drop 12 c)
            ∙ length-put (put s 0 4 (word_bytes p)) 4 4 (word_bytes k) ∙ length-put s 0 4 (word_bytes p) ∙ ls)
        by_block (Err f) h = absurd (let z : ◌≡◌ {A = ℕ} 0 1 = cc in (omega arith))
