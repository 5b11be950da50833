-- The purse rule in each of its cases. Assumes nothing.
use Rattle.std.proofs.Common.{Option, ℤ, Result, Ok, Err}
use mathlib.Core.Path.{◌≡◌, sym, ◌∙◌}
use mathlib.Core.Bool.{Bool, true, false}
use lib.IntN.{pos, ◌+ℤ◌, ◌-ℤ◌}
use lib.Signed.{lt_z}
use borrow.Author.Tests.{eq-eqb, ne_eqb}
use Rattle.answers.specs.declared.status.Fault.{Fault}
use Rattle.answers.specs.declared.status.Fault.TheVariants.{PurseRaised, CashbackRaised, SumTooLarge, CashbackExceeds}
use Rattle.rule_purse.specs.declared.fields.PurseOperation.TheVariants.{Direct, Decrement, Cashback}
use Rattle.service_code.specs.declared.limit.Limit.{Limit}
use Rattle.rule_purse.specs.declared.fields.PurseData.{PurseData}
use Rattle.rule_purse.specs.declared.fields.PurseWrite.{PurseWrite}
use Rattle.rule_purse.specs.declared.fields.PurseWrite.TheVariants.{Unchanged, Whole}
use Rattle.rule_purse.specs.Purse.{value_of, inside_of, outside_of, sum_of, stored_of, purse_rule}

module _ (limit : Option Limit) (s c : PurseData) where
  -- A direct write of a purse above the stored one.
  pub purse_raised
      : (a : Bool) → a ≡ lt_z (value_of limit s.purse) (value_of limit c.purse) → a ≡ true
      → Err PurseRaised ≡ purse_rule Direct limit s c
  unfolding purse_rule
  purse_raised a ea ta = rw (sym ea ∙ ta)

  -- Of one that is not.
  module _ (na : lt_z (value_of limit s.purse) (value_of limit c.purse) ≡ false) (b : Bool)
      (eb : b ≡ lt_z (value_of limit s.cashback) (value_of limit c.cashback)) where
    -- Of a cashback above the stored one.
    pub cashback_raised : b ≡ true → Err CashbackRaised ≡ purse_rule Direct limit s c
    unfolding purse_rule
    cashback_raised tb = rw (na, sym eb ∙ tb)

    module _ (tb : b ≡ false) (d : Bool) (ed : d ≡ lt_z (pos 4294967295) (value_of limit s.purse +ℤ value_of limit c.cashback)) where
      -- Of a cashback that exceeds four bytes with the stored purse.
      pub sum_large : d ≡ true → Err SumTooLarge ≡ purse_rule Direct limit s c
      unfolding purse_rule
      sum_large td = rw (na, sym eb ∙ tb, sym ed ∙ td)

      module _ (td : d ≡ false) (i : Bool) (ei : i ≡ inside_of limit (value_of limit c.purse)) where
        -- Of a purse in range.
        pub direct_whole : i ≡ true → Ok Whole ≡ purse_rule Direct limit s c
        unfolding purse_rule
        direct_whole ti = rw (na, sym eb ∙ tb, sym ed ∙ td, sym ei ∙ ti)

        -- Of a purse out of range.
        pub direct_outside : i ≡ false → (f : Fault) → f ≡ outside_of limit → Err f ≡ purse_rule Direct limit s c
        unfolding purse_rule
        direct_outside ti f ef = rw (na, sym eb ∙ tb, sym ed ∙ td, sym ei ∙ ti, ef)

  -- A decrement with the stored execution id.
  pub decrement_same : c.id ≡ s.id → Ok Unchanged ≡ purse_rule Decrement limit s c
  unfolding purse_rule
  decrement_same h = rw (eq-eqb c.id s.id h)

  -- The same of a cashback.
  pub cashback_same : c.id ≡ s.id → Ok Unchanged ≡ purse_rule Cashback limit s c
  unfolding purse_rule
  cashback_same h = rw (eq-eqb c.id s.id h)

  module _ (h : c.id ≡ s.id → ⊥) where
    -- A decrement with another one, by its difference.
    pub decrement_other
        : (w : Result PurseWrite Fault) → w ≡ stored_of limit c.purse (sum_of limit (value_of limit s.purse -ℤ value_of limit c.purse))
        → w ≡ purse_rule Decrement limit s c
    unfolding purse_rule
    decrement_other w ew = rw (ne_eqb c.id s.id h) ew

    -- A cashback with another one, by the test of its amount and by its sum.
    module _ (b : Bool) (eb : b ≡ lt_z (value_of limit s.cashback) (value_of limit c.purse)) where
      -- An amount above the stored cashback.
      pub cashback_exceeds : b ≡ true → Err CashbackExceeds ≡ purse_rule Cashback limit s c
      unfolding purse_rule
      cashback_exceeds tb = rw (ne_eqb c.id s.id h, sym eb ∙ tb)

      -- Another amount, by its sum.
      pub cashback_other
          : b ≡ false → (w : Result PurseWrite Fault) → w ≡ stored_of limit 0 (sum_of limit (value_of limit s.purse +ℤ value_of limit c.purse))
          → w ≡ purse_rule Cashback limit s c
      unfolding purse_rule
      cashback_other tb w ew = rw (ne_eqb c.id s.id h, sym eb ∙ tb) ew
