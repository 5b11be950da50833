-- The purse rule. Manual, sections 3.4.4 (figures 3-15 to 3-17) and 3.4.4.1, 4.4.6 for direct access, 4.5.2, tables 4-11 and 4-12.
use Rattle.std.specs.Prelude.{ℕ, Bool, cond, ◌&&◌, eqb, ℤ, pos, ◌+ℤ◌, ◌-ℤ◌, Option, Some, None, Result, Ok, Err}
use Rattle.std.specs.Int.Signed.{lt_z, le_z}
use Rattle.answers.specs.declared.status.Fault.{Fault}
use Rattle.answers.specs.declared.status.Fault.TheVariants.{PurseRaised, CashbackRaised, SumTooLarge, OutsideLimits, OutsideWord, CashbackExceeds}
use Rattle.byte_parts.specs.Word.{word_of, signed_of}
use Rattle.rule_purse.specs.declared.fields.PurseOperation.{PurseOperation}
use Rattle.rule_purse.specs.declared.fields.PurseOperation.TheVariants.{Direct, Decrement, Cashback}
use Rattle.service_code.specs.declared.limit.Limit.{Limit}
use Rattle.rule_purse.specs.declared.fields.PurseData.{PurseData}
use Rattle.rule_purse.specs.declared.fields.PurseWrite.{PurseWrite}
use Rattle.rule_purse.specs.declared.fields.PurseWrite.TheVariants.{Unchanged, Whole, Stored}

-- signed 32 bits if the service has a limit, else unsigned
-- RULES 9.7
unfoldable pub value_of : Option Limit → ℕ → ℤ
value_of None n = pos n
value_of (Some limit) n = signed_of n

-- lower to upper, or 0 to 4,294,967,295, ends included
-- RULES 9.8
unfoldable pub inside_of : Option Limit → ℤ → Bool
inside_of None v = le_z (pos 0) v && le_z v (pos 4294967295)
inside_of (Some limit) v = le_z limit.lower v && le_z v limit.upper

-- outside is 03 with a limit, 01 without
-- RULES 9.8
unfoldable pub outside_of : Option Limit → Fault
outside_of None = OutsideWord
outside_of (Some limit) = OutsideLimits

-- a value in range as its 32 bits
unfoldable pub sum_of : Option Limit → ℤ → Option ℕ
sum_of limit v = cond (inside_of limit v) (Some (word_of v)) None

-- a sum in range is the new purse, stored with a new cashback
unfoldable pub stored_of : Option Limit → ℕ → Option ℕ → Result PurseWrite Fault
stored_of limit cashback (Some n) = Ok (Stored n cashback)
stored_of limit cashback None = Err (outside_of limit)

-- RULES 9.9, 9.10, 9.11, 9.12
unfoldable pub purse_rule : PurseOperation → Option Limit → PurseData → PurseData → Result PurseWrite Fault
-- purse or cashback above stored, or stored purse + new cashback over 4,294,967,295; then the range of the new purse
purse_rule Direct limit s c =
    cond (lt_z (value_of limit s.purse) (value_of limit c.purse)) (Err PurseRaised)
    (cond (lt_z (value_of limit s.cashback) (value_of limit c.cashback)) (Err CashbackRaised)
    (cond (lt_z (pos 4294967295) (value_of limit s.purse +ℤ value_of limit c.cashback)) (Err SumTooLarge)
    (cond (inside_of limit (value_of limit c.purse)) (Ok Whole) (Err (outside_of limit)))))
-- equal execution ids change nothing; else purse becomes stored less amount, cashback the amount
purse_rule Decrement limit s c =
    cond (eqb c.id s.id) (Ok Unchanged)
    (stored_of limit c.purse (sum_of limit (value_of limit s.purse -ℤ value_of limit c.purse)))
-- equal execution ids change nothing; an amount above stored cashback fails; else purse becomes stored plus amount, cashback 0
purse_rule Cashback limit s c =
    cond (eqb c.id s.id) (Ok Unchanged)
    (cond (lt_z (value_of limit s.cashback) (value_of limit c.purse)) (Err CashbackExceeds)
    (stored_of limit 0 (sum_of limit (value_of limit s.purse +ℤ value_of limit c.purse))))
