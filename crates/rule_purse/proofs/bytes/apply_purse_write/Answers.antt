-- What the rule makes of the fields decides.
use Rattle.std.proofs.Common.{◌≡◌, List, ℕ, refl, sym, ap, ◌∙◌, Option, Result, Ok, Err}
use Rattle.service_code.specs.declared.limit.Limit.{Limit}
use Rattle.rule_purse.specs.declared.fields.PurseOperation.{PurseOperation}
use Rattle.rule_purse.specs.declared.fields.PurseData.{PurseData}
use Rattle.rule_purse.specs.declared.fields.PurseWrite.{PurseWrite}
use Rattle.answers.specs.declared.status.Fault.{Fault}
use Rattle.std.proofs.lemmas.Result.{err_from_is_err_and}
use Rattle.rule_purse.specs.Purse.{purse_rule}
use Rattle.rule_purse.specs.Bytes.{purse_data_of, block_of, purse_applied}
use Rattle.rule_purse.proofs.Stores.{stored-block}
use Rattle.rule_purse.proofs.bytes.apply_purse_write.Goals as goal

-- What the rule makes of the fields is what becomes of the block.
decided
    : (operation : PurseOperation) (limit : Option Limit) (s c : List ℕ) {x y : PurseData} {w : Result PurseWrite Fault}
    → x ≡ purse_data_of s → y ≡ purse_data_of c → w ≡ purse_rule operation limit x y
    → purse_applied operation limit s c ≡ block_of s c w
unfolding purse_applied
decided _ _ _ _ p q r = rw (sym p, sym q, sym r)

pub returns-in-Unchanged : goal.returns-in-Unchanged
unfolding block_of
returns-in-Unchanged c =
    rw (decided _ _ _ _ c.purse_data-stored.ensures c.purse_data-asked.ensures (rw c.in-Unchanged.is at (sym c.in_ok-purse_write.was ∙ c.purse_write.ensures)))
    (record { value = refl; block_after = refl })

pub returns-in-Whole : goal.returns-in-Whole
unfolding block_of
returns-in-Whole c =
    rw (decided _ _ _ _ c.purse_data-stored.ensures c.purse_data-asked.ensures (rw c.in-Whole.is at (sym c.in_ok-purse_write.was ∙ c.purse_write.ensures)))
    (record { value = refl; block_after = c.copy.ensures })

pub returns-in-Stored : goal.returns-in-Stored
returns-in-Stored c =
    let a = c.args in
    let m = c.in-Stored in
    rw (
      decided _ _ _ _ c.purse_data-stored.ensures c.purse_data-asked.ensures (rw m.is at (sym c.in_ok-purse_write.was ∙ c.purse_write.ensures)),
      stored-block a.block.now a.command.now m.purse m.cashback _ _ _ c.put_word.ensures c.put_word-in-Stored.ensures c.put_id.ensures,
    ) (record { value = refl; block_after = refl })

pub returns-in_err-purse_write : goal.returns-in_err-purse_write
unfolding block_of
returns-in_err-purse_write c =
    let r = err_from_is_err_and c.from_residual.result c.from_residual.ensures.1 in
    rw (decided _ _ _ _ c.purse_data-stored.ensures c.purse_data-asked.ensures (sym c.in_err-purse_write.was ∙ c.purse_write.ensures))
    (record { value = r.1 ∙ ap Err r.2; block_after = refl })
