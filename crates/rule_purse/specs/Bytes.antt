-- The purse rule on a block's sixteen bytes. Manual, section 3.4.4, figure 3-15.
use Rattle.std.specs.Prelude.{ℕ, List, drop, Option, Result, Ok, Err}
use Rattle.byte_parts.specs.Part.{put}
use Rattle.byte_parts.specs.Sizes.{block_size}
use Rattle.byte_parts.specs.Word.{word_at, word_bytes}
use Rattle.rule_purse.specs.declared.fields.PurseOperation.{PurseOperation}
use Rattle.service_code.specs.declared.limit.Limit.{Limit}
use Rattle.rule_purse.specs.declared.fields.PurseData.{PurseData}
use Rattle.rule_purse.specs.declared.fields.PurseWrite.{PurseWrite}
use Rattle.rule_purse.specs.declared.fields.PurseWrite.TheVariants.{Unchanged, Whole, Stored}
use Rattle.answers.specs.declared.status.Fault.{Fault}
use Rattle.answers.specs.Outcome.{Outcome, passed, failed}
use Rattle.rule_purse.specs.Purse.{purse_rule}

-- figure 3-15: purse bytes 0-3, cashback 4-7, execution id 12-15
-- RULES 9.7
unfoldable pub purse_data_of : List ℕ → PurseData
purse_data_of s = record { purse = word_at s 0; cashback = word_at s 4; id = word_at s 12 }

-- the block to store: stored bytes 8-11 are kept, 12-15 come from the command
-- RULES 9.9, 9.13
unfoldable pub block_of : List ℕ → List ℕ → Result PurseWrite Fault → Outcome
block_of s c (Ok Unchanged) = passed s
block_of s c (Ok Whole) = passed (put s 0 block_size c)
block_of s c (Ok (Stored p k)) = passed (put (put (put s 0 4 (word_bytes p)) 4 4 (word_bytes k)) 12 4 (drop 12 c))
block_of s c (Err f) = failed f

unfoldable pub purse_applied : PurseOperation → Option Limit → List ℕ → List ℕ → Outcome
purse_applied operation limit s c = block_of s c (purse_rule operation limit (purse_data_of s) (purse_data_of c))
