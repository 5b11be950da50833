-- The block that is stored, field by field. Assumes nothing.
use Rattle.std.proofs.Common.{Ok}
use Prim.Native.Nat.{ℕ}
use mathlib.Core.Path.{◌≡◌}
use mathlib.Core.List.{List}
use lib.ListN.{drop}
use Rattle.byte_parts.specs.Part.{put}
use Rattle.byte_parts.specs.Word.{word_bytes}
use Rattle.rule_purse.specs.declared.fields.PurseWrite.TheVariants.{Stored}
use Rattle.answers.specs.Outcome.{passed}
use Rattle.rule_purse.specs.Bytes.{block_of}

-- A block after three stores: the purse, the cashback, the execution id.
pub stored-block
    : (s c : List ℕ) (p k : ℕ) (t u v : List ℕ) → t ≡ put s 0 4 (word_bytes p) → u ≡ put t 4 4 (word_bytes k)
    → v ≡ put u 12 4 (drop 12 c) → block_of s c (Ok (Stored p k)) ≡ passed v
unfolding block_of
stored-block s c p k t u v et eu ev = rw (ev, eu, et)
