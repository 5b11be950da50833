-- `bytes::purse_data` meets its contract. Assumes nothing.
use mathlib.Core.Path.{refl}
use Rattle.rule_purse.specs.Bytes.{purse_data_of}
use Rattle.rule_purse.proofs.bytes.purse_data.Goals as goal

pub returns : goal.returns
unfolding purse_data_of
returns c = rw (c.word.ensures, c.word-2.ensures, c.word-3.ensures) refl
