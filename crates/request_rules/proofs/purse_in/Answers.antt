-- `rules::purse_in` meets its contract: the block was lent to the purse rule. Assumes nothing.
use Prim.Native.Nat.{◌*◌}
use native.Mathlib.Omega.{arith}
use borrow.Author.Rules.{rules}
use Rattle.rule_purse.specs.Bytes.{purse_applied}
use Rattle.request_rules.proofs.Lent.{within_lent_lem}
use Rattle.request_rules.proofs.purse_in.Goals as goal

pub returns : goal.returns
returns c =
    let a = c.args in
    let k = c.apply_purse_write in
    let p = within_lent_lem a.store.now (16 * a.number) 16 (λ b. purse_applied a.operation a.limit b a.block.now) (omega arith) k.result k.new.block
    k.auto.block (k.ensures.value, k.ensures.block_after) in
    record { value = p.0; store_after = p.1 }
