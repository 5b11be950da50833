-- The header is a card's; the invariant: the records left decide whether all are records, and what nodes they read as.
use mathlib.Core.Path.{sym, ◌∙◌}
use Prim.Native.Nat.{◌-◌}
use native.Mathlib.Omega.{arith}
use borrow.Author.Rules.{rules}
use Rattle.handset_bytes.proofs.Heads.{headed}
use Rattle.handset_bytes.proofs.DecodeTurns.{Reading, begun, unheaded, bad, turn, read_all}
use Rattle.handset_bytes.proofs.decoding.decode.Goals as goal

pub returns-then-not-is_headed : goal.returns-then-not-is_headed
returns-then-not-is_headed c = c.none.ensures ∙ sym (unheaded _ (sym c.is_headed.ensures ∙ c.if-not-is_headed.true))

pub half-count-requires : goal.half-count-requires
half-count-requires c = let h = (headed _ (sym c.is_headed.ensures ∙ c.if-not-is_headed.false)).long in omega arith

pub loop-i-init : goal.loop-i-init
loop-i-init c = begun _ _ (sym c.is_headed.ensures ∙ c.if-not-is_headed.false) c.half-count.ensures c.root-root.ensures

pub is_record-requires : goal.is_record-requires
is_record-requires c = let k = c.loop-i.invariant in (k.size, omega (arith, k.few))

pub returns-then-not-is_record : goal.returns-then-not-is_record
returns-then-not-is_record c = c.none-then-not-is_record.ensures ∙ sym (bad c.loop-i.invariant (omega arith) (sym c.is_record.ensures ∙ c.if-not-is_record.true))

pub read-requires : goal.read-requires
read-requires c = let k = c.loop-i.invariant in (k.size, omega (arith, k.few))

pub loop-i-preserved : goal.loop-i-preserved
loop-i-preserved c = turn c.loop-i.invariant (omega arith) (sym c.is_record.ensures ∙ c.if-not-is_record.false) c.read.ensures

pub returns : goal.returns
returns c = read_all c.loop-i.invariant (omega arith) c.half.ensures c.system_in.ensures
