-- `fields::purse_write` meets its contract: each operation is a function of its own. Assumes nothing.
use Rattle.rule_purse.proofs.fields.purse_write.Goals as goal

pub returns-in-Direct : goal.returns-in-Direct
returns-in-Direct c = rw c.in-Direct.is c.direct.ensures

pub returns-in-Decrement : goal.returns-in-Decrement
returns-in-Decrement c = rw c.in-Decrement.is c.decrement.ensures

pub returns-in-Cashback : goal.returns-in-Cashback
returns-in-Cashback c = rw c.in-Cashback.is c.cashback.ensures
