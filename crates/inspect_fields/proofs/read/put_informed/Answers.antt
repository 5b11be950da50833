-- `read::put_informed` meets its contract: what the bytes read as, or the refusal. Assumes nothing.
use borrow.Author.Rules.{rules}
use native.Mathlib.Omega.{arith}
use Rattle.inspect_fields.specs.Fields.{read_info_fields}
use Rattle.inspect_fields.proofs.read.put_informed.Goals as goal

pub returns-in-Ok : goal.returns-in-Ok
unfolding read_info_fields
returns-in-Ok c =
    rw (← c.read_information-informed.ensures, c.in-Ok.is)
    (record { written = c.put_information.ensures.written; upper_bound = c.put_information.ensures.upper_bound })

pub returns-in-Err : goal.returns-in-Err
unfolding read_info_fields
returns-in-Err c =
    rw (← c.read_information-informed.ensures, c.in-Err.is) (record { written = c.put_refusal.ensures.written; upper_bound = omega (arith, c.put_refusal.ensures.upper_bound) })
