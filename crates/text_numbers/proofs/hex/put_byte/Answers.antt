-- `hex::put_byte` meets its contract: two digits are stored. Assumes nothing.
use native.Mathlib.Omega.{arith}
use lib.ListN.{length-set}
use Rattle.text_numbers.specs.Hex.{to_hex}
use Rattle.byte_parts.proofs.Put.{put_two}
use Rattle.text_numbers.proofs.hex.put_byte.Goals as goal

pub bounds-out-at-2 : goal.bounds-out-at-2
bounds-out-at-2 c = simp length-set (omega arith)

pub returns-clause-out_after : goal.returns-clause-out_after
unfolding to_hex
returns-clause-out_after c =
    let a = c.args in
    rw (c.capital_of.ensures, c.capital_of-2.ensures) (put_two a.out.now a.at _ _)
