-- `text_print::put_four` meets its contract: two bytes are four digits. Assumes nothing.
use native.Mathlib.Omega.{arith}
use Rattle.text_print.proofs.Digits.{four, four_long}
use Rattle.text_print.proofs.put_four.Goals as goal

pub put_hex_field-requires : goal.put_hex_field-requires
put_hex_field-requires c =
    rw (four c.args.n, four_long c.args.n) c.requires

pub returns : goal.returns
returns c =
    let n = c.args.n in
    record {
      written = rw (← four n) record { place = c.put_hex_field.ensures.value; bytes = c.put_hex_field.ensures.out_after };
      upper_bound = omega (arith, rw (four n, four_long n) at c.put_hex_field.ensures.value);
    }
