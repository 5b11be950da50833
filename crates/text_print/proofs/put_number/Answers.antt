-- `text_print::put_number` meets its contract: a number of 64 bits has at most twenty digits. Assumes nothing.
use native.Mathlib.Omega.{arith}
use Rattle.text_numbers.specs.Decimal.{dec_text}
use Rattle.text_numbers.proofs.DecimalLaws.{dec_room}
use Rattle.text_stream.proofs.Prints.{written_byte}
use Rattle.text_print.proofs.put_number.Goals as goal

pub returns : goal.returns
returns c =
    record {
      written =
          written_byte (dec_text c.args.n) c.args.end record { place = c.put_dec-last.ensures.value; bytes = c.put_dec-last.ensures.out_after };
      upper_bound = omega (arith, dec_room c.args.n (omega arith));
    }

pub put_dec-last-requires : goal.put_dec-last-requires
put_dec-last-requires c = omega (arith, dec_room c.args.n (omega arith))

pub bounds-out-last : goal.bounds-out-last
bounds-out-last c = omega (arith, dec_room c.args.n (omega arith))

pub overflow_add-result : goal.overflow_add-result
overflow_add-result c = omega (arith, dec_room c.args.n (omega arith))
