-- `text_print::put_hex` meets its contract: the digits, and the byte after them. Assumes nothing.
use native.Mathlib.Omega.{arith}
use Rattle.text_numbers.specs.Hex.{hex_text}
use Rattle.text_numbers.proofs.HexLaws.{hex_text-long}
use Rattle.text_stream.proofs.Prints.{written_byte}
use Rattle.text_print.proofs.put_hex.Goals as goal

pub returns : goal.returns
returns c =
    record {
      written =
          written_byte (hex_text c.args.bytes.now) c.args.end record { place = c.put_hex_field-after.ensures.value; bytes = c.put_hex_field-after.ensures.out_after };
      upper_bound = omega (arith, hex_text-long c.args.bytes.now);
    }

pub put_hex_field-after-requires : goal.put_hex_field-after-requires
put_hex_field-after-requires c = omega (arith, hex_text-long c.args.bytes.now)

pub bounds-out-after : goal.bounds-out-after
bounds-out-after c = omega (arith, hex_text-long c.args.bytes.now)

pub overflow_add-result : goal.overflow_add-result
overflow_add-result c = omega (arith, hex_text-long c.args.bytes.now)
