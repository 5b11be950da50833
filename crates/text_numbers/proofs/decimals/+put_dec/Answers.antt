-- `decimals::put_dec` meets its contract, by recursion on n. Assumes nothing.
use Rattle.std.proofs.Common.{◌+◌, ◌/◌, ◌%◌, arith}
use Rattle.text_numbers.specs.Decimal.{dec_text}
use Rattle.text_numbers.proofs.DecimalLaws.{dec_one, dec_more, long_one, long-more}
use Rattle.byte_parts.proofs.Put.{put_one, put_snoc}
use Rattle.text_numbers.proofs.decimals.+put_dec.Goals as goal

pub bounds-out-at : goal.bounds-out-at
bounds-out-at t c = omega (arith, long_one c.args.n c.if-n-lt10.true)

pub returns-then-n-lt10-clause-value : goal.returns-then-n-lt10-clause-value
returns-then-n-lt10-clause-value t c = omega (arith, long_one c.args.n c.if-n-lt10.true)

pub returns-then-n-lt10-clause-out_after : goal.returns-then-n-lt10-clause-out_after
returns-then-n-lt10-clause-out_after t c =
    let a = c.args in
    rw (dec_one a.n c.if-n-lt10.true) (put_one a.out.now a.at (48 + a.n))

pub put_dec-end-requires : goal.put_dec-end-requires
put_dec-end-requires t c =
    let e = long-more c.args.n c.if-n-lt10.false in
    (omega arith, omega arith)

pub bounds-out-end : goal.bounds-out-end
bounds-out-end t c = omega (arith, long-more c.args.n c.if-n-lt10.false)

pub overflow_add-result-2 : goal.overflow_add-result-2
overflow_add-result-2 t c = omega (arith, long-more c.args.n c.if-n-lt10.false)

pub returns-clause-value : goal.returns-clause-value
returns-clause-value t c = omega (arith, long-more c.args.n c.if-n-lt10.false)

pub returns-clause-out_after : goal.returns-clause-out_after
returns-clause-out_after t c =
    let a = c.args in
    let p = c.put_dec-end.ensures in
    rw (p.out_after, p.value, dec_more a.n c.if-n-lt10.false) (put_snoc a.out.now a.at (dec_text (a.n / 10)) (48 + a.n % 10))
