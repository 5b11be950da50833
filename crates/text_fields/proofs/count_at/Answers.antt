-- `count_at` meets its contract: by where the text ends. Assumes nothing.
use Rattle.text_fields.proofs.EndLaws.{count_one, count_two, count_three, count_four, count_five, count_six}
use Rattle.text_fields.proofs.count_at.Goals as goal

pub returns-then-s-ends : goal.returns-then-s-ends
returns-then-s-ends c =
    count_one c.args.separator c.args.s.now c.args.ends c.requires c.if-s-ends.true

pub returns-then-s-ends-2 : goal.returns-then-s-ends-2
returns-then-s-ends-2 c =
    count_two c.args.separator c.args.s.now c.args.ends c.requires c.if-s-ends.false c.if-s-ends-2.true

pub returns-then-s-ends-3 : goal.returns-then-s-ends-3
returns-then-s-ends-3 c =
    count_three c.args.separator c.args.s.now c.args.ends c.requires c.if-s-ends-2.false c.if-s-ends-3.true

pub returns-then-s-ends-4 : goal.returns-then-s-ends-4
returns-then-s-ends-4 c =
    count_four c.args.separator c.args.s.now c.args.ends c.requires c.if-s-ends-3.false c.if-s-ends-4.true

pub returns-then-s-ends-5 : goal.returns-then-s-ends-5
returns-then-s-ends-5 c =
    count_five c.args.separator c.args.s.now c.args.ends c.requires c.if-s-ends-4.false c.if-s-ends-5.true

pub returns-then-s-ends-6 : goal.returns-then-s-ends-6
returns-then-s-ends-6 c =
    count_six c.args.separator c.args.s.now c.args.ends c.requires c.if-s-ends-5.false c.if-s-ends-6.true
