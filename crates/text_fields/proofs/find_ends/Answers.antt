-- `find_ends` meets its contract: each search starts behind the end before. Assumes nothing.
use Rattle.text_fields.specs.Field.{ends_of}
use Rattle.text_fields.proofs.find_ends.Goals as goal

pub returns : goal.returns
unfolding ends_of
returns c =
    rw (c.field_end-sixth.ensures.0, c.field_end-fifth.ensures.0, c.field_end-fourth.ensures.0, c.field_end-third.ensures.0, c.field_end-second.ensures.0, c.field_end-first.ensures.0)
