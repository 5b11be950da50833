-- By what the line says.
use Rattle.std.proofs.Common.{Some}
use mathlib.Core.Path.{refl, sym, ap, ◌∙◌}
use mir.Syntax.{w32}
use mir.Facts.{to_z-of_z}
use native.Mathlib.Omega.{arith}
use Rattle.card_build.specs.Card.{accepted}
use Rattle.line_image.specs.declared.line.Line.{Line}
use Rattle.line_image.specs.Line.{hex32}
use Rattle.line_build.specs.Image.{image_step}
use Rattle.line_image.proofs.Lines.{block-digits}
use Rattle.line_build.proofs.image_line.Goals as goal

pub set_hex-answer-requires : goal.set_hex-answer-requires
set_hex-answer-requires c =
    ap hex32 c.field.ensures ∙ block-digits _ _ _ _ (sym c.read_line.ensures ∙ c.in-Some.is ∙ ap (λ (k : Line). Some k) c.in-Block.is)

pub returns-in_default-clause-value : goal.returns-in_default-clause-value
unfolding image_step
returns-in_default-clause-value c = rw (sym c.read_line.ensures ∙ c.in_default.is) c.keep.ensures

pub returns-in_default-clause-arena_after : goal.returns-in_default-clause-arena_after
unfolding image_step
returns-in_default-clause-arena_after c = rw (sym c.read_line.ensures ∙ c.in_default.is)

pub returns-in-Card-clause-value : goal.returns-in-Card-clause-value
unfolding image_step
returns-in-Card-clause-value c =
    rw (sym c.read_line.ensures ∙ c.in-Some.is ∙ ap (λ (k : Line). Some k) c.in-Card.is) (c.keep-in-Card.ensures ∙ ap accepted c.new.ensures)

pub returns-in-Card-clause-arena_after : goal.returns-in-Card-clause-arena_after
unfolding image_step
returns-in-Card-clause-arena_after c = rw (sym c.read_line.ensures ∙ c.in-Some.is ∙ ap (λ (k : Line). Some k) c.in-Card.is)

pub returns-in-Area-clause-value : goal.returns-in-Area-clause-value
unfolding image_step
returns-in-Area-clause-value c = rw (sym c.read_line.ensures ∙ c.in-Some.is ∙ ap (λ (k : Line). Some k) c.in-Area.is) c.add_area.ensures

pub returns-in-Area-clause-arena_after : goal.returns-in-Area-clause-arena_after
unfolding image_step
returns-in-Area-clause-arena_after c = rw (sym c.read_line.ensures ∙ c.in-Some.is ∙ ap (λ (k : Line). Some k) c.in-Area.is)

pub returns-in-Service-clause-value : goal.returns-in-Service-clause-value
unfolding image_step
returns-in-Service-clause-value c = rw (sym c.read_line.ensures ∙ c.in-Some.is ∙ ap (λ (k : Line). Some k) c.in-Service.is) c.add_service.ensures.value

pub returns-in-Service-clause-arena_after : goal.returns-in-Service-clause-arena_after
unfolding image_step
returns-in-Service-clause-arena_after c =
    rw (sym c.read_line.ensures ∙ c.in-Some.is ∙ ap (λ (k : Line). Some k) c.in-Service.is) c.add_service.ensures.arena_after

pub returns-in-Limit-clause-value : goal.returns-in-Limit-clause-value
unfolding image_step
returns-in-Limit-clause-value c =
    let first = to_z-of_z {w = w32} {z = c.in-Limit.upper} record { sfits = omega arith } in
    let second = to_z-of_z {w = w32} {z = c.in-Limit.lower} record { sfits = omega arith } in
    rw (sym c.read_line.ensures ∙ c.in-Some.is ∙ ap (λ (k : Line). Some k) c.in-Limit.is) (rw (first, second) at c.set_limit.ensures)

pub returns-in-Limit-clause-arena_after : goal.returns-in-Limit-clause-arena_after
unfolding image_step
returns-in-Limit-clause-arena_after c = rw (sym c.read_line.ensures ∙ c.in-Some.is ∙ ap (λ (k : Line). Some k) c.in-Limit.is)

pub returns-in-Block-clause-value : goal.returns-in-Block-clause-value
unfolding image_step
returns-in-Block-clause-value c =
    rw (sym c.read_line.ensures ∙ c.in-Some.is ∙ ap (λ (k : Line). Some k) c.in-Block.is) (rw c.set_hex-answer.ensures.value at c.keep-in-Block.ensures)

pub returns-in-Block-clause-arena_after : goal.returns-in-Block-clause-arena_after
unfolding image_step
returns-in-Block-clause-arena_after c =
    rw (sym c.read_line.ensures ∙ c.in-Some.is ∙ ap (λ (k : Line). Some k) c.in-Block.is, ← c.field.ensures) c.set_hex-answer.ensures.arena_after
