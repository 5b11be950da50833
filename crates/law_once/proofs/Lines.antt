-- One answer only: lines of text: those of an image and those of requests, replay, a text cut into lines, and what a program over a text does around its machine.
use Prim.Native.Nat.{ℕ}
use mathlib.Core.Path.{refl}
use seplogic.Ra.Ura.{Ura}
use base.Logic.{SProp}
use prog.Memory.{Memory}
use prog.Routine.{Routine}
use types.Logic.{Logic}
use contract.Monad.{Fun}
use Rattle.byte_parts.specs.Part.{put}
use Rattle.text_numbers.specs.Codes.{codes_of}
use Rattle.line_fields.specs.Fields.{field_in}
use Rattle.text_pull.specs.Pull.{rested_of}
use Rattle.law_once.specs.One.{OneAnswer, OneSeen}
use Rattle.law_once.proofs.Law.{once, once_by, of_two, of_facts_lem, of_four, result}
use Rattle.line_fields.specs.contracts.Fields.new as line_fields·Fields·new
use Rattle.line_fields.specs.contracts.Fields.field as line_fields·Fields·field
use Rattle.line_fields.specs.contracts.Fields.count as line_fields·Fields·count
use Rattle.line_fields.specs.contracts.Fields.is_word as line_fields·Fields·is-word
use Rattle.line_fields.specs.contracts.Fields.is_form as line_fields·Fields·is-form
use Rattle.line_fields.specs.contracts.Fields.code_at as line_fields·Fields·code-at
use Rattle.line_fields.specs.contracts.Fields.number_at as line_fields·Fields·number-at
use Rattle.line_fields.specs.contracts.Fields.bound_at as line_fields·Fields·bound-at
use Rattle.line_fields.specs.contracts.Fields.has_hex as line_fields·Fields·has-hex
use Rattle.line_fields.specs.contracts.Fields.has_codes as line_fields·Fields·has-codes
use Rattle.line_fields.specs.contracts.Fields.read_codes as line_fields·Fields·read-codes
use Rattle.line_fields.specs.contracts.Fields.put_field as line_fields·Fields·put-field
use Rattle.line_image.specs.contracts.line.is_image as line_image·is-image
use Rattle.line_image.specs.contracts.line.read_line as line_image·read-line
use Rattle.line_build.specs.contracts.image_line as line_build·image-line
use Rattle.line_request.specs.contracts.is_letter as line_request·is-letter
use Rattle.line_request.specs.contracts.is_request as line_request·is-request
use Rattle.line_request.specs.contracts.ask_of as line_request·ask-of
use Rattle.line_answer.specs.contracts.put_fields as line_answer·put-fields
use Rattle.line_answer.specs.contracts.put_answer as line_answer·put-answer
use Rattle.line_answer.specs.contracts.put_refused as line_answer·put-refused
use Rattle.line_serve.specs.contracts.serve_line as line_serve·serve-line
use Rattle.line_serve.specs.contracts.request_line as line_serve·request-line
use Rattle.replay_state.specs.contracts.start as replay_state·start
use Rattle.replay_state.specs.contracts.put_refusal as replay_state·put-refusal
use Rattle.replay_state.specs.contracts.finish as replay_state·finish
use Rattle.replay_kind.specs.contracts.kind_of as replay_kind·kind-of
use Rattle.replay_state.specs.contracts.close as replay_state·close
use Rattle.replay_state.specs.contracts.stops_in as replay_state·stops-in
use Rattle.replay_line.specs.contracts.one_more as replay_line·one-more
use Rattle.replay_line.specs.contracts.take as replay_line·take
use Rattle.replay_line.specs.contracts.line as replay_line·line
use Rattle.text_feed.specs.contracts.feed as text_feed·feed
use Rattle.text_pull.specs.contracts.start as text_pull·start
use Rattle.text_pull.specs.contracts.goes_on as text_pull·goes-on
use Rattle.text_pull.specs.contracts.is_line as text_pull·is-line
use Rattle.text_pull.specs.contracts.is_end as text_pull·is-end
use Rattle.text_pull.specs.contracts.kept as text_pull·kept
use Rattle.text_pull.specs.contracts.made as text_pull·made
use Rattle.text_pull.specs.contracts.took as text_pull·took
use Rattle.text_pull.specs.contracts.closed as text_pull·closed
use Rattle.text_pull.specs.contracts.whole.held as text_pull·held
use Rattle.text_pull.specs.contracts.whole.is_short as text_pull·is-short

module _ {M : Type 1} {𝓤 : Ura M} (𝓛 : Logic 𝓤) (mem : Memory → SProp 𝓤) (run : Routine → Fun 𝓤) where
  -- the fields of a line: the line's bytes are one answer, and where the fields end is fixed by them
  pub line_fields·Fields·new-once : OneSeen 𝓤 line_fields·Fields·new.ended (line_fields·Fields·new.clauses 𝓛 mem run) (λ κs x. x.line.now)
  line_fields·Fields·new-once κs a g r r' ws ws' = result 𝓤 refl

  -- a part of the line: its bytes are one answer, and nothing is said of where they lie
  pub line_fields·Fields·field-once : OneSeen 𝓤 line_fields·Fields·field.ended (line_fields·Fields·field.clauses 𝓛 mem run) (λ κs x. x.now)
  line_fields·Fields·field-once κs a g r r' ws ws' = result 𝓤 refl

  pub line_fields·Fields·count-once : OneAnswer 𝓤 line_fields·Fields·count.ended (line_fields·Fields·count.clauses 𝓛 mem run)
  line_fields·Fields·count-once κs a g r r' ws ws' = result 𝓤 refl

  pub line_fields·Fields·is-word-once : OneAnswer 𝓤 line_fields·Fields·is-word.ended (line_fields·Fields·is-word.clauses 𝓛 mem run)
  line_fields·Fields·is-word-once κs a g r r' ws ws' = result 𝓤 refl

  pub line_fields·Fields·is-form-once : OneAnswer 𝓤 line_fields·Fields·is-form.ended (line_fields·Fields·is-form.clauses 𝓛 mem run)
  line_fields·Fields·is-form-once κs a g r r' ws ws' = result 𝓤 refl

  pub line_fields·Fields·code-at-once : OneAnswer 𝓤 line_fields·Fields·code-at.ended (line_fields·Fields·code-at.clauses 𝓛 mem run)
  line_fields·Fields·code-at-once κs a g r r' ws ws' = result 𝓤 refl

  pub line_fields·Fields·number-at-once : OneAnswer 𝓤 line_fields·Fields·number-at.ended (line_fields·Fields·number-at.clauses 𝓛 mem run)
  line_fields·Fields·number-at-once κs a g r r' ws ws' = result 𝓤 refl

  pub line_fields·Fields·bound-at-once : OneAnswer 𝓤 line_fields·Fields·bound-at.ended (line_fields·Fields·bound-at.clauses 𝓛 mem run)
  line_fields·Fields·bound-at-once κs a g r r' ws ws' = result 𝓤 refl

  pub line_fields·Fields·has-hex-once : OneAnswer 𝓤 line_fields·Fields·has-hex.ended (line_fields·Fields·has-hex.clauses 𝓛 mem run)
  line_fields·Fields·has-hex-once κs a g r r' ws ws' = result 𝓤 refl

  pub line_fields·Fields·has-codes-once : OneAnswer 𝓤 line_fields·Fields·has-codes.ended (line_fields·Fields·has-codes.clauses 𝓛 mem run)
  line_fields·Fields·has-codes-once κs a g r r' ws ws' = result 𝓤 refl

  -- how many are put is said by the result
  pub line_fields·Fields·read-codes-once : OneAnswer 𝓤 line_fields·Fields·read-codes.ended (line_fields·Fields·read-codes.clauses 𝓛 mem run)
  line_fields·Fields·read-codes-once κs a g r r' ws ws' =
      of_two 𝓤 (λ p p' q q'.
      let e = once p.0 q.0 in
      let written = once_by (λ (n : ℕ). put a.1.1.0.now 0 n (codes_of (field_in a.0.line.now a.1.0))) e p' q' in
      (e, λ i. (tt, (tt, (written i, tt)))))

  pub line_fields·Fields·put-field-once : OneAnswer 𝓤 line_fields·Fields·put-field.ended (line_fields·Fields·put-field.clauses 𝓛 mem run)
  line_fields·Fields·put-field-once κs a g r r' ws ws' = of_two 𝓤 (λ p p' q q'. (once p q, λ i. (tt, (tt, (once p' q' i, (tt, tt))))))

  pub line_image·is-image-once : OneAnswer 𝓤 line_image·is-image.ended (line_image·is-image.clauses 𝓛 mem run)
  line_image·is-image-once κs a g r r' ws ws' = result 𝓤 refl

  pub line_image·read-line-once : OneAnswer 𝓤 line_image·read-line.ended (line_image·read-line.clauses 𝓛 mem run)
  line_image·read-line-once κs a g r r' ws ws' = result 𝓤 refl

  pub line_build·image-line-once : OneAnswer 𝓤 line_build·image-line.ended (line_build·image-line.clauses 𝓛 mem run)
  line_build·image-line-once κs a g r r' ws ws' = of_two 𝓤 (λ p p' q q'. (once p q, λ i. (tt, (tt, (once p' q' i, (tt, tt))))))

  pub line_request·is-letter-once : OneAnswer 𝓤 line_request·is-letter.ended (line_request·is-letter.clauses 𝓛 mem run)
  line_request·is-letter-once κs a g r r' ws ws' = result 𝓤 refl

  pub line_request·is-request-once : OneAnswer 𝓤 line_request·is-request.ended (line_request·is-request.clauses 𝓛 mem run)
  line_request·is-request-once κs a g r r' ws ws' = result 𝓤 refl

  pub line_request·ask-of-once : OneAnswer 𝓤 line_request·ask-of.ended (line_request·ask-of.clauses 𝓛 mem run)
  line_request·ask-of-once κs a g r r' ws ws' = result 𝓤 refl

  pub line_answer·put-fields-once : OneAnswer 𝓤 line_answer·put-fields.ended (line_answer·put-fields.clauses 𝓛 mem run)
  line_answer·put-fields-once κs a g r r' ws ws' = of_two 𝓤 (λ p p' q q'. (once p.place q.place, λ i. (tt, (tt, (tt, (once p.bytes q.bytes i, (tt, tt)))))))

  pub line_answer·put-answer-once : OneAnswer 𝓤 line_answer·put-answer.ended (line_answer·put-answer.clauses 𝓛 mem run)
  line_answer·put-answer-once κs a g r r' ws ws' = of_two 𝓤 (λ p p' q q'. (once p.place q.place, λ i. (tt, (tt, (tt, (once p.bytes q.bytes i, (tt, tt)))))))

  pub line_answer·put-refused-once : OneAnswer 𝓤 line_answer·put-refused.ended (line_answer·put-refused.clauses 𝓛 mem run)
  line_answer·put-refused-once κs a g r r' ws ws' = of_two 𝓤 (λ p p' q q'. (once p.place q.place, λ i. (tt, (tt, (once p.bytes q.bytes i, (tt, tt))))))

  pub line_serve·serve-line-once : OneAnswer 𝓤 line_serve·serve-line.ended (line_serve·serve-line.clauses 𝓛 mem run)
  line_serve·serve-line-once κs a g r r' ws ws' = of_four 𝓤 (λ e arena work bytes. (e, λ i. (tt, (arena i, (work i, (bytes i, (tt, tt)))))))

  pub line_serve·request-line-once : OneAnswer 𝓤 line_serve·request-line.ended (line_serve·request-line.clauses 𝓛 mem run)
  line_serve·request-line-once κs a g r r' ws ws' = of_facts_lem 𝓤 (λ p arena work bytes q arena' work' bytes'.
      (once p.0.place q.0.place, λ i. (tt, (once arena arena' i, (once work work' i, (once bytes bytes' i, (tt, (tt, (once p.0.bytes q.0.bytes i, (tt, tt))))))))))

  pub replay_state·start-once : OneAnswer 𝓤 replay_state·start.ended (replay_state·start.clauses 𝓛 mem run)
  replay_state·start-once κs a g r r' ws ws' = result 𝓤 refl

  pub replay_state·put-refusal-once : OneAnswer 𝓤 replay_state·put-refusal.ended (replay_state·put-refusal.clauses 𝓛 mem run)
  replay_state·put-refusal-once κs a g r r' ws ws' = of_two 𝓤 (λ p p' q q'. (once p.place q.place, λ i. (tt, (tt, (once p.bytes q.bytes i, (tt, tt))))))

  pub replay_state·finish-once : OneAnswer 𝓤 replay_state·finish.ended (replay_state·finish.clauses 𝓛 mem run)
  replay_state·finish-once κs a g r r' ws ws' = of_two 𝓤 (λ p p' q q'. (once p.place q.place, λ i. (tt, (once p.bytes q.bytes i, (tt, tt)))))

  pub replay_kind·kind-of-once : OneAnswer 𝓤 replay_kind·kind-of.ended (replay_kind·kind-of.clauses 𝓛 mem run)
  replay_kind·kind-of-once κs a g r r' ws ws' = result 𝓤 refl

  pub replay_state·close-once : OneAnswer 𝓤 replay_state·close.ended (replay_state·close.clauses 𝓛 mem run)
  replay_state·close-once κs a g r r' ws ws' = of_two 𝓤 (λ p p' q q'. (
    once_by (λ (n : ℕ). rested_of a.1.0 n) (once p.words.place q.words.place) p.flow q.flow,
    λ i. (tt, (tt, (once p.words.bytes q.words.bytes i, tt))),
  ))

  pub replay_state·stops-in-once : OneAnswer 𝓤 replay_state·stops-in.ended (replay_state·stops-in.clauses 𝓛 mem run)
  replay_state·stops-in-once κs a g r r' ws ws' = result 𝓤 refl

  pub replay_line·one-more-once : OneAnswer 𝓤 replay_line·one-more.ended (replay_line·one-more.clauses 𝓛 mem run)
  replay_line·one-more-once κs a g r r' ws ws' = result 𝓤 refl

  pub replay_line·take-once : OneAnswer 𝓤 replay_line·take.ended (replay_line·take.clauses 𝓛 mem run)
  replay_line·take-once κs a g r r' ws ws' = of_facts_lem 𝓤 (λ s p work bytes s' q work' bytes'. (
    λ i. record { replay = (once s s' i).replay; at = once p.0.place q.0.place i },
    λ i. (tt, (tt, ((once s s' i).arena, (once work work' i, (once bytes bytes' i, (tt, (once p.0.bytes q.0.bytes i, (tt, tt)))))))),
  ))

  pub replay_line·line-once : OneAnswer 𝓤 replay_line·line.ended (replay_line·line.clauses 𝓛 mem run)
  replay_line·line-once κs a g r r' ws ws' = of_facts_lem 𝓤 (λ s p work bytes s' q work' bytes'. (
    λ i. record { replay = (once s s' i).replay; at = once p.0.place q.0.place i },
    λ i. (tt, ((once s s' i).arena, (once work work' i, (once bytes bytes' i, (tt, (once p.0.bytes q.0.bytes i, (tt, tt))))))),
  ))

  pub text_feed·feed-once : OneAnswer 𝓤 text_feed·feed.ended (text_feed·feed.clauses 𝓛 mem run)
  text_feed·feed-once κs a g r r' ws ws' = of_two 𝓤 (λ p p' q q'. (once p q, λ i. (tt, (tt, (once p' q' i, tt)))))

  pub text_pull·start-once : OneAnswer 𝓤 text_pull·start.ended (text_pull·start.clauses 𝓛 mem run)
  text_pull·start-once κs a g r r' ws ws' = result 𝓤 refl

  pub text_pull·goes-on-once : OneAnswer 𝓤 text_pull·goes-on.ended (text_pull·goes-on.clauses 𝓛 mem run)
  text_pull·goes-on-once κs a g r r' ws ws' = result 𝓤 refl

  pub text_pull·is-line-once : OneAnswer 𝓤 text_pull·is-line.ended (text_pull·is-line.clauses 𝓛 mem run)
  text_pull·is-line-once κs a g r r' ws ws' = result 𝓤 refl

  pub text_pull·is-end-once : OneAnswer 𝓤 text_pull·is-end.ended (text_pull·is-end.clauses 𝓛 mem run)
  text_pull·is-end-once κs a g r r' ws ws' = result 𝓤 refl

  pub text_pull·kept-once : OneAnswer 𝓤 text_pull·kept.ended (text_pull·kept.clauses 𝓛 mem run)
  text_pull·kept-once κs a g r r' ws ws' = result 𝓤 refl

  pub text_pull·made-once : OneAnswer 𝓤 text_pull·made.ended (text_pull·made.clauses 𝓛 mem run)
  text_pull·made-once κs a g r r' ws ws' = result 𝓤 refl

  pub text_pull·took-once : OneAnswer 𝓤 text_pull·took.ended (text_pull·took.clauses 𝓛 mem run)
  text_pull·took-once κs a g r r' ws ws' = result 𝓤 refl

  pub text_pull·closed-once : OneAnswer 𝓤 text_pull·closed.ended (text_pull·closed.clauses 𝓛 mem run)
  text_pull·closed-once κs a g r r' ws ws' = result 𝓤 refl

  pub text_pull·held-once : OneAnswer 𝓤 text_pull·held.ended (text_pull·held.clauses 𝓛 mem run)
  text_pull·held-once κs a g r r' ws ws' = result 𝓤 refl

  pub text_pull·is-short-once : OneAnswer 𝓤 text_pull·is-short.ended (text_pull·is-short.clauses 𝓛 mem run)
  text_pull·is-short-once κs a g r r' ws ws' = result 𝓤 refl
