-- One answer only: the lines of an inspection.
use mathlib.Core.Path.{refl}
use seplogic.Ra.Ura.{Ura}
use base.Logic.{SProp}
use prog.Memory.{Memory}
use prog.Routine.{Routine}
use types.Logic.{Logic}
use contract.Monad.{Fun}
use Rattle.law_once.specs.One.{OneAnswer}
use Rattle.law_once.proofs.Law.{once, of_one, of_two, of_facts_lem, result}
use Rattle.inspect_ask.specs.contracts.question_of as inspect_ask·question-of
use Rattle.inspect_fields.specs.contracts.line.read_codes as inspect_fields·read-codes
use Rattle.inspect_fields.specs.contracts.line.read_bytes as inspect_fields·read-bytes
use Rattle.inspect_fields.specs.contracts.put.put_refusal as inspect_fields·put-refusal
use Rattle.inspect_fields.specs.contracts.read.put_read as inspect_fields·put-read
use Rattle.inspect_fields.specs.contracts.attribute.put_attribute as inspect_fields·put-attribute
use Rattle.inspect_answer.specs.contracts.put_answer as inspect_answer·put-answer
use Rattle.inspect_answer.specs.contracts.put_unknown as inspect_answer·put-unknown
use Rattle.inspect_sort.specs.contracts.sort_of as inspect_sort·sort-of
use Rattle.inspect_line.specs.contracts.start as inspect_line·start
use Rattle.inspect_line.specs.contracts.line as inspect_line·line

module _ {M : Type 1} {𝓤 : Ura M} (𝓛 : Logic 𝓤) (mem : Memory → SProp 𝓤) (run : Routine → Fun 𝓤) where
  pub inspect_ask·question-of-once : OneAnswer 𝓤 inspect_ask·question-of.ended (inspect_ask·question-of.clauses 𝓛 mem run)
  inspect_ask·question-of-once κs a g r r' ws ws' = result 𝓤 refl

  pub inspect_fields·read-codes-once : OneAnswer 𝓤 inspect_fields·read-codes.ended (inspect_fields·read-codes.clauses 𝓛 mem run)
  inspect_fields·read-codes-once κs a g r r' ws ws' = of_two 𝓤 (λ p p' q q'. (once p.0 q.0, λ i. (tt, (once p' q' i, tt))))

  pub inspect_fields·read-bytes-once : OneAnswer 𝓤 inspect_fields·read-bytes.ended (inspect_fields·read-bytes.clauses 𝓛 mem run)
  inspect_fields·read-bytes-once κs a g r r' ws ws' = of_two 𝓤 (λ p p' q q'. (once p.0 q.0, λ i. (tt, (once p' q' i, tt))))

  pub inspect_fields·put-refusal-once : OneAnswer 𝓤 inspect_fields·put-refusal.ended (inspect_fields·put-refusal.clauses 𝓛 mem run)
  inspect_fields·put-refusal-once κs a g r r' ws ws' = of_two 𝓤 (λ p p' q q'. (once p.place q.place, λ i. (tt, (once p.bytes q.bytes i, (tt, tt)))))

  pub inspect_fields·put-read-once : OneAnswer 𝓤 inspect_fields·put-read.ended (inspect_fields·put-read.clauses 𝓛 mem run)
  inspect_fields·put-read-once κs a g r r' ws ws' = of_two 𝓤 (λ p p' q q'. (once p.place q.place, λ i. (tt, (tt, (once p.bytes q.bytes i, (tt, tt))))))

  pub inspect_fields·put-attribute-once : OneAnswer 𝓤 inspect_fields·put-attribute.ended (inspect_fields·put-attribute.clauses 𝓛 mem run)
  inspect_fields·put-attribute-once κs a g r r' ws ws' = of_two 𝓤 (λ p p' q q'. (once p.place q.place, λ i. (tt, (once p.bytes q.bytes i, (tt, tt)))))

  pub inspect_answer·put-answer-once : OneAnswer 𝓤 inspect_answer·put-answer.ended (inspect_answer·put-answer.clauses 𝓛 mem run)
  inspect_answer·put-answer-once κs a g r r' ws ws' = of_one 𝓤 (λ p q.
      (once p.0.place q.0.place, λ i. (tt, (tt, (tt, (tt, (tt, (tt, (once p.0.bytes q.0.bytes i, (tt, tt))))))))))

  pub inspect_answer·put-unknown-once : OneAnswer 𝓤 inspect_answer·put-unknown.ended (inspect_answer·put-unknown.clauses 𝓛 mem run)
  inspect_answer·put-unknown-once κs a g r r' ws ws' = of_one 𝓤 (λ p q. (once p.0.place q.0.place, λ i. (tt, (once p.0.bytes q.0.bytes i, (tt, tt)))))

  pub inspect_sort·sort-of-once : OneAnswer 𝓤 inspect_sort·sort-of.ended (inspect_sort·sort-of.clauses 𝓛 mem run)
  inspect_sort·sort-of-once κs a g r r' ws ws' = result 𝓤 refl

  pub inspect_line·start-once : OneAnswer 𝓤 inspect_line·start.ended (inspect_line·start.clauses 𝓛 mem run)
  inspect_line·start-once κs a g r r' ws ws' = result 𝓤 refl

  pub inspect_line·line-once : OneAnswer 𝓤 inspect_line·line.ended (inspect_line·line.clauses 𝓛 mem run)
  inspect_line·line-once κs a g r r' ws ws' = of_facts_lem 𝓤 (λ s p work bytes s' q work' bytes'. (
    λ i. record { inspect = (once s s' i).inspect; at = once p.0.place q.0.place i },
    λ i. (tt, ((once s s' i).arena, (once work work' i, (once bytes bytes' i, (tt, (once p.0.bytes q.0.bytes i, (tt, tt))))))),
  ))
