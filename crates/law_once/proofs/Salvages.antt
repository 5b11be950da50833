-- One answer only: a salvage, from the two rules and the verdict of a line to a whole text.
use Rattle.std.proofs.Common.{Option, ℕ}
use mathlib.Core.Path.{ap, refl}
use seplogic.Ra.Ura.{Ura}
use base.Logic.{SProp}
use prog.Memory.{Memory}
use prog.Routine.{Routine}
use types.Logic.{Logic}
use contract.Monad.{Fun}
use Rattle.salvage_rule.specs.Salvage.{Between}
use Rattle.salvage_line.specs.Image.{Image}
use Rattle.salvage_print.specs.Print.{said_of, gain_of, spotted}
use Rattle.law_once.specs.One.{OneAnswer}
use Rattle.law_once.proofs.Law.{once, once_by, of_two, of_three, result}
use Rattle.text_pieces.specs.contracts.behind as text_pieces·behind
use Rattle.salvage_rule.specs.contracts.is_deeper as salvage_rule·is-deeper
use Rattle.salvage_rule.specs.contracts.is_taken as salvage_rule·is-taken
use Rattle.salvage_rule.specs.contracts.rules_after as salvage_rule·rules-after
use Rattle.salvage_line.specs.contracts.salvage_line as salvage_line·salvage-line
use Rattle.salvage_print.specs.contracts.put as salvage_print·put
use Rattle.salvage_print.specs.contracts.keep as salvage_print·keep
use Rattle.salvage_print.specs.contracts.tell as salvage_print·tell
use Rattle.salvage_text.specs.contracts.salvage as salvage_text·salvage

module _ {M : Type 1} {𝓤 : Ura M} (𝓛 : Logic 𝓤) (mem : Memory → SProp 𝓤) (run : Routine → Fun 𝓤) where
  pub text_pieces·behind-once : OneAnswer 𝓤 text_pieces·behind.ended (text_pieces·behind.clauses 𝓛 mem run)
  text_pieces·behind-once κs a g r r' ws ws' = result 𝓤 refl

  pub salvage_rule·is-deeper-once : OneAnswer 𝓤 salvage_rule·is-deeper.ended (salvage_rule·is-deeper.clauses 𝓛 mem run)
  salvage_rule·is-deeper-once κs a g r r' ws ws' = result 𝓤 refl

  pub salvage_rule·is-taken-once : OneAnswer 𝓤 salvage_rule·is-taken.ended (salvage_rule·is-taken.clauses 𝓛 mem run)
  salvage_rule·is-taken-once κs a g r r' ws ws' = result 𝓤 refl

  pub salvage_rule·rules-after-once : OneAnswer 𝓤 salvage_rule·rules-after.ended (salvage_rule·rules-after.clauses 𝓛 mem run)
  salvage_rule·rules-after-once κs a g r r' ws ws' = result 𝓤 refl

  pub salvage_line·salvage-line-once : OneAnswer 𝓤 salvage_line·salvage-line.ended (salvage_line·salvage-line.clauses 𝓛 mem run)
  salvage_line·salvage-line-once κs a g r r' ws ws' =
      of_two 𝓤 (λ p p' q q'.
      let e = once p' q' in (
        λ i. record { card = ap (λ (s : Between Image). s.built.card) e i; rules = ap (λ (s : Between Image). s.rules) e i; fate = once p q i },
        λ i. (tt, (tt, (ap (λ (s : Between Image). s.built.arena) e i, (tt, tt)))),
      ))

  pub salvage_print·put-once : OneAnswer 𝓤 salvage_print·put.ended (salvage_print·put.clauses 𝓛 mem run)
  salvage_print·put-once κs a g r r' ws ws' =
      of_two 𝓤 (λ p p' q q'.
      let e = once p q in
      (e, λ i. (tt, (once_by (λ (x : Option ℕ). spotted x a.0 a.1.0.now a.1.1.0 a.1.1.1.0.now) e p' q' i, (tt, (tt, tt))))))

  pub salvage_print·keep-once : OneAnswer 𝓤 salvage_print·keep.ended (salvage_print·keep.clauses 𝓛 mem run)
  salvage_print·keep-once κs a g r r' ws ws' =
      of_two 𝓤 (λ p p' q q'.
      let e = once p q in (
        e,
        λ i. (
          tt,
          (
            tt,
            (
              tt,
              (once_by (λ (x : Option ℕ). spotted x a.0 a.1.1.1.0.now a.1.1.1.1.0 (gain_of a.1.0 a.1.1.0.now)) e p' q' i, (tt, tt)),
            ),
          ),
        ),
      ))

  pub salvage_print·tell-once : OneAnswer 𝓤 salvage_print·tell.ended (salvage_print·tell.clauses 𝓛 mem run)
  salvage_print·tell-once κs a g r r' ws ws' =
      of_two 𝓤 (λ p p' q q'.
      let e = once p q in (
        e,
        λ i. (
          tt,
          (tt, (tt, (once_by (λ (x : Option ℕ). spotted x a.0 a.1.1.1.0.now a.1.1.1.1.0 (said_of a.1.0 a.1.1.0)) e p' q' i, (tt, tt)))),
        ),
      ))

  pub salvage_text·salvage-once : OneAnswer 𝓤 salvage_text·salvage.ended (salvage_text·salvage.clauses 𝓛 mem run)
  salvage_text·salvage-once κs a g r r' ws ws' =
      of_three 𝓤 (λ p p' p'' q q' q''. (once p q, λ i. (tt, (once p' q' i, (once p'' q'' i, tt)))))
