-- One answer only: the card as bytes, and the library.
use mathlib.Core.Path.{refl}
use seplogic.Ra.Ura.{Ura}
use base.Logic.{SProp}
use prog.Memory.{Memory}
use prog.Routine.{Routine}
use types.Logic.{Logic}
use contract.Monad.{Fun}
use Rattle.law_once.specs.One.{OneAnswer}
use Rattle.law_once.proofs.Law.{once, of_one, of_two, of_three, of_four, of_six, result}
use Rattle.handset_bytes.specs.contracts.decoding.decode as handset_bytes·decode
use Rattle.handset_bytes.specs.contracts.encoding.encode as handset_bytes·encode
use Rattle.handset.specs.contracts.outcome.refused as handset·refused
use Rattle.handset.specs.contracts.build.uluvoli_new as handset·uluvoli-new
use Rattle.handset.specs.contracts.build.uluvoli_add_area as handset·uluvoli-add-area
use Rattle.handset.specs.contracts.build.uluvoli_add_service as handset·uluvoli-add-service
use Rattle.handset.specs.contracts.build.uluvoli_set_limit as handset·uluvoli-set-limit
use Rattle.handset.specs.contracts.questions.uluvoli_directory as handset·uluvoli-directory
use Rattle.handset.specs.contracts.questions.uluvoli_total as handset·uluvoli-total
use Rattle.handset.specs.contracts.questions.uluvoli_key_version as handset·uluvoli-key-version
use Rattle.handset.specs.contracts.lists.uluvoli_area_list as handset·uluvoli-area-list
use Rattle.handset.specs.contracts.lists.uluvoli_service_list as handset·uluvoli-service-list
use Rattle.handset.specs.contracts.requests.uluvoli_read as handset·uluvoli-read
use Rattle.handset.specs.contracts.requests.uluvoli_write as handset·uluvoli-write
use Rattle.handset.specs.contracts.board.uluvoli_board as handset·uluvoli-board
use Rattle.handset.specs.contracts.messages.uluvoli_code_list as handset·uluvoli-code-list
use Rattle.handset.specs.contracts.messages.uluvoli_block_information as handset·uluvoli-block-information
use Rattle.handset.specs.contracts.readers.uluvoli_read_code_list as handset·uluvoli-read-code-list
use Rattle.handset.specs.contracts.readers.uluvoli_read_block_information as handset·uluvoli-read-block-information
use Rattle.handset.specs.contracts.blocks.uluvoli_set_block as handset·uluvoli-set-block
use Rattle.handset.specs.contracts.blocks.uluvoli_stored_block as handset·uluvoli-stored-block

module _ {M : Type 1} {𝓤 : Ura M} (𝓛 : Logic 𝓤) (mem : Memory → SProp 𝓤) (run : Routine → Fun 𝓤) where
  pub handset_bytes·decode-once : OneAnswer 𝓤 handset_bytes·decode.ended (handset_bytes·decode.clauses 𝓛 mem run)
  handset_bytes·decode-once κs a g r r' ws ws' = result 𝓤 refl

  pub handset_bytes·encode-once : OneAnswer 𝓤 handset_bytes·encode.ended (handset_bytes·encode.clauses 𝓛 mem run)
  handset_bytes·encode-once κs a g r r' ws ws' = of_one 𝓤 (λ p q. (refl, λ i. (tt, (once p q i, tt))))

  pub handset·refused-once : OneAnswer 𝓤 handset·refused.ended (handset·refused.clauses 𝓛 mem run)
  handset·refused-once κs a g r r' ws ws' = result 𝓤 refl

  pub handset·uluvoli-new-once : OneAnswer 𝓤 handset·uluvoli-new.ended (handset·uluvoli-new.clauses 𝓛 mem run)
  handset·uluvoli-new-once κs a g r r' ws ws' = of_two 𝓤 (λ p p' q q'. (once p q, λ i. (once p' q' i, (tt, (tt, (tt, tt))))))

  pub handset·uluvoli-add-area-once : OneAnswer 𝓤 handset·uluvoli-add-area.ended (handset·uluvoli-add-area.clauses 𝓛 mem run)
  handset·uluvoli-add-area-once κs a g r r' ws ws' = of_two 𝓤 (λ p p' q q'. (once p q, λ i. (once p' q' i, (tt, (tt, (tt, (tt, tt)))))))

  pub handset·uluvoli-add-service-once : OneAnswer 𝓤 handset·uluvoli-add-service.ended (handset·uluvoli-add-service.clauses 𝓛 mem run)
  handset·uluvoli-add-service-once κs a g r r' ws ws' = of_three 𝓤 (λ p p' p'' q q' q''. (once p q, λ i. (once p' q' i, (once p'' q'' i, (tt, (tt, (tt, (tt, tt))))))))

  pub handset·uluvoli-set-limit-once : OneAnswer 𝓤 handset·uluvoli-set-limit.ended (handset·uluvoli-set-limit.clauses 𝓛 mem run)
  handset·uluvoli-set-limit-once κs a g r r' ws ws' = of_two 𝓤 (λ p p' q q'. (once p q, λ i. (once p' q' i, (tt, (tt, (tt, tt))))))

  pub handset·uluvoli-directory-once : OneAnswer 𝓤 handset·uluvoli-directory.ended (handset·uluvoli-directory.clauses 𝓛 mem run)
  handset·uluvoli-directory-once κs a g r r' ws ws' = of_three 𝓤 (λ p p' p'' q q' q''. (once p q, λ i. (tt, (once p' q' i, (once p'' q'' i, tt)))))

  pub handset·uluvoli-total-once : OneAnswer 𝓤 handset·uluvoli-total.ended (handset·uluvoli-total.clauses 𝓛 mem run)
  handset·uluvoli-total-once κs a g r r' ws ws' = of_two 𝓤 (λ p p' q q'. (once p q, λ i. (tt, (tt, (once p' q' i, tt)))))

  pub handset·uluvoli-key-version-once : OneAnswer 𝓤 handset·uluvoli-key-version.ended (handset·uluvoli-key-version.clauses 𝓛 mem run)
  handset·uluvoli-key-version-once κs a g r r' ws ws' = of_two 𝓤 (λ p p' q q'. (once p q, λ i. (tt, (tt, (once p' q' i, tt)))))

  pub handset·uluvoli-area-list-once : OneAnswer 𝓤 handset·uluvoli-area-list.ended (handset·uluvoli-area-list.clauses 𝓛 mem run)
  handset·uluvoli-area-list-once κs a g r r' ws ws' = of_two 𝓤 (λ p p' q q'. (once p q, λ i. (tt, (tt, (once p' q' i, tt)))))

  pub handset·uluvoli-service-list-once : OneAnswer 𝓤 handset·uluvoli-service-list.ended (handset·uluvoli-service-list.clauses 𝓛 mem run)
  handset·uluvoli-service-list-once κs a g r r' ws ws' = of_two 𝓤 (λ p p' q q'. (once p q, λ i. (tt, (tt, (once p' q' i, tt)))))

  pub handset·uluvoli-read-once : OneAnswer 𝓤 handset·uluvoli-read.ended (handset·uluvoli-read.clauses 𝓛 mem run)
  handset·uluvoli-read-once κs a g r r' ws ws' = of_two 𝓤 (λ p p' q q'. (once p q, λ i. (tt, (tt, (once p' q' i, (tt, (tt, (tt, (tt, tt)))))))))

  pub handset·uluvoli-write-once : OneAnswer 𝓤 handset·uluvoli-write.ended (handset·uluvoli-write.clauses 𝓛 mem run)
  handset·uluvoli-write-once κs a g r r' ws ws' = of_three 𝓤 (λ p p' p'' q q' q''. (once p q, λ i. (tt, (once p' q' i, (once p'' q'' i, (tt, (tt, (tt, (tt, (tt, tt))))))))))

  pub handset·uluvoli-board-once : OneAnswer 𝓤 handset·uluvoli-board.ended (handset·uluvoli-board.clauses 𝓛 mem run)
  handset·uluvoli-board-once κs a g r r' ws ws' = of_two 𝓤 (λ p p' q q'. (once p q, λ i. (tt, (tt, (tt, (once p' q' i, tt))))))

  pub handset·uluvoli-code-list-once : OneAnswer 𝓤 handset·uluvoli-code-list.ended (handset·uluvoli-code-list.clauses 𝓛 mem run)
  handset·uluvoli-code-list-once κs a g r r' ws ws' = of_three 𝓤 (λ p p' p'' q q' q''. (once p q, λ i. (tt, (tt, (tt, (once p' q' i, (once p'' q'' i, tt)))))))

  pub handset·uluvoli-block-information-once : OneAnswer 𝓤 handset·uluvoli-block-information.ended (handset·uluvoli-block-information.clauses 𝓛 mem run)
  handset·uluvoli-block-information-once κs a g r r' ws ws' = of_three 𝓤 (λ p p' p'' q q' q''. (once p q, λ i. (tt, (tt, (tt, (once p' q' i, (once p'' q'' i, tt)))))))

  pub handset·uluvoli-read-code-list-once : OneAnswer 𝓤 handset·uluvoli-read-code-list.ended (handset·uluvoli-read-code-list.clauses 𝓛 mem run)
  handset·uluvoli-read-code-list-once κs a g r r' ws ws' = of_six 𝓤 (λ e f g' h k l. (e, λ i. (tt, (f i, (g' i, (h i, (k i, (l i, tt))))))))

  pub handset·uluvoli-read-block-information-once : OneAnswer 𝓤 handset·uluvoli-read-block-information.ended (handset·uluvoli-read-block-information.clauses 𝓛 mem run)
  handset·uluvoli-read-block-information-once κs a g r r' ws ws' = of_four 𝓤 (λ e f g' h. (e, λ i. (tt, (f i, (g' i, (h i, tt))))))

  pub handset·uluvoli-set-block-once : OneAnswer 𝓤 handset·uluvoli-set-block.ended (handset·uluvoli-set-block.clauses 𝓛 mem run)
  handset·uluvoli-set-block-once κs a g r r' ws ws' = of_two 𝓤 (λ p p' q q'. (once p q, λ i. (tt, (once p' q' i, (tt, (tt, (tt, tt)))))))

  pub handset·uluvoli-stored-block-once : OneAnswer 𝓤 handset·uluvoli-stored-block.ended (handset·uluvoli-stored-block.clauses 𝓛 mem run)
  handset·uluvoli-stored-block-once κs a g r r' ws ws' = of_two 𝓤 (λ p p' q q'. (once p q, λ i. (tt, (tt, (tt, (tt, (once p' q' i, tt)))))))
