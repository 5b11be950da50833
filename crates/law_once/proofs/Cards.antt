-- One answer only: the card: its records, its test, questions and calls.
use mathlib.Core.Path.{refl}
use seplogic.Ra.Ura.{Ura}
use base.Logic.{SProp}
use prog.Memory.{Memory}
use prog.Routine.{Routine}
use types.Logic.{Logic}
use contract.Monad.{Fun}
use Rattle.law_once.specs.One.{OneAnswer, OneSeen}
use Rattle.law_once.proofs.Law.{once, of_one, of_two, result}
use Rattle.card_nodes.specs.contracts.count.taken as card_nodes·taken
use Rattle.card_nodes.specs.contracts.count.records as card_nodes·records
use Rattle.card_nodes.specs.contracts.find.is_service_of as card_nodes·is-service-of
use Rattle.card_nodes.specs.contracts.find.find_service as card_nodes·find-service
use Rattle.card_nodes.specs.contracts.find.find_area as card_nodes·find-area
use Rattle.card_nodes.specs.contracts.find.find_shared as card_nodes·find-shared
use Rattle.card_nodes.specs.contracts.node.Node.root as card_nodes·Node·root
use Rattle.card_nodes.specs.contracts.node.is_area as card_nodes·is-area
use Rattle.card_nodes.specs.contracts.node.is_service as card_nodes·is-service
use Rattle.card_nodes.specs.contracts.node.end_of as card_nodes·end-of
use Rattle.card_nodes.specs.contracts.node.start_of as card_nodes·start-of
use Rattle.card_nodes.specs.contracts.node.blocks_of as card_nodes·blocks-of
use Rattle.card_admit.specs.contracts.is_depth as card_admit·is-depth
use Rattle.card_admit.specs.contracts.area_under as card_admit·area-under
use Rattle.card_admit.specs.contracts.usable_blocks as card_admit·usable-blocks
use Rattle.card_admit.specs.contracts.placed_under as card_admit·placed-under
use Rattle.card_admit.specs.contracts.agree as card_admit·agree
use Rattle.card_build.specs.contracts.fits.judge_area as card_build·judge-area
use Rattle.card_build.specs.contracts.fits.place_service as card_build·place-service
use Rattle.card_sound.specs.contracts.sound as card_sound·sound
use Rattle.card_build.specs.contracts.card.Card.add_area as card_build·Card·add-area
use Rattle.card_build.specs.contracts.card.Card.add_service as card_build·Card·add-service
use Rattle.card_build.specs.contracts.card.Card.set_limit as card_build·Card·set-limit
use Rattle.card_build.specs.contracts.card.Card.new as card_build·Card·new
use Rattle.card_build.specs.contracts.card.Card.is_sound as card_build·Card·is-sound
use Rattle.card_build.specs.contracts.card.too_short as card_build·too-short
use Rattle.card_build.specs.contracts.card.is_short as card_build·is-short
use Rattle.card_questions.specs.contracts.listing.directory as card_questions·directory
use Rattle.card_questions.specs.contracts.tags.tags_of as card_questions·tags-of
use Rattle.card_questions.specs.contracts.tags.area_at as card_questions·area-at
use Rattle.card_questions.specs.contracts.totals.put_totals as card_questions·put-totals
use Rattle.card_questions.specs.contracts.totals.block_count_for_node as card_questions·block-count-for-node
use Rattle.card_questions.specs.contracts.keys.node_key_version as card_questions·node-key-version
use Rattle.card_questions.specs.contracts.keys.area_list_well_formed as card_questions·area-list-well-formed
use Rattle.card_questions.specs.contracts.keys.service_list_well_formed as card_questions·service-list-well-formed
use Rattle.card_lists.specs.contracts.packet.code_list as card_lists·code-list
use Rattle.card_lists.specs.contracts.packet.put_code_list as card_lists·put-code-list
use Rattle.card_lists.specs.contracts.information.block_information as card_lists·block-information
use Rattle.card_lists.specs.contracts.information.put_block_information as card_lists·put-block-information

module _ {M : Type 1} {𝓤 : Ura M} (𝓛 : Logic 𝓤) (mem : Memory → SProp 𝓤) (run : Routine → Fun 𝓤) where
  pub card_nodes·taken-once : OneAnswer 𝓤 card_nodes·taken.ended (card_nodes·taken.clauses 𝓛 mem run)
  card_nodes·taken-once κs a g r r' ws ws' = result 𝓤 refl

  -- a part of the lent records: it is one list, and nothing is said of where they lie
  pub card_nodes·records-once : OneSeen 𝓤 card_nodes·records.ended (card_nodes·records.clauses 𝓛 mem run) (λ κs x. x.now)
  card_nodes·records-once κs a g r r' ws ws' = result 𝓤 refl

  pub card_nodes·is-service-of-once : OneAnswer 𝓤 card_nodes·is-service-of.ended (card_nodes·is-service-of.clauses 𝓛 mem run)
  card_nodes·is-service-of-once κs a g r r' ws ws' = result 𝓤 refl

  pub card_nodes·find-service-once : OneAnswer 𝓤 card_nodes·find-service.ended (card_nodes·find-service.clauses 𝓛 mem run)
  card_nodes·find-service-once κs a g r r' ws ws' = result 𝓤 refl

  pub card_nodes·find-area-once : OneAnswer 𝓤 card_nodes·find-area.ended (card_nodes·find-area.clauses 𝓛 mem run)
  card_nodes·find-area-once κs a g r r' ws ws' = result 𝓤 refl

  pub card_nodes·find-shared-once : OneAnswer 𝓤 card_nodes·find-shared.ended (card_nodes·find-shared.clauses 𝓛 mem run)
  card_nodes·find-shared-once κs a g r r' ws ws' = result 𝓤 refl

  pub card_nodes·Node·root-once : OneAnswer 𝓤 card_nodes·Node·root.ended (card_nodes·Node·root.clauses 𝓛 mem run)
  card_nodes·Node·root-once κs a g r r' ws ws' = result 𝓤 refl

  pub card_nodes·is-area-once : OneAnswer 𝓤 card_nodes·is-area.ended (card_nodes·is-area.clauses 𝓛 mem run)
  card_nodes·is-area-once κs a g r r' ws ws' = result 𝓤 refl

  pub card_nodes·is-service-once : OneAnswer 𝓤 card_nodes·is-service.ended (card_nodes·is-service.clauses 𝓛 mem run)
  card_nodes·is-service-once κs a g r r' ws ws' = result 𝓤 refl

  pub card_nodes·end-of-once : OneAnswer 𝓤 card_nodes·end-of.ended (card_nodes·end-of.clauses 𝓛 mem run)
  card_nodes·end-of-once κs a g r r' ws ws' = result 𝓤 refl

  pub card_nodes·start-of-once : OneAnswer 𝓤 card_nodes·start-of.ended (card_nodes·start-of.clauses 𝓛 mem run)
  card_nodes·start-of-once κs a g r r' ws ws' = result 𝓤 refl

  pub card_nodes·blocks-of-once : OneAnswer 𝓤 card_nodes·blocks-of.ended (card_nodes·blocks-of.clauses 𝓛 mem run)
  card_nodes·blocks-of-once κs a g r r' ws ws' = result 𝓤 refl

  pub card_admit·is-depth-once : OneAnswer 𝓤 card_admit·is-depth.ended (card_admit·is-depth.clauses 𝓛 mem run)
  card_admit·is-depth-once κs a g r r' ws ws' = result 𝓤 refl

  pub card_admit·area-under-once : OneAnswer 𝓤 card_admit·area-under.ended (card_admit·area-under.clauses 𝓛 mem run)
  card_admit·area-under-once κs a g r r' ws ws' = result 𝓤 refl

  pub card_admit·usable-blocks-once : OneAnswer 𝓤 card_admit·usable-blocks.ended (card_admit·usable-blocks.clauses 𝓛 mem run)
  card_admit·usable-blocks-once κs a g r r' ws ws' = result 𝓤 refl

  pub card_admit·placed-under-once : OneAnswer 𝓤 card_admit·placed-under.ended (card_admit·placed-under.clauses 𝓛 mem run)
  card_admit·placed-under-once κs a g r r' ws ws' = result 𝓤 refl

  pub card_admit·agree-once : OneAnswer 𝓤 card_admit·agree.ended (card_admit·agree.clauses 𝓛 mem run)
  card_admit·agree-once κs a g r r' ws ws' = result 𝓤 refl

  pub card_build·judge-area-once : OneAnswer 𝓤 card_build·judge-area.ended (card_build·judge-area.clauses 𝓛 mem run)
  card_build·judge-area-once κs a g r r' ws ws' = result 𝓤 refl

  pub card_build·place-service-once : OneAnswer 𝓤 card_build·place-service.ended (card_build·place-service.clauses 𝓛 mem run)
  card_build·place-service-once κs a g r r' ws ws' = result 𝓤 refl

  pub card_sound·sound-once : OneAnswer 𝓤 card_sound·sound.ended (card_sound·sound.clauses 𝓛 mem run)
  card_sound·sound-once κs a g r r' ws ws' = result 𝓤 refl

  pub card_build·Card·add-area-once : OneAnswer 𝓤 card_build·Card·add-area.ended (card_build·Card·add-area.clauses 𝓛 mem run)
  card_build·Card·add-area-once κs a g r r' ws ws' = result 𝓤 refl

  pub card_build·Card·add-service-once : OneAnswer 𝓤 card_build·Card·add-service.ended (card_build·Card·add-service.clauses 𝓛 mem run)
  card_build·Card·add-service-once κs a g r r' ws ws' = of_two 𝓤 (λ p p' q q'. (once p q, λ i. (tt, (once p' q' i, (tt, (tt, (tt, (tt, tt))))))))

  pub card_build·Card·set-limit-once : OneAnswer 𝓤 card_build·Card·set-limit.ended (card_build·Card·set-limit.clauses 𝓛 mem run)
  card_build·Card·set-limit-once κs a g r r' ws ws' = result 𝓤 refl

  pub card_build·Card·new-once : OneAnswer 𝓤 card_build·Card·new.ended (card_build·Card·new.clauses 𝓛 mem run)
  card_build·Card·new-once κs a g r r' ws ws' = result 𝓤 refl

  pub card_build·Card·is-sound-once : OneAnswer 𝓤 card_build·Card·is-sound.ended (card_build·Card·is-sound.clauses 𝓛 mem run)
  card_build·Card·is-sound-once κs a g r r' ws ws' = result 𝓤 refl

  pub card_build·too-short-once : OneAnswer 𝓤 card_build·too-short.ended (card_build·too-short.clauses 𝓛 mem run)
  card_build·too-short-once κs a g r r' ws ws' = result 𝓤 refl

  pub card_build·is-short-once : OneAnswer 𝓤 card_build·is-short.ended (card_build·is-short.clauses 𝓛 mem run)
  card_build·is-short-once κs a g r r' ws ws' = result 𝓤 refl

  pub card_questions·directory-once : OneAnswer 𝓤 card_questions·directory.ended (card_questions·directory.clauses 𝓛 mem run)
  card_questions·directory-once κs a g r r' ws ws' = of_two 𝓤 (λ p p' q q'. (once p q, λ i. (tt, (once p' q' i, tt))))

  pub card_questions·tags-of-once : OneAnswer 𝓤 card_questions·tags-of.ended (card_questions·tags-of.clauses 𝓛 mem run)
  card_questions·tags-of-once κs a g r r' ws ws' = result 𝓤 refl

  pub card_questions·area-at-once : OneAnswer 𝓤 card_questions·area-at.ended (card_questions·area-at.clauses 𝓛 mem run)
  card_questions·area-at-once κs a g r r' ws ws' = result 𝓤 refl

  pub card_questions·put-totals-once : OneAnswer 𝓤 card_questions·put-totals.ended (card_questions·put-totals.clauses 𝓛 mem run)
  card_questions·put-totals-once κs a g r r' ws ws' = of_one 𝓤 (λ p q. (refl, λ i. (tt, (tt, (tt, (once p q i, tt))))))

  pub card_questions·block-count-for-node-once : OneAnswer 𝓤 card_questions·block-count-for-node.ended (card_questions·block-count-for-node.clauses 𝓛 mem run)
  card_questions·block-count-for-node-once κs a g r r' ws ws' = result 𝓤 refl

  pub card_questions·node-key-version-once : OneAnswer 𝓤 card_questions·node-key-version.ended (card_questions·node-key-version.clauses 𝓛 mem run)
  card_questions·node-key-version-once κs a g r r' ws ws' = result 𝓤 refl

  pub card_questions·area-list-well-formed-once : OneAnswer 𝓤 card_questions·area-list-well-formed.ended (card_questions·area-list-well-formed.clauses 𝓛 mem run)
  card_questions·area-list-well-formed-once κs a g r r' ws ws' = result 𝓤 refl

  pub card_questions·service-list-well-formed-once : OneAnswer 𝓤 card_questions·service-list-well-formed.ended (card_questions·service-list-well-formed.clauses 𝓛 mem run)
  card_questions·service-list-well-formed-once κs a g r r' ws ws' = result 𝓤 refl

  pub card_lists·code-list-once : OneAnswer 𝓤 card_lists·code-list.ended (card_lists·code-list.clauses 𝓛 mem run)
  card_lists·code-list-once κs a g r r' ws ws' = result 𝓤 refl

  pub card_lists·put-code-list-once : OneAnswer 𝓤 card_lists·put-code-list.ended (card_lists·put-code-list.clauses 𝓛 mem run)
  card_lists·put-code-list-once κs a g r r' ws ws' = of_two 𝓤 (λ p p' q q'. (once p q, λ i. (tt, (tt, (tt, (once p' q' i, tt))))))

  pub card_lists·block-information-once : OneAnswer 𝓤 card_lists·block-information.ended (card_lists·block-information.clauses 𝓛 mem run)
  card_lists·block-information-once κs a g r r' ws ws' = result 𝓤 refl

  pub card_lists·put-block-information-once : OneAnswer 𝓤 card_lists·put-block-information.ended (card_lists·put-block-information.clauses 𝓛 mem run)
  card_lists·put-block-information-once κs a g r r' ws ws' = of_two 𝓤 (λ p p' q q'. (once p q, λ i. (tt, (tt, (tt, (once p' q' i, tt))))))
