-- One answer only: bytes, words, codes, places, lists and block rules.
use mathlib.Core.Path.{refl}
use seplogic.Ra.Ura.{Ura}
use base.Logic.{SProp}
use prog.Memory.{Memory}
use prog.Routine.{Routine}
use types.Logic.{Logic}
use contract.Monad.{Fun}
use Rattle.law_once.specs.One.{OneAnswer}
use Rattle.law_once.proofs.Law.{once, of_one, of_two, result}
use Rattle.byte_scan.specs.contracts.find as byte_scan·find
use Rattle.byte_parts.specs.contracts.spans.least as byte_parts·least
use Rattle.byte_block.specs.contracts.copy_block as byte_block·copy-block
use Rattle.byte_parts.specs.contracts.spans.copy as byte_parts·copy
use Rattle.byte_parts.specs.contracts.spans.zero as byte_parts·zero
use Rattle.byte_parts.specs.contracts.spans.same as byte_parts·same
use Rattle.byte_parts.specs.contracts.half.half as byte_parts·half
use Rattle.byte_parts.specs.contracts.half.put_half as byte_parts·put-half
use Rattle.byte_parts.specs.contracts.word.word as byte_parts·word
use Rattle.byte_parts.specs.contracts.word.put_word as byte_parts·put-word
use Rattle.byte_parts.specs.contracts.word.signed as byte_parts·signed
use Rattle.byte_parts.specs.contracts.word.signed32 as byte_parts·signed32
use Rattle.byte_parts.specs.contracts.word.unsigned as byte_parts·unsigned
use Rattle.service_code.specs.contracts.code.ServiceAttribute.from_attribute_bits as service_code·ServiceAttribute·from-attribute-bits
use Rattle.service_code.specs.contracts.code.ServiceAttribute.kind as service_code·ServiceAttribute·kind
use Rattle.service_code.specs.contracts.code.ServiceAttribute.allows_write as service_code·ServiceAttribute·allows-write
use Rattle.service_code.specs.contracts.code.ServiceAttribute.allows_cashback as service_code·ServiceAttribute·allows-cashback
use Rattle.service_code.specs.contracts.code.ServiceCode.number as service_code·ServiceCode·number
use Rattle.service_code.specs.contracts.code.ServiceCode.attributes as service_code·ServiceCode·attributes
use Rattle.service_code.specs.contracts.code.ServiceCode.attribute as service_code·ServiceCode·attribute
use Rattle.service_code.specs.contracts.code.ServiceCode.kind as service_code·ServiceCode·kind
use Rattle.service_code.specs.contracts.code.ServiceCode.requires_key as service_code·ServiceCode·requires-key
use Rattle.answers.specs.contracts.refusal.Refusal.number as answers·Refusal·number
use Rattle.answers.specs.contracts.status.Fault.status_flag2 as answers·Fault·status-flag2
use Rattle.answers.specs.contracts.status.Fault.cause as answers·Fault·cause
use Rattle.answers.specs.contracts.status.list_error_index as answers·list-error-index
use Rattle.error_places.specs.contracts.bitmap_positions as error_places·bitmap-positions
use Rattle.block_list.specs.contracts.element.BlockListElement.pack as block_list·BlockListElement·pack
use Rattle.block_list.specs.contracts.element.unpack as block_list·unpack
use Rattle.block_list.specs.contracts.reader.Reader.new as block_list·Reader·new
use Rattle.block_list.specs.contracts.reader.Reader.next as block_list·Reader·next
use Rattle.block_list.specs.contracts.reader.Reader.is_finished as block_list·Reader·is-finished
use Rattle.block_list.specs.contracts.reader.list_ends as block_list·list-ends
use Rattle.node_messages.specs.contracts.code_list.CodeList.empty as node_messages·CodeList·empty
use Rattle.node_messages.specs.contracts.code_list.Listed.refused as node_messages·Listed·refused
use Rattle.node_messages.specs.contracts.code_list.put_code_list as node_messages·put-code-list
use Rattle.node_messages.specs.contracts.code_list.read_code_list as node_messages·read-code-list
use Rattle.node_messages.specs.contracts.information.Informed.refused as node_messages·Informed·refused
use Rattle.node_messages.specs.contracts.information.put_information as node_messages·put-information
use Rattle.node_messages.specs.contracts.information.read_information as node_messages·read-information
use Rattle.rule_purse.specs.contracts.fields.purse_write as rule_purse·purse-write
use Rattle.rule_purse.specs.contracts.bytes.apply_purse_write as rule_purse·apply-purse-write
use Rattle.rule_cyclic.specs.contracts.apply_cyclic_write as rule_cyclic·apply-cyclic-write

module _ {M : Type 1} {𝓤 : Ura M} (𝓛 : Logic 𝓤) (mem : Memory → SProp 𝓤) (run : Routine → Fun 𝓤) where
  pub byte_parts·least-once : OneAnswer 𝓤 byte_parts·least.ended (byte_parts·least.clauses 𝓛 mem run)
  byte_parts·least-once κs a g r r' ws ws' = result 𝓤 refl

  pub byte_scan·find-once : OneAnswer 𝓤 byte_scan·find.ended (byte_scan·find.clauses 𝓛 mem run)
  byte_scan·find-once κs a g r r' ws ws' = of_two 𝓤 (λ p p' q q'. (once p q, refl))

  pub byte_block·copy-block-once : OneAnswer 𝓤 byte_block·copy-block.ended (byte_block·copy-block.clauses 𝓛 mem run)
  byte_block·copy-block-once κs a g r r' ws ws' = of_one 𝓤 (λ p q. (refl, λ i. (once p q i, (tt, (tt, (tt, tt))))))

  pub byte_parts·copy-once : OneAnswer 𝓤 byte_parts·copy.ended (byte_parts·copy.clauses 𝓛 mem run)
  byte_parts·copy-once κs a g r r' ws ws' = of_one 𝓤 (λ p q. (refl, λ i. (once p q i, (tt, (tt, (tt, (tt, tt)))))))

  pub byte_parts·zero-once : OneAnswer 𝓤 byte_parts·zero.ended (byte_parts·zero.clauses 𝓛 mem run)
  byte_parts·zero-once κs a g r r' ws ws' = of_one 𝓤 (λ p q. (refl, λ i. (once p q i, (tt, (tt, tt)))))

  pub byte_parts·same-once : OneAnswer 𝓤 byte_parts·same.ended (byte_parts·same.clauses 𝓛 mem run)
  byte_parts·same-once κs a g r r' ws ws' = result 𝓤 refl

  pub byte_parts·half-once : OneAnswer 𝓤 byte_parts·half.ended (byte_parts·half.clauses 𝓛 mem run)
  byte_parts·half-once κs a g r r' ws ws' = result 𝓤 refl

  pub byte_parts·put-half-once : OneAnswer 𝓤 byte_parts·put-half.ended (byte_parts·put-half.clauses 𝓛 mem run)
  byte_parts·put-half-once κs a g r r' ws ws' = of_one 𝓤 (λ p q. (refl, λ i. (once p q i, (tt, (tt, tt)))))

  pub byte_parts·word-once : OneAnswer 𝓤 byte_parts·word.ended (byte_parts·word.clauses 𝓛 mem run)
  byte_parts·word-once κs a g r r' ws ws' = result 𝓤 refl

  pub byte_parts·put-word-once : OneAnswer 𝓤 byte_parts·put-word.ended (byte_parts·put-word.clauses 𝓛 mem run)
  byte_parts·put-word-once κs a g r r' ws ws' = of_one 𝓤 (λ p q. (refl, λ i. (once p q i, (tt, (tt, tt)))))

  pub byte_parts·signed-once : OneAnswer 𝓤 byte_parts·signed.ended (byte_parts·signed.clauses 𝓛 mem run)
  byte_parts·signed-once κs a g r r' ws ws' = result 𝓤 refl

  pub byte_parts·signed32-once : OneAnswer 𝓤 byte_parts·signed32.ended (byte_parts·signed32.clauses 𝓛 mem run)
  byte_parts·signed32-once κs a g r r' ws ws' = result 𝓤 refl

  pub byte_parts·unsigned-once : OneAnswer 𝓤 byte_parts·unsigned.ended (byte_parts·unsigned.clauses 𝓛 mem run)
  byte_parts·unsigned-once κs a g r r' ws ws' = result 𝓤 refl

  pub service_code·ServiceAttribute·from-attribute-bits-once : OneAnswer 𝓤 service_code·ServiceAttribute·from-attribute-bits.ended (service_code·ServiceAttribute·from-attribute-bits.clauses 𝓛 mem run)
  service_code·ServiceAttribute·from-attribute-bits-once κs a g r r' ws ws' = result 𝓤 refl

  pub service_code·ServiceAttribute·kind-once : OneAnswer 𝓤 service_code·ServiceAttribute·kind.ended (service_code·ServiceAttribute·kind.clauses 𝓛 mem run)
  service_code·ServiceAttribute·kind-once κs a g r r' ws ws' = result 𝓤 refl

  pub service_code·ServiceAttribute·allows-write-once : OneAnswer 𝓤 service_code·ServiceAttribute·allows-write.ended (service_code·ServiceAttribute·allows-write.clauses 𝓛 mem run)
  service_code·ServiceAttribute·allows-write-once κs a g r r' ws ws' = result 𝓤 refl

  pub service_code·ServiceAttribute·allows-cashback-once : OneAnswer 𝓤 service_code·ServiceAttribute·allows-cashback.ended (service_code·ServiceAttribute·allows-cashback.clauses 𝓛 mem run)
  service_code·ServiceAttribute·allows-cashback-once κs a g r r' ws ws' = result 𝓤 refl

  pub service_code·ServiceCode·number-once : OneAnswer 𝓤 service_code·ServiceCode·number.ended (service_code·ServiceCode·number.clauses 𝓛 mem run)
  service_code·ServiceCode·number-once κs a g r r' ws ws' = result 𝓤 refl

  pub service_code·ServiceCode·attributes-once : OneAnswer 𝓤 service_code·ServiceCode·attributes.ended (service_code·ServiceCode·attributes.clauses 𝓛 mem run)
  service_code·ServiceCode·attributes-once κs a g r r' ws ws' = result 𝓤 refl

  pub service_code·ServiceCode·attribute-once : OneAnswer 𝓤 service_code·ServiceCode·attribute.ended (service_code·ServiceCode·attribute.clauses 𝓛 mem run)
  service_code·ServiceCode·attribute-once κs a g r r' ws ws' = result 𝓤 refl

  pub service_code·ServiceCode·kind-once : OneAnswer 𝓤 service_code·ServiceCode·kind.ended (service_code·ServiceCode·kind.clauses 𝓛 mem run)
  service_code·ServiceCode·kind-once κs a g r r' ws ws' = result 𝓤 refl

  pub service_code·ServiceCode·requires-key-once : OneAnswer 𝓤 service_code·ServiceCode·requires-key.ended (service_code·ServiceCode·requires-key.clauses 𝓛 mem run)
  service_code·ServiceCode·requires-key-once κs a g r r' ws ws' = result 𝓤 refl

  pub answers·Refusal·number-once : OneAnswer 𝓤 answers·Refusal·number.ended (answers·Refusal·number.clauses 𝓛 mem run)
  answers·Refusal·number-once κs a g r r' ws ws' = result 𝓤 refl

  pub answers·Fault·status-flag2-once : OneAnswer 𝓤 answers·Fault·status-flag2.ended (answers·Fault·status-flag2.clauses 𝓛 mem run)
  answers·Fault·status-flag2-once κs a g r r' ws ws' = result 𝓤 refl

  pub answers·Fault·cause-once : OneAnswer 𝓤 answers·Fault·cause.ended (answers·Fault·cause.clauses 𝓛 mem run)
  answers·Fault·cause-once κs a g r r' ws ws' = result 𝓤 refl

  pub answers·list-error-index-once : OneAnswer 𝓤 answers·list-error-index.ended (answers·list-error-index.clauses 𝓛 mem run)
  answers·list-error-index-once κs a g r r' ws ws' = result 𝓤 refl

  pub error_places·bitmap-positions-once : OneAnswer 𝓤 error_places·bitmap-positions.ended (error_places·bitmap-positions.clauses 𝓛 mem run)
  error_places·bitmap-positions-once κs a g r r' ws ws' = result 𝓤 refl

  pub block_list·BlockListElement·pack-once : OneAnswer 𝓤 block_list·BlockListElement·pack.ended (block_list·BlockListElement·pack.clauses 𝓛 mem run)
  block_list·BlockListElement·pack-once κs a g r r' ws ws' = result 𝓤 refl

  pub block_list·unpack-once : OneAnswer 𝓤 block_list·unpack.ended (block_list·unpack.clauses 𝓛 mem run)
  block_list·unpack-once κs a g r r' ws ws' = result 𝓤 refl

  pub block_list·Reader·new-once : OneAnswer 𝓤 block_list·Reader·new.ended (block_list·Reader·new.clauses 𝓛 mem run)
  block_list·Reader·new-once κs a g r r' ws ws' = result 𝓤 refl

  pub block_list·Reader·next-once : OneAnswer 𝓤 block_list·Reader·next.ended (block_list·Reader·next.clauses 𝓛 mem run)
  block_list·Reader·next-once κs a g r r' ws ws' = of_one 𝓤 (λ p q. (once p.0 q.0, λ i. (once p.1 q.1 i, tt)))

  pub block_list·Reader·is-finished-once : OneAnswer 𝓤 block_list·Reader·is-finished.ended (block_list·Reader·is-finished.clauses 𝓛 mem run)
  block_list·Reader·is-finished-once κs a g r r' ws ws' = result 𝓤 refl

  pub block_list·list-ends-once : OneAnswer 𝓤 block_list·list-ends.ended (block_list·list-ends.clauses 𝓛 mem run)
  block_list·list-ends-once κs a g r r' ws ws' = result 𝓤 refl

  pub node_messages·CodeList·empty-once : OneAnswer 𝓤 node_messages·CodeList·empty.ended (node_messages·CodeList·empty.clauses 𝓛 mem run)
  node_messages·CodeList·empty-once κs a g r r' ws ws' = result 𝓤 refl

  pub node_messages·Listed·refused-once : OneAnswer 𝓤 node_messages·Listed·refused.ended (node_messages·Listed·refused.clauses 𝓛 mem run)
  node_messages·Listed·refused-once κs a g r r' ws ws' = result 𝓤 refl

  pub node_messages·put-code-list-once : OneAnswer 𝓤 node_messages·put-code-list.ended (node_messages·put-code-list.clauses 𝓛 mem run)
  node_messages·put-code-list-once κs a g r r' ws ws' = of_two 𝓤 (λ p p' q q'. (once p q, λ i. (tt, (once p' q' i, tt))))

  pub node_messages·read-code-list-once : OneAnswer 𝓤 node_messages·read-code-list.ended (node_messages·read-code-list.clauses 𝓛 mem run)
  node_messages·read-code-list-once κs a g r r' ws ws' = result 𝓤 refl

  pub node_messages·Informed·refused-once : OneAnswer 𝓤 node_messages·Informed·refused.ended (node_messages·Informed·refused.clauses 𝓛 mem run)
  node_messages·Informed·refused-once κs a g r r' ws ws' = result 𝓤 refl

  pub node_messages·put-information-once : OneAnswer 𝓤 node_messages·put-information.ended (node_messages·put-information.clauses 𝓛 mem run)
  node_messages·put-information-once κs a g r r' ws ws' = of_two 𝓤 (λ p p' q q'. (once p q, λ i. (tt, (once p' q' i, tt))))

  pub node_messages·read-information-once : OneAnswer 𝓤 node_messages·read-information.ended (node_messages·read-information.clauses 𝓛 mem run)
  node_messages·read-information-once κs a g r r' ws ws' = result 𝓤 refl

  pub rule_cyclic·apply-cyclic-write-once : OneAnswer 𝓤 rule_cyclic·apply-cyclic-write.ended (rule_cyclic·apply-cyclic-write.clauses 𝓛 mem run)
  rule_cyclic·apply-cyclic-write-once κs a g r r' ws ws' = of_two 𝓤 (λ p p' q q'. (once p q, λ i. (once p' q' i, (tt, tt))))

  pub rule_purse·purse-write-once : OneAnswer 𝓤 rule_purse·purse-write.ended (rule_purse·purse-write.clauses 𝓛 mem run)
  rule_purse·purse-write-once κs a g r r' ws ws' = result 𝓤 refl

  pub rule_purse·apply-purse-write-once : OneAnswer 𝓤 rule_purse·apply-purse-write.ended (rule_purse·apply-purse-write.clauses 𝓛 mem run)
  rule_purse·apply-purse-write-once κs a g r r' ws ws' = of_two 𝓤 (λ p p' q q'. (once p q, λ i. (once p' q' i, (tt, (tt, (tt, tt))))))
