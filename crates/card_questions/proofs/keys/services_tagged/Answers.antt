-- Whether the list is well formed is whether what is left of it is, after the entries that were read.
use mathlib.Core.Path.{◌≡◌, sym, ◌∙◌}
use mathlib.Core.Logic.{⊎_elim}
use Prim.Native.Nat.{◌-◌, ◌<◌}
use native.Mathlib.Omega.{arith}
use lib.ListN.{length}
use borrow.Author.Rules.{rules}
use Rattle.card_nodes.proofs.Scan.{done}
use Rattle.card_questions.specs.Tags.{OfTags}
use Rattle.card_questions.specs.Keys.{service_list_of}
use Rattle.card_questions.proofs.Lists.{InList, rest_of, none_read, last-read, unknown, disorder, keyed_read, free-read}
use Rattle.card_questions.proofs.keys.services_tagged.Goals as goal
use Rattle.card_questions.proofs.keys.services_tagged.Goals.{in-Keyed+else-seen_free, in-KeyFree}

pub loop-code-preserved : goal.loop-code-preserved
loop-code-preserved c ns t =
    let l = c.loop-code in
    let e = sym (c.list_node.ensures ns t) in
    let lt : l.code-index < length c.args.services.now = omega arith in
    elim c.match-list_node.branch [
      | in-Keyed+else-seen_free w ↦ keyed_read ns l.has_keyed l.seen_free (l.invariant ns t) lt _ _ (e ∙ w.in-Keyed.is) w.if-seen_free.false w.has_keyed-is w.seen_free-is
      | in-KeyFree w ↦ free-read ns l.has_keyed l.seen_free (l.invariant ns t) lt _ _ (e ∙ w.in-KeyFree.is) w.has_keyed-is w.seen_free-is
    ]

pub loop-code-init : goal.loop-code-init
loop-code-init c ns t = none_read ns _

pub returns-then-seen_free : goal.returns-then-seen_free
returns-then-seen_free c ns t =
    let l = c.loop-code in
    disorder ns l.has_keyed l.seen_free (l.invariant ns t) (omega arith) (sym (c.list_node.ensures ns t) ∙ c.in-Keyed.is) c.if-seen_free.true

pub returns-in-Unknown : goal.returns-in-Unknown
returns-in-Unknown c ns t =
    let l = c.loop-code in
    unknown ns l.has_keyed l.seen_free (l.invariant ns t) (omega arith) (sym (c.list_node.ensures ns t) ∙ c.in-Unknown.is)

pub returns : goal.returns
returns c ns t = last-read ns c.loop-code.has_keyed c.loop-code.seen_free ∙ done (c.loop-code.invariant ns t) (omega arith)
