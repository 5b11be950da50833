use mathlib.Core.Path.{◌≡◌, sym, ◌∙◌}
use mathlib.Core.Logic.{⊎_elim}
use Prim.Native.Nat.{◌-◌}
use native.Mathlib.Omega.{arith}
use lib.ListN.{length}
use borrow.Author.Rules.{rules}
use Rattle.card_nodes.proofs.Scan.{done}
use Rattle.card_questions.specs.Tags.{OfTags}
use Rattle.card_questions.specs.Keys.{service_list_of}
use Rattle.card_questions.proofs.Lists.{InList, rest_of, none_read, last-read, unknown, disorder, keyed_read, free-read}
use Rattle.card_questions.proofs.keys.services_tagged.Given as goal

abbrev pub invariant-loop-code : goal.invariant-loop-code
invariant-loop-code l =
    OfTags l.tags (λ ns. InList l.services (service_list_of ns l.services) (rest_of ns l.has_keyed l.seen_free) l.code-index)
