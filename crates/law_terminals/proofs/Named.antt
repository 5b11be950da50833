-- An element of an accepted request that names a block names a block of a service.
use Prim.Native.Nat.{ℕ}
use mathlib.Core.List.{List}
use Rattle.card_build.specs.declared.card.Card.{Card}
use Rattle.card_build.specs.Card.{nodes_of}
use Rattle.request_check.specs.Row.{row_in}
use Rattle.request_check.proofs.Laws.{Good}
use Rattle.request_plan.specs.Request.{Request}
use Rattle.request_plan.specs.Plan.{rows_in, elements_in}
use Rattle.request_plan.proofs.Accepted.{Accepted, good_at, each_passed}
use Rattle.law_terminals.specs.Last.{element_at, code_named, NamesBlock}
use Rattle.law_terminals.proofs.Owned.{ServiceRow, good-service}

module _ {c : Card} {a : List ℕ} {r : Request} (k : Accepted c a r) where
  -- it passed its check
  pub named-good : {n b i : ℕ} → NamesBlock n b r i → Good (rows_in c r) r.write (element_at r i)
  named-good m = good_at (rows_in c r) r.write r.«open» (elements_in r) _ (each_passed k) m.listed

  -- so its row is that of the service
  pub named-service : {n b i : ℕ} → NamesBlock n b r i → ServiceRow (nodes_of c) (code_named r i) (row_in (rows_in c r) (element_at r i))
  named-service m = good-service (nodes_of c) r.codes (named-good m)
