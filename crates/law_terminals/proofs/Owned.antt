-- The stores that a request's rows hold are stores of the numbers that its codes name, and stores of different numbers are apart.
use Rattle.std.proofs.Common.{Option, Some, None, false}
use Prim.Native.Nat.{ℕ, zero, suc, ◌+◌, ◌*◌, ◌≤◌, ◌<◌}
use native.Mathlib.Omega.{arith}
use native.Mathlib.Decide.{ℕ_discrete}
use mathlib.Core.Path.{◌≡◌, refl, sym, ap, ◌∙◌}
use mathlib.Core.Bool.{Bool, true, false≢true}
use mathlib.Core.List.{List, [], ◌∷◌}
use mathlib.Core.Logic.{◌⊎◌, inl, inr, ⊎_elim}
use lib.ListN.{length, get_or}
use Rattle.service_code.specs.Code.{number_of, attribute_of, code_kind_of}
use Rattle.block_list.specs.declared.element.BlockListElement.{BlockListElement}
use Rattle.card_nodes.specs.declared.node.Entry.{Entry}
use Rattle.card_nodes.specs.declared.node.Entry.TheVariants.{Area, Service}
use Rattle.card_nodes.specs.declared.node.Node.{Node}
use Rattle.card_nodes.specs.Node.{root_node, is_service, start_of, blocks_of}
use Rattle.card_nodes.specs.Find.{service_of}
use Rattle.card_build.specs.declared.card.Card.{Card}
use Rattle.card_build.specs.Card.{nodes_of}
use Rattle.card_laws.proofs.Laid.{node_at, Laid, served, shared, apart}
use Rattle.request_check.specs.declared.table.Row.{Row}
use Rattle.request_check.specs.Row.{row_by, row_at, row_of, rows_of, row_at_index, row_in}
use Rattle.request_check.proofs.Laws.{Good}
use Rattle.request_plan.proofs.Frame.{LiesIn}
use Rattle.law_terminals.specs.Two.{Any, HasNumber}

-- the row of a code is of that code
row_code_lem : (ns : List Node) (code : ℕ) → (row_of ns code).code ≡ code
unfolding row_of
row_code_lem ns code = here (service_of ns code)
  where
    by_entry_lem : (x : Entry) → (row_by code x).code ≡ code
    by_entry_lem (Area end) = refl
    by_entry_lem (Service start blocks limit) = refl

    here : (f : Option ℕ) → (row_at ns code f).code ≡ code
    here (Some i) = by_entry_lem (get_or ns i root_node).entry
    here None = refl

pub index_code_lem : (ns : List Node) (codes : List ℕ) (j : ℕ) → j < length (rows_of ns codes) → (row_at_index (rows_of ns codes) j).code ≡ get_or codes j 0
index_code_lem ns [] j h = absurd (omega arith)
index_code_lem ns (code ∷ codes) zero h = row_code_lem ns code
index_code_lem ns (code ∷ codes) (suc j) h = index_code_lem ns codes j (omega arith)

-- a row is that of a service of the code
pub record ServiceRow (ns : List Node) (code : ℕ) (w : Row) : Type 0 where
  pub node : ℕ
  pub service : is_service (node_at ns node).entry ≡ true
  pub coded : (node_at ns node).code ≡ code
  pub start : w.start ≡ start_of (node_at ns node).entry
  pub blocks : w.blocks ≡ blocks_of (node_at ns node).entry
  pub attribute : w.attribute ≡ attribute_of code

-- a row that holds no byte, or one of such a service
abbrev pub Owned : List Node → ℕ → Row → Type 0
Owned ns code w = (w.blocks ≡ 0) ⊎ ServiceRow ns code w

module _ (ns : List Node) where
  -- the row of a code
  row_owned : (code : ℕ) → Owned ns code (row_of ns code)
  unfolding row_of
  row_owned code = here (service_of ns code) refl
    where
      by_entry_lem : (j : ℕ) (e : Entry) → (node_at ns j).entry ≡ e → (node_at ns j).code ≡ code → is_service e ≡ true → ServiceRow ns code (row_by code e)
      by_entry_lem j (Area end) q k h = absurd (false≢true h)
      by_entry_lem j (Service start blocks limit) q k h = record {
        node = j;
        service = rw q;
        coded = k;
        start = rw q;
        blocks = rw q;
        attribute = refl;
      }

      here : (f : Option ℕ) → service_of ns code ≡ f → Owned ns code (row_at ns code f)
      here None e = inl refl
      here (Some j) e = let s = served ns code e in inr (by_entry_lem j (node_at ns j).entry refl s.coded s.service)

  -- the row of an index among codes; past their end it holds no byte
  pub index_owned : (codes : List ℕ) (j : ℕ) → Owned ns (get_or codes j 0) (row_at_index (rows_of ns codes) j)
  index_owned [] zero = inl refl
  index_owned [] (suc j) = inl refl
  index_owned (code ∷ codes) zero = row_owned code
  index_owned (code ∷ codes) (suc j) = index_owned codes j

-- so the row of an element that passed its check is that of a service
pub good-service : (ns : List Node) (codes : List ℕ) {write : Bool} {e : BlockListElement} → Good (rows_of ns codes) write e →
    ServiceRow ns (get_or codes e.index 0) (row_in (rows_of ns codes) e)
good-service ns codes {e = e} g = ⊎_elim (λ z. let k = g.number in absurd (omega arith)) (λ o. o) (index_owned ns codes e.index)

-- byte i of the arena is one of a store of the number k
pub record Holds (ns : List Node) (k i : ℕ) : Type 0 where
  pub node : ℕ
  pub service : is_service (node_at ns node).entry ≡ true
  pub number : number_of (node_at ns node).code ≡ k
  pub from : 16 * start_of (node_at ns node).entry ≤ i
  pub to : i < 16 * start_of (node_at ns node).entry + 16 * blocks_of (node_at ns node).entry

-- what holds of one of a list, found by its index
any_at : {X : Type 0} (F : X → Type 0) (none : X) (xs : List X) (j : ℕ) → F (get_or xs j none) → (F none → ⊥) → Any F xs
any_at F none [] zero h f = f h
any_at F none [] (suc j) h f = f h
any_at F none (x ∷ xs) zero h f = inl h
any_at F none (x ∷ xs) (suc j) h f = inr (any_at F none xs j h f)

-- then the card has a service of that number
pub holds_has : (c : Card) {k i : ℕ} → Holds (nodes_of c) k i → HasNumber c k
holds_has c h = any_at _ root_node (nodes_of c) h.node (h.service, h.number) (λ z. false≢true z.0)

-- so it is where it lies in the store of an owned row
pub lies_holds : {ns : List Node} {code i : ℕ} {w : Row} → Owned ns code w → LiesIn w i → Holds ns (number_of code) i
lies_holds (inl z) l = absurd (omega arith)
lies_holds (inr o) l = record {
  node = o.node;
  service = o.service;
  number = ap number_of o.coded;
  from = rw o.start at l.0;
  to = rw (o.start, o.blocks) at l.1;
}

-- each byte of a row's store is one of a number that the codes name
pub own_row
    : (ns : List Node) (codes : List ℕ) (j i : ℕ) → LiesIn (row_at_index (rows_of ns codes) j) i
    → (k : ℕ) × Holds ns k i × Any (λ code. number_of code ≡ k) codes
own_row ns [] zero i l = absurd (omega arith)
own_row ns [] (suc j) i l = absurd (omega arith)
own_row ns (code ∷ codes) zero i l = (number_of code, lies_holds (index_owned ns (code ∷ codes) zero) l, inl refl)
own_row ns (code ∷ codes) (suc j) i l = let q = own_row ns codes j i l in (q.0, q.1, inr q.2)

-- no byte is one of the stores of two numbers
pub one_number : {ns : List Node} {used : ℕ} → Laid ns used → (i k l : ℕ) → Holds ns k i → Holds ns l i → k ≡ l
one_number d i k l h g =
    elim (ℕ_discrete k l) [
      | yes e ↦ e
      | no e ↦
          absurd (⊎_elim (λ x. omega arith) (λ x. omega arith)
          (apart d h.node g.node h.service g.service (λ q. e (sym h.number ∙ q ∙ g.number))))
    ]

module _ {ns : List Node} {used : ℕ} (d : Laid ns used) {a b : ℕ} {w v : Row} (o : ServiceRow ns a w) (p : ServiceRow ns b v) where
  -- codes of one number have one store, and are of one kind
  pub one_store : number_of a ≡ number_of b → (w.start ≡ v.start) × (w.blocks ≡ v.blocks) × (code_kind_of a ≡ code_kind_of b)
  one_store e =
      let x = shared d o.node p.node o.service p.service (ap number_of o.coded ∙ e ∙ sym (ap number_of p.coded)) in (
        o.start ∙ x.start ∙ sym p.start,
        o.blocks ∙ x.blocks ∙ sym p.blocks,
        sym (ap code_kind_of o.coded) ∙ x.kind ∙ ap code_kind_of p.coded,
      )

  -- codes of different numbers have stores that lie one after the other
  pub two_stores : (number_of a ≡ number_of b → ⊥) → (w.start + w.blocks ≤ v.start) ⊎ (v.start + v.blocks ≤ w.start)
  two_stores e =
      rw (o.start, o.blocks, p.start, p.blocks)
      (apart d o.node p.node o.service p.service (λ q. e (sym (ap number_of o.coded) ∙ q ∙ ap number_of p.coded)))
