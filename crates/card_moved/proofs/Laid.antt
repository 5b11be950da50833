-- What is known of a built card's nodes is known of moved nodes, and so of each system of a card, with the blocks in use of the whole card.
use Prim.Native.Nat.{ℕ, ◌+◌, ◌≤◌}
use native.Mathlib.Omega.{arith}
use mathlib.Core.Path.{◌≡◌, refl, sym, ap, ◌∙◌, subst}
use mathlib.Core.Bool.{true, false≢true, and-eq-true_iff}
use mathlib.Core.List.{List}
use lib.Dec.{eqb}
use lib.ListN.{length-map}
use Rattle.service_code.specs.Code.{number_of, code_kind_of}
use Rattle.card_nodes.specs.declared.node.Entry.{Entry}
use Rattle.card_nodes.specs.declared.node.Entry.TheVariants.{Area, Service}
use Rattle.card_nodes.specs.declared.node.Node.{Node}
use Rattle.card_nodes.specs.Node.{is_service, start_of, blocks_of}
use Rattle.card_nodes.specs.Find.{is_sharer_of}
use Rattle.card_nodes.proofs.Searches.{first_found, shared_look}
use Rattle.card_admit.proofs.Growth.{Deep}
use Rattle.card_build.specs.declared.card.System.{System}
use Rattle.card_laws.proofs.Places.{Known}
use Rattle.card_laws.proofs.Laid.{node_at, store_end, OfFirst, Laid, laid}
use Rattle.card_moved.specs.Moved.{moved_entry, moved_node, moved}
use Rattle.card_moved.specs.Own.{OwnCard}
use Rattle.card_moved.proofs.Looks.{look_moved, node-moved, within-moved}

module _ (k : ℕ) where
  -- a service stays one
  service-moved : (e : Entry) → is_service (moved_entry k e) ≡ is_service e
  service-moved (Area e) = refl
  service-moved (Service s b l) = refl

  -- its store begins k blocks later
  start_moved : (e : Entry) → is_service e ≡ true → start_of (moved_entry k e) ≡ k + start_of e
  start_moved (Area e) h = absurd (false≢true h)
  start_moved (Service s b l) h = refl

  -- and has as many blocks
  blocks-moved : (e : Entry) → blocks_of (moved_entry k e) ≡ blocks_of e
  blocks-moved (Area e) = refl
  blocks-moved (Service s b l) = refl

  -- it ends k blocks later at most
  end_moved : (e : Entry) (x : ℕ) → start_of e + blocks_of e ≤ x → start_of (moved_entry k e) + blocks_of (moved_entry k e) ≤ k + x
  end_moved (Area e) x h = omega arith
  end_moved (Service s b l) x h = omega arith

  -- a moved service has the store of the first of its number, moved
  owner_moved : (ns : List Node) (n : Node) → is_service n.entry ≡ true → OfFirst ns n → OfFirst (moved k ns) (moved_node k n)
  owner_moved ns n h o =
      let m = node_at ns o.first in
      let f = first_found (is_sharer_of n.code) ns o.found in
      let g = ((and-eq-true_iff (eqb (number_of m.code) (number_of n.code)) (is_service m.entry)).0 f.passes).1 in
      let q : node_at (moved k ns) o.first ≡ moved_node k m = node-moved k ns o.first in
      record {
        first = o.first;
        found = shared_look n.code (moved k ns) ns (look_moved k ns) ∙ o.found;
        start =
            start_moved n.entry h ∙ ap (λ x. k + x) o.start ∙ sym (start_moved m.entry g)
            ∙ ap (λ (x : Node). start_of x.entry) (sym q);
        blocks =
            blocks-moved n.entry ∙ o.blocks ∙ sym (blocks-moved m.entry) ∙ ap (λ (x : Node). blocks_of x.entry) (sym q);
        kind = o.kind ∙ ap (λ (x : Node). code_kind_of x.code) (sym q);
        after = λ j l.
            subst (λ (x : Node). store_end x ≤ start_of (moved_entry k n.entry)) (sym (node-moved k ns j))
            (subst (λ x. store_end (moved_node k (node_at ns j)) ≤ x) (sym (start_moved n.entry h))
            (end_moved (node_at ns j).entry (start_of n.entry) (o.after j l)));
      }

  -- all that is known of nodes
  pub laid_moved : {ns : List Node} {used : ℕ} → Laid ns used → Laid (moved k ns) (k + used)
  laid_moved {ns} {used} l = record {
    some = omega (arith, l.some, length-map ns (moved_node k));
    root = node-moved k ns 0 ∙ ap (moved_node k) l.root;
    deep = λ i a b.
        subst (λ (n : Node). Deep n.depth) (sym (node-moved k ns i)) (l.deep i a (omega (arith, b, length-map ns (moved_node k))));
    within = within-moved k ns used (k + used) l.within (omega arith);
    known = λ i h. subst (λ (n : Node). Known n.code) (sym (node-moved k ns i)) (l.known i (is i h));
    owner = λ i h.
        subst (OfFirst (moved k ns)) (sym (node-moved k ns i)) (owner_moved ns (node_at ns i) (is i h) (l.owner i (is i h)));
  }
    where
      is : (i : ℕ) → is_service (node_at (moved k ns) i).entry ≡ true → is_service (node_at ns i).entry ≡ true
      is i h =
          sym (service-moved (node_at ns i).entry) ∙ subst (λ (n : Node). is_service n.entry ≡ true) (node-moved k ns i) h

-- with more blocks in use it is known too
pub laid_more : {ns : List Node} {used more : ℕ} → used ≤ more → Laid ns used → Laid ns more
laid_more h l = record {
  some = l.some;
  root = l.root;
  deep = l.deep;
  within = λ i. omega (arith, l.within i, h);
  known = l.known;
  owner = l.owner;
}

-- so of a system's nodes, with the blocks in use of the whole card
pub own_laid : {system : System} {k w used : ℕ} {ns : List Node} → OwnCard system k w ns → w ≤ used → Laid ns used
own_laid {k = k} {used = used} o h =
    subst (λ (l : List Node). Laid l used) (sym o.records) (laid_more (omega (arith, o.blocks, h)) (laid_moved k (laid o.built)))
