-- The loop over a card's records: what it knows on its way.
use mathlib.Core.Path.{◌≡◌, refl, sym, ap, ◌∙◌}
use mathlib.Core.List.{List, ◌∷◌}
use Prim.Native.Nat.{ℕ, ◌+◌, ◌-◌, ◌≤◌, ◌<◌, min}
use native.Mathlib.Numerals.{add-one}
use native.Mathlib.Omega.{arith}
use lib.ListN.{length, get_or, drop, length-take, drop_of_length-le}
use lib.Seq.{drop-cons, get_or-take}
use borrow.Author.Tests.{eq-eqb, ne_eqb}
use Rattle.card_nodes.specs.declared.node.Node.{Node}
use Rattle.card_build.specs.declared.card.Card.{Card}
use Rattle.card_build.specs.Card.{nodes_of}
use Rattle.handset_bytes.specs.Layout.{card_size}
use Rattle.handset_bytes.specs.Field.{fields_put}
use Rattle.handset_bytes.specs.Node.{node_fields}
use Rattle.handset_bytes.specs.Card.{head_fields, nodes_fields, card_fields, zero_bytes, card_bytes, card_put}
use Rattle.handset_bytes.proofs.Puts.{put-more, fields_long}

-- after i of n records that were written: what is left to write gives the whole
pub record Writing (c : Card) (old s : List ℕ) (n i : ℕ) : Type 0 where
  pub most : i ≤ n
  pub few : n ≤ 64
  pub taken : length (nodes_of c) ≡ n
  pub below : n ≤ c.count
  pub long : length s ≡ card_size
  pub same : fields_put (nodes_fields 0 (nodes_of c)) old ≡ fields_put (nodes_fields i (drop i (nodes_of c))) s

-- before the first
pub started : (c : Card) (s : List ℕ) (n : ℕ) → length c.nodes ≡ 64 → n ≡ min c.count 64 → length s ≡ card_size → Writing c s s n 0
started c s n l e h =
    let long : length (nodes_of c) ≡ n = simp length-take (rw (l, e)) in
    record { most = omega arith; few = omega arith; taken = long; below = omega arith; long = h; same = refl }

-- a record more
first : (i : ℕ) (n : Node) (ns : List Node) (s : List ℕ) → fields_put (nodes_fields i (n ∷ ns)) s ≡ fields_put (nodes_fields (i + 1) ns) (fields_put (node_fields i n) s)
unfolding nodes_fields
first i n ns s = put-more (node_fields i n) (nodes_fields (i + 1) ns) s

-- and none
none_left : (i : ℕ) (ns : List Node) (s : List ℕ) → length ns ≤ i → fields_put (nodes_fields i (drop i ns)) s ≡ s
unfolding nodes_fields fields_put
none_left i ns s h = rw (drop_of_length-le ns h)

module _ {c : Card} {old s : List ℕ} {n i : ℕ} (k : Writing c old s n i) where
  -- one more was written
  pub wrote : (z : Node) {t : List ℕ} → i < n → t ≡ fields_put (node_fields i (get_or c.nodes i z)) s → Writing c old t n (i + 1)
  wrote z {t = t} h e =
      let ns = nodes_of c in
      let here : drop i ns ≡ get_or ns i z ∷ drop (i + 1) ns = rw add-one (drop-cons ns i z (omega (arith, k.taken))) in
      let own : get_or ns i z ≡ get_or c.nodes i z = get_or-take c.count c.nodes i z (omega (arith, k.below)) in
      record {
        most = omega arith;
        few = k.few;
        taken = k.taken;
        below = k.below;
        long = ap length e ∙ (fields_long (node_fields i (get_or c.nodes i z)) s ∙ k.long);
        same =
            k.same ∙ (ap (λ (l : List Node). fields_put (nodes_fields i l) s) here ∙ (first i (get_or ns i z) (drop (i + 1) ns) s
            ∙ rw (own, ← e)));
      }

  -- all were written
  pub written : (first : List ℕ) → n ≤ i → length first ≡ card_size → old ≡ fields_put (head_fields c) (zero_bytes (length first)) → s ≡ card_put c first
  unfolding card_put card_bytes card_fields
  written first h l o =
      let ns = nodes_of c in
      let done = k.same ∙ none_left i ns s (omega (arith, k.taken)) in
      let head : old ≡ fields_put (head_fields c) (zero_bytes card_size) = o ∙ ap (λ (m : ℕ). fields_put (head_fields c) (zero_bytes m)) l in
      rw (eq-eqb (length first) card_size l)
      (sym done ∙ (ap (fields_put (nodes_fields 0 ns)) head ∙ sym (put-more (head_fields c) (nodes_fields 0 ns) (zero_bytes card_size))))

-- bytes of another length stay
pub stays : (c : Card) (s : List ℕ) → (length s ≡ card_size → ⊥) → s ≡ card_put c s
unfolding card_put
stays c s h = rw (ne_eqb (length s) card_size h)
