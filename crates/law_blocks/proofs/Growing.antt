-- A card that takes a node or a limit keeps what its blocks hold.
use Rattle.std.proofs.Common.{Ok}
use Prim.Native.Nat.{ℕ, zero, suc, ◌+◌, ◌-◌, ◌*◌, ◌≤◌, ◌<◌}
use native.Mathlib.Omega.{arith}
use mathlib.Core.Path.{◌≡◌, refl, sym, ap, ◌∙◌}
use mathlib.Core.Bool.{Bool, true, false, false≢true}
use mathlib.Core.List.{List, [], ◌∷◌}
use mathlib.Core.Logic.{inl}
use lib.IntN.{ℤ}
use lib.ListN.{length, replicate}
use Rattle.byte_parts.specs.Part.{part}
use Rattle.byte_parts.proofs.Part.{part-put_apart}
use Rattle.card_nodes.specs.declared.node.Entry.{Entry}
use Rattle.card_nodes.specs.declared.node.Entry.TheVariants.{Area, Service}
use Rattle.card_nodes.specs.declared.node.Node.{Node}
use Rattle.card_nodes.specs.Node.{is_area, is_service}
use Rattle.card_build.specs.declared.card.Card.{Card}
use Rattle.card_build.specs.declared.card.Added.{Added}
use Rattle.card_build.specs.Card.{nodes_of, accepted}
use Rattle.card_build.specs.Build.{area_added, service_added, arena_added, limit_added}
use Rattle.card_laws.specs.Built.{Built, area, service, limit}
use Rattle.card_laws.proofs.Built.{past-eight}
use Rattle.card_laws.proofs.Laid.{node_at, laid}
use Rattle.card_laws.proofs.Kept.{Kept, area-kept, service-kept, limit-kept}
use Rattle.law_blocks.proofs.Holding.{BlockHolds}

-- a service is among the nodes
within : (ns : List Node) (i : ℕ) → is_service (node_at ns i).entry ≡ true → i < length ns
within [] zero e = absurd (false≢true e)
within [] (suc i) e = absurd (false≢true e)
within (n ∷ ns) zero e = omega arith
within (n ∷ ns) (suc i) e = let h = within ns i e in omega (arith, h)

-- what is no area is a service
no_area : (x y : Entry) → is_area y ≡ is_area x → is_service x ≡ true → is_service y ≡ true
no_area (Area e) y a s = absurd (false≢true s)
no_area (Service s b l) (Area e) a q = absurd (false≢true (sym a))
no_area (Service s b l) (Service t c m) a q = refl

-- another card, that has each node of this one, and another arena, that has the block's bytes
grown : {c c' : Card} {n k : ℕ} {d a b : List ℕ} (h : BlockHolds c n k d a) → Built c' → Kept (nodes_of c) (nodes_of c') →
    part b (16 * h.row.start + 16 * k) 16 ≡ part a (16 * h.row.start + 16 * k) 16 → BlockHolds c' n k d b
grown {c} {c'} h built kept e =
    let o = h.service in
    let like = kept.alike o.node (within (nodes_of c) o.node o.service) in
    record {
      built = built;
      own = h.own;
      row = h.row;
      service = record {
        node = o.node;
        service = no_area (node_at (nodes_of c) o.node).entry (node_at (nodes_of c') o.node).entry like.area o.service;
        coded = like.code ∙ o.coded;
        start = o.start ∙ sym like.start;
        blocks = o.blocks ∙ sym like.blocks;
        attribute = o.attribute;
      };
      number = h.number;
      random = h.random;
      here = h.here;
      block = e ∙ h.block;
    }

-- an addition that is done is accepted
done-accepted : (x : Added) → x.answer ≡ Ok tt → x ≡ accepted x.card
done-accepted x e = λ i. record { card = x.card; answer = e i }

module _ (c : Card) (z : length c.nodes ≡ 64) {n k : ℕ} {d a : List ℕ} (h : BlockHolds c n k d a) where
  -- an area
  pub area_leaves : (depth code end version : ℕ) → (area_added c depth code end version).answer ≡ Ok tt →
      BlockHolds (area_added c depth code end version).card n k d a
  unfolding area_added
  area_leaves depth code end version e =
      let (b, q) = past-eight c z (done-accepted (area_added c depth code end version) e) in
      grown h (area depth code end version b q) (area-kept b depth code end version q) refl

  -- a service, whose new blocks lie behind all others
  pub service_leaves : (arena_len depth code blocks version : ℕ) → (service_added c arena_len depth code blocks version).answer ≡ Ok tt →
      let x = service_added c arena_len depth code blocks version in
      BlockHolds x.card n k d (arena_added c x a)
  unfolding service_added arena_added
  service_leaves arena_len depth code blocks version e =
      let x = service_added c arena_len depth code blocks version in
      let (b, q) = past-eight c z (done-accepted x e) in
      let o = h.service in
      let l = 16 * (x.card.used - c.used) in
      let fits : 16 * h.row.start + 16 * k + 16 ≤ 16 * c.used =
      omega (arith, (laid h.built).within o.node, o.start, o.blocks, h.here) in
      grown h (service arena_len depth code blocks version b q) (service-kept b arena_len depth code blocks version q)
      (part-put_apart a (16 * c.used) l (replicate l 0) (16 * h.row.start + 16 * k) 16 (inl fits))

  -- a limit
  pub limit_leaves : (upper lower : ℤ) (generation : ℕ) → (limit_added c upper lower generation).answer ≡ Ok tt →
      BlockHolds (limit_added c upper lower generation).card n k d a
  unfolding limit_added
  limit_leaves upper lower generation e =
      let (b, q) = past-eight c z (done-accepted (limit_added c upper lower generation) e) in
      grown h (limit upper lower generation b q) (limit-kept b upper lower generation q) refl
