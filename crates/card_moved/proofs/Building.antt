-- After moved nodes an area is judged, and a service placed, as after the nodes themselves, but for 22. Assumes nothing.
use Rattle.std.proofs.Common.{Option, Some, None, Result, Ok, Err}
use Prim.Native.Nat.{ℕ, ◌+◌}
use native.Mathlib.Omega.{arith}
use mathlib.Core.Path.{◌≡◌, refl, sym, ap, ◌∙◌, subst}
use mathlib.Core.Bool.{Bool, true, false, cond, not, false≢true, and-eq-true_iff}
use mathlib.Core.List.{List}
use mathlib.Core.Logic.{◌⊎◌, inl, inr}
use lib.Dec.{eqb, ltb}
use lib.ListN.{get_or}
use borrow.Author.Tests.{le-ltb, ltb-false}
use Rattle.service_code.specs.Code.{number_of}
use Rattle.answers.specs.declared.refusal.Refusal.TheVariants.{NoRoom, OverlapKindMismatch}
use Rattle.card_nodes.specs.declared.node.Entry.{Entry}
use Rattle.card_nodes.specs.declared.node.Entry.TheVariants.{Area, Service}
use Rattle.card_nodes.specs.declared.node.Node.{Node}
use Rattle.card_nodes.specs.Node.{root_node, is_service, end_of, start_of, blocks_of}
use Rattle.card_nodes.specs.Find.{is_sharer_of, shared_of}
use Rattle.card_nodes.proofs.Searches.{first_found, shared_look, parent_look}
use Rattle.card_admit.specs.declared.Placed.{Placed}
use Rattle.card_admit.specs.Admit.{parent_at, area_under, area_found, area_judged, service_under, same_kind, joined_to, usable, new_store, first_in, store_by, store_of, if_done, service_found, placed_of}
use Rattle.card_moved.specs.Moved.{moved_entry, moved_node, moved}
use Rattle.card_moved.proofs.Looks.{look_moved, node-moved}
use Rattle.answers.specs.declared.refusal.Refusal.{Refusal}
use Rattle.card_admit.specs.Placed.{placed_at}

-- a place is not nothing
pub at_nothing_lem : {A : Type 0} {j : ℕ} → Some j ≡ None → A
at_nothing_lem e = absurd (let z : ◌≡◌ {A = ℕ} 0 1 = cc in (omega arith))

module _ (k : ℕ) where
  -- the parent is found at the same index
  parent_moved : (ns : List Node) (depth : ℕ) → parent_at (moved k ns) depth ≡ parent_at ns depth
  unfolding parent_at
  parent_moved ns depth = rw (parent_look depth None 0 (moved k ns) ns (look_moved k ns))

  -- an area's last code stays
  end_moved : (e : Entry) → end_of (moved_entry k e) ≡ end_of e
  end_moved (Area e) = refl
  end_moved (Service s b l) = refl

  -- so an area may come under a moved node where it may under the node
  area_under_lem : (n : Node) (code end : ℕ) → area_under (moved_node k n) code end ≡ area_under n code end
  unfolding area_under
  area_under_lem n code end = rw (end_moved n.entry)

  -- and so may a service
  service_under_lem : (n : Node) (code : ℕ) → service_under (moved_node k n) code ≡ service_under n code
  unfolding service_under
  service_under_lem n code = rw (end_moved n.entry)

  -- an area is judged alike after them
  pub area_judged_lem : (ns : List Node) (depth code end : ℕ) → area_judged (moved k ns) depth code end ≡ area_judged ns depth code end
  unfolding area_judged
  area_judged_lem ns depth code end = rw (parent_moved ns depth) (by_found (parent_at ns depth))
    where
      by_found : (f : Option ℕ) → area_found (moved k ns) code end f ≡ area_found ns code end f
      by_found None = refl
      by_found (Some p) = ap (λ (n : Node). area_under n code end) (node-moved k ns p) ∙ area_under_lem (get_or ns p root_node) code end

  -- a store k blocks later, or the same refusal
  abbrev pub moved_placed : Result Placed Refusal → Result Placed Refusal
  moved_placed (Err r) = Err r
  moved_placed (Ok placed) = placed_at (k + placed.start) placed.blocks (k + placed.used)

  -- where there is room for a new store on both or on neither
  module _ (ns : List Node) (used len size code b : ℕ)
      (same : shared_of ns code ≡ None → ltb (usable len) (k + used + b) ≡ ltb (usable size) (used + b)) where
    -- a store is joined or made k blocks later
    store-moved :
        store_of (moved k ns) (k + used) len code b (shared_of (moved k ns) code)
        ≡ moved_placed (store_of ns used size code b (shared_of ns code))
    unfolding new_store joined_to
    store-moved = rw (shared_look code (moved k ns) ns (look_moved k ns)) (by_shared (shared_of ns code) refl)
      where
        by_room : (t : Bool) →
            cond t (Err NoRoom) (placed_at (k + used) b (k + used + b))
            ≡ moved_placed (cond t (Err NoRoom) (placed_at used b (used + b)))
        by_room true = refl
        by_room false = ap (placed_at (k + used) b) (omega arith)

        by_kind : (t : Bool) (e : Entry) → is_service e ≡ true →
            cond (not t) (Err OverlapKindMismatch) (placed_at (start_of (moved_entry k e)) (blocks_of (moved_entry k e)) (k + used))
            ≡ moved_placed (cond (not t) (Err OverlapKindMismatch) (placed_at (start_of e) (blocks_of e) used))
        by_kind t (Area e) h = absurd (false≢true h)
        by_kind true (Service s c l) h = refl
        by_kind false (Service s c l) h = refl

        by_shared : (f : Option ℕ) → shared_of ns code ≡ f →
            store_by (k + used) len code b (first_in (moved k ns) f) ≡ moved_placed (store_by used size code b (first_in ns f))
        by_shared None e = rw (same e) (by_room (ltb (usable size) (used + b)))
        by_shared (Some j) e =
            let f = first_found (is_sharer_of code) ns e in
            let n = get_or ns j root_node in
            let t = (and-eq-true_iff (eqb (number_of n.code) (number_of code)) (is_service n.entry)).0 f.passes in
            ap (λ (m : Node). joined_to m code (k + used)) (node-moved k ns j) ∙ by_kind (same_kind n.code code) n.entry t.1

    -- a service is placed k blocks later, or refused alike
    pub placed_moved : (depth : ℕ) → placed_of (moved k ns) (k + used) len depth code b ≡ moved_placed (placed_of ns used size depth code b)
    unfolding placed_of
    placed_moved depth = rw (parent_moved ns depth) (by_found (parent_at ns depth))
      where
        by_answer : (a : Result Unit Refusal) (x y : Result Placed Refusal) → x ≡ moved_placed y → if_done a x ≡ moved_placed (if_done a y)
        by_answer (Err r) x y e = refl
        by_answer (Ok tt) x y e = e

        by_found : (f : Option ℕ) → service_found (moved k ns) (k + used) len code b f ≡ moved_placed (service_found ns used size code b f)
        by_found None = refl
        by_found (Some p) =
            ap (λ (n : Node). if_done (service_under n code) (store_of (moved k ns) (k + used) len code b (shared_of (moved k ns) code)))
            (node-moved k ns p)
            ∙ ap (λ a. if_done a (store_of (moved k ns) (k + used) len code b (shared_of (moved k ns) code)))
            (service_under_lem (get_or ns p root_node) code)
            ∙ by_answer (service_under (get_or ns p root_node) code) _ _ store-moved

  -- with no premise: it is refused with 22 after the moved nodes, or placed so
  pub placed_or_full : (ns : List Node) (used len depth code b : ℕ) →
      (placed_of (moved k ns) (k + used) len depth code b ≡ Err NoRoom)
      ⊎ (placed_of (moved k ns) (k + used) len depth code b ≡ moved_placed (placed_of ns used len depth code b))
  unfolding placed_of new_store
  placed_or_full ns used len depth code b = by_shared (shared_of ns code) refl
    where
      Either : Result Placed Refusal → Result Placed Refusal → Type 0
      Either x y = (x ≡ Err NoRoom) ⊎ (x ≡ moved_placed y)

      far : Option Node
      far = first_in (moved k ns) (shared_of (moved k ns) code)

      by_answer : (a : Result Unit Refusal) (x y : Result Placed Refusal) → x ≡ Err NoRoom → Either (if_done a x) (if_done a y)
      by_answer (Err r) x y e = inr refl
      by_answer (Ok tt) x y e = inl e

      by_found : store_by (k + used) len code b far ≡ Err NoRoom → (f : Option ℕ) →
          Either (service_found (moved k ns) (k + used) len code b f) (service_found ns used len code b f)
      by_found h None = inr refl
      by_found h (Some p) =
          subst (λ a. Either (if_done a (store_by (k + used) len code b far)) (service_found ns used len code b (Some p)))
          (sym (ap (λ (n : Node). service_under n code) (node-moved k ns p) ∙ service_under_lem (get_or ns p root_node) code))
          (by_answer (service_under (get_or ns p root_node) code) _ _ h)

      by_room : shared_of ns code ≡ None → (t : Bool) → ltb (usable len) (k + used + b) ≡ t →
          Either (placed_of (moved k ns) (k + used) len depth code b) (placed_of ns used len depth code b)
      by_room none true h =
          rw (parent_moved ns depth) (by_found (rw (shared_look code (moved k ns) ns (look_moved k ns), none, h)) (parent_at ns depth))
      by_room none false h =
          let l = ltb-false (usable len) (k + used + b) h in
          inr (placed_moved ns used len len code b (λ e. h ∙ sym (le-ltb (usable len) (used + b) (omega (arith, l)))) depth)

      by_shared : (f : Option ℕ) → shared_of ns code ≡ f →
          Either (placed_of (moved k ns) (k + used) len depth code b) (placed_of ns used len depth code b)
      by_shared None e = by_room e (ltb (usable len) (k + used + b)) refl
      by_shared (Some j) e = inr (placed_moved ns used len len code b (λ z. at_nothing_lem (sym e ∙ z)) depth)
