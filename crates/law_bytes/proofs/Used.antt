-- Bytes that agree on each place that is part of the card read alike: no other place is ever read.
use mathlib.Core.Path.{◌≡◌, refl, ap, ◌∙◌}
use mathlib.Core.Bool.{Bool, true, false, ◌&&◌}
use mathlib.Core.List.{List, ◌∷◌}
use Prim.Native.Nat.{ℕ, zero, suc, ◌+◌, ◌-◌, ◌≤◌, ◌<◌}
use native.Mathlib.Omega.{arith}
use lib.Dec.{eqb, leb}
use lib.ListN.{length, get_or}
use Rattle.byte_parts.specs.Word.{word_at, word_bytes}
use Rattle.byte_parts.specs.Half.{half_bytes, half_at}
use Rattle.card_nodes.specs.declared.node.Entry.TheVariants.{Area}
use Rattle.card_build.specs.Card.{nodes_of}
use Rattle.handset_bytes.specs.Layout.{count_place, used_place, system_place, key_place, flags_place, layout_place, kind_place, depth_place, code_place, start_place, blocks_place, version_place, generation_place, upper_place, lower_place}
use Rattle.handset_bytes.specs.Node.{entry_fields, node_fields, entry_in, node_in, is_record}
use Rattle.handset_bytes.specs.Card.{head_fields, nodes_fields, card_fields, nodes_in, are_records, card_in, is_headed, is_card, card_decoded}
use Rattle.law_bytes.specs.Used.{is_used}
use Rattle.law_bytes.proofs.Fields.{Under, all_under, under_split}
use Rattle.law_bytes.proofs.Records.{entry_by}
use Rattle.law_bytes.proofs.Round.{nodes-taken}

module _ (s t : List ℕ) where
  -- a place where they agree
  abbrev Same : ℕ → Type 0
  Same p = get_or s p 0 ≡ get_or t p 0

  -- numbers of fields where they agree
  half_same : (at : ℕ) → ((p : ℕ) → at ≤ p → p < at + 2 → Same p) → half_at s at ≡ half_at t at
  unfolding half_at
  half_same at u = rw (u at (omega arith) (omega arith), u (at + 1) (omega arith) (omega arith))

  word_same : (at : ℕ) → ((p : ℕ) → at ≤ p → p < at + 4 → Same p) → word_at s at ≡ word_at t at
  unfolding word_at
  word_same at u =
      rw (
        u at (omega arith) (omega arith),
        u (at + 1) (omega arith) (omega arith),
        u (at + 2) (omega arith) (omega arith),
        u (at + 3) (omega arith) (omega arith),
      )

  module _ (i : ℕ) where
    -- what only an area has, or only a service
    entry_same_lem : (x y : Bool) → Under Same (entry_fields i (entry_by s i x y)) → entry_by s i x y ≡ entry_by t i x y
    unfolding half_bytes word_bytes
    entry_same_lem true y u = ap Area (half_same (start_place i) u.0)
    entry_same_lem false false u = rw (half_same (start_place i) u.0, half_same (blocks_place i) u.1.0)
    entry_same_lem false true u =
        rw (
          half_same (start_place i) u.0,
          half_same (blocks_place i) u.1.0,
          u.1.1.0 (generation_place i) (omega arith) (omega arith),
          word_same (upper_place i) u.1.1.1.0,
          word_same (lower_place i) u.1.1.1.1.0,
        )

    -- a record
    node_same : Under Same (node_fields i (node_in s i)) → (node_in s i ≡ node_in t i) × (is_record s i ≡ is_record t i)
    unfolding half_bytes node_fields node_in is_record
    node_same u =
        let kind : get_or s (kind_place i) 0 ≡ get_or t (kind_place i) 0 = u.0 (kind_place i) (omega arith) (omega arith) in
        let depth = u.1.0 (depth_place i) (omega arith) (omega arith) in
        let code = half_same (code_place i) u.1.1.0 in
        let version = half_same (version_place i) u.1.1.1.0 in
        let entry : entry_in s i ≡ entry_in t i = entry_same_lem (eqb (get_or s (kind_place i) 0) 0) (eqb (get_or s (kind_place i) 0) 2) u.1.1.1.1 ∙ rw kind in
        (λ j. record { depth = depth j; code = code j; version = version j; entry = entry j }, ap (λ (k : ℕ). leb k 2) kind)

  -- records
  nodes_same : (n i : ℕ) → Under Same (nodes_fields i (nodes_in n i s)) → (nodes_in n i s ≡ nodes_in n i t) × (are_records n i s ≡ are_records n i t)
  unfolding nodes_fields nodes_in are_records
  nodes_same zero i u = (refl, refl)
  nodes_same (suc n) i u =
      let v = under_split Same (node_fields i (node_in s i)) (nodes_fields (i + 1) (nodes_in n (i + 1) s)) u in
      let own = node_same i v.0 in
      let later = nodes_same n (i + 1) v.1 in
      (λ j. own.0 j ∷ later.0 j, λ j. own.1 j && later.1 j)

  -- so whole cards are decoded alike
  pub used-only : length s ≡ length t → ((p : ℕ) → is_used s p ≡ true → get_or s p 0 ≡ get_or t p 0) → card_decoded s ≡ card_decoded t
  unfolding half_bytes is_used card_fields card_decoded is_card is_headed
  used-only long h =
      let u = under_split Same (head_fields (card_in s)) (nodes_fields 0 (nodes_of (card_in s))) (all_under Same (card_fields (card_in s)) h) in
      let g = u.0 in
      let count : half_at s count_place ≡ half_at t count_place = half_same count_place g.0 in
      let used : half_at s used_place ≡ half_at t used_place = half_same used_place g.1.0 in
      let code : half_at s system_place ≡ half_at t system_place = half_same system_place g.1.1.0 in
      let key : half_at s key_place ≡ half_at t key_place = half_same key_place g.1.1.1.0 in
      let flags : half_at s flags_place ≡ half_at t flags_place = half_same flags_place g.1.1.1.1.0 in
      let layout : half_at s layout_place ≡ half_at t layout_place = half_same layout_place g.1.1.1.1.1.0 in
      let r = nodes_same (half_at s count_place) 0 (rw (nodes-taken s) at u.1) in
      rw (long, layout, flags, r.0, r.1, count, used, code, key)
