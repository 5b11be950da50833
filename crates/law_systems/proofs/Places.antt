-- The bytes of a system's stores: those of its rows are among them, and where they lie by the blocks in use. Assumes nothing.
use Rattle.std.proofs.Common.{Option, Some, None}
use Prim.Native.Nat.{ℕ, zero, suc, ◌+◌, ◌-◌, ◌*◌, ◌≤◌, ◌<◌}
use native.Mathlib.Omega.{arith}
use mathlib.Core.Path.{◌≡◌, refl, sym, ap, ◌∙◌, subst}
use mathlib.Core.List.{List, [], ◌∷◌}
use lib.ListN.{length, get_or}
use Rattle.byte_parts.specs.Part.{part}
use Rattle.byte_parts.proofs.Part.{get_d_part}
use Rattle.card_nodes.specs.declared.node.Entry.{Entry}
use Rattle.card_nodes.specs.declared.node.Entry.TheVariants.{Area, Service}
use Rattle.card_nodes.specs.declared.node.Node.{Node}
use Rattle.card_nodes.specs.Node.{start_of, blocks_of}
use Rattle.card_nodes.specs.Find.{service_of}
use Rattle.request_check.specs.Row.{row_by, row_at, row_of, rows_of, row_at_index}
use Rattle.request_plan.proofs.Frame.{LiesIn}
use Rattle.card_moved.specs.Moved.{moved_entry, moved, entry_at, StoresWithin}
use Rattle.card_moved.proofs.Looks.{node-moved}
use Rattle.law_systems.specs.Alike.{Stored, StoresAlike}
use Rattle.law_systems.proofs.Shifted.{Shifted, part_shifted}

module _ (ns : List Node) where
  -- a byte of the row of a code is one of a store
  row_stored : (code i : ℕ) → LiesIn (row_of ns code) i → Stored ns i
  unfolding row_of
  row_stored code i = by_found (service_of ns code)
    where
      by_entry_lem : (j : ℕ) (e : Entry) → entry_at ns j ≡ e → LiesIn (row_by code e) i → Stored ns i
      by_entry_lem j (Area e) q l = absurd (omega arith)
      by_entry_lem j (Service s b m) q l = record { node = j; from = rw q l.0; to = rw q l.1 }

      by_found : (f : Option ℕ) → LiesIn (row_at ns code f) i → Stored ns i
      by_found (Some j) l = by_entry_lem j (entry_at ns j) refl l
      by_found None l = absurd (omega arith)

  -- so is a byte of the row at an index
  pub rows_stored : (codes : List ℕ) (j i : ℕ) → LiesIn (row_at_index (rows_of ns codes) j) i → Stored ns i
  rows_stored [] zero i l = absurd (omega arith)
  rows_stored [] (suc j) i l = absurd (omega arith)
  rows_stored (code ∷ codes) zero i l = row_stored code i l
  rows_stored (code ∷ codes) (suc j) i l = rows_stored codes j i l

  module _ (k : ℕ) where
    -- a moved store ends k blocks later, if it has any block
    moved-end : (used : ℕ) → StoresWithin (moved k ns) used → (j : ℕ) → 0 < blocks_of (entry_at ns j) →
        k + start_of (entry_at ns j) + blocks_of (entry_at ns j) ≤ used
    moved-end used h j =
        by_entry_lem (entry_at ns j) (subst (λ (n : Node). start_of n.entry + blocks_of n.entry ≤ used) (node-moved k ns j) (h j))
      where
        by_entry_lem : (e : Entry) → start_of (moved_entry k e) + blocks_of (moved_entry k e) ≤ used → 0 < blocks_of e →
            k + start_of e + blocks_of e ≤ used
        by_entry_lem (Area e) w z = absurd (omega arith)
        by_entry_lem (Service s b l) w z = w

    -- where the bytes lie on either card
    pub stored-within : (used blocks : ℕ) → StoresWithin (moved k ns) used → StoresWithin ns blocks → (i : ℕ) → Stored ns i →
        (16 * k + i < 16 * used) × (i < 16 * blocks)
    stored-within used blocks v w i p =
        let z : 0 < blocks_of (entry_at ns p.node) = omega (arith, p.from, p.to) in
        (omega (arith, p.from, p.to, moved-end used v p.node z), omega (arith, p.from, p.to, w p.node))

    -- stores that are alike are so byte by byte, where the arenas hold them
    pub alike_shifted : (a b : List ℕ) → ((i : ℕ) → Stored ns i → (16 * k + i < length a) × (i < length b)) → StoresAlike k ns a b →
        Shifted (Stored ns) (16 * k) a b
    alike_shifted a b f h = record {
      there = λ i p. (f i p).0;
      here = λ i p. (f i p).1;
      each = λ i p.
          let s = start_of (entry_at ns p.node) in
          let n = blocks_of (entry_at ns p.node) in
          let l : i - 16 * s < 16 * n = omega (arith, p.from, p.to) in
          let x : 16 * (k + s) + (i - 16 * s) ≡ 16 * k + i = omega (arith, p.from) in
          let y : 16 * s + (i - 16 * s) ≡ i = omega (arith, p.from) in
          ap (λ z. get_or a z 0) (sym x) ∙ sym (get_d_part a (16 * (k + s)) (16 * n) (i - 16 * s) l)
          ∙ ap (λ (t : List ℕ). get_or t (i - 16 * s) 0) (h p.node)
          ∙ get_d_part b (16 * s) (16 * n) (i - 16 * s) l ∙ ap (λ z. get_or b z 0) y;
    }

    -- and back
    pub shifted_alike : (a b : List ℕ) → Shifted (Stored ns) (16 * k) a b → StoresAlike k ns a b
    shifted_alike a b h j =
        let s = start_of (entry_at ns j) in
        let n = blocks_of (entry_at ns j) in
        let e : 16 * (k + s) ≡ 16 * k + 16 * s = omega arith in
        ap (λ z. part a z (16 * n)) e
        ∙ part_shifted (Stored ns) (16 * k) a b (16 * s) (16 * n) h (λ i l r. record { node = j; from = l; to = r })
