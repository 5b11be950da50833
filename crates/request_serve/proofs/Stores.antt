-- What the copied stores hold: in the rows' stores the bytes of the one list, elsewhere those of the other. And the loop that copies them.
use mathlib.Core.Path.{◌≡◌, refl, sym, ap, ◌∙◌}
use mathlib.Core.List.{List, [], ◌∷◌}
use Prim.Native.Nat.{ℕ, zero, suc, ◌+◌, ◌-◌, ◌*◌, ◌≤◌, ◌<◌}
use native.Mathlib.Decide.{dec_lt, dec_le}
use native.Mathlib.Numerals.{add-one}
use native.Mathlib.Omega.{arith}
use lib.ListN.{length, get_or, take, drop, length-drop, length-take, drop_of_length-le}
use lib.Seq.{get_or-take, get_or-drop, drop-cons, ext_get_or}
use Rattle.byte_parts.specs.Part.{put}
use Rattle.byte_parts.proofs.Part.{length-put, get_d_part, part-put}
use Rattle.request_check.specs.declared.table.Row.{Row}
use Rattle.request_check.specs.declared.table.Table.{Table}
use Rattle.request_check.specs.Row.{no_row, row_at_index}
use Rattle.request_check.proofs.Rows.{within}
use Rattle.request_plan.proofs.Same.{Same, same_refl, same_trans_lem, put_spare}
use Rattle.request_plan.proofs.Frame.{LiesIn}
use Rattle.request_serve.specs.Stores.{AllIn, stores_put}

-- one row's store, copied
abbrev store_put : List ℕ → List ℕ → Row → List ℕ
store_put to from w = put to (16 * w.start) (16 * w.blocks) (drop (16 * w.start) from)

store_long : (to from : List ℕ) (w : Row) → length (store_put to from w) ≡ length to
store_long to from w = length-put to (16 * w.start) (16 * w.blocks) (drop (16 * w.start) from)

module _ (P : ℕ → Type 0) where
  -- it changes nothing of P, where it lies outside P
  store_spare : (to from : List ℕ) (w : Row) → ((i : ℕ) → LiesIn w i → P i → ⊥) → Same P to (store_put to from w)
  store_spare to from w m = put_spare P to (16 * w.start) (16 * w.blocks) (drop (16 * w.start) from) (λ i a b. m i (a, b))

  -- nor do all the rows' stores
  pub stores_spare : (to from : List ℕ) (rows : List Row) → ((j i : ℕ) → LiesIn (row_at_index rows j) i → P i → ⊥) →
      Same P to (stores_put to from rows)
  unfolding stores_put
  stores_spare to from [] m = same_refl P to
  stores_spare to from (w ∷ rows) m =
      same_trans_lem P to (store_put to from w) (stores_put (store_put to from w) from rows) (store_spare to from w (m 0))
      (stores_spare (store_put to from w) from rows (λ j. m (suc j)))

-- each store lies in a list as long
all_in : (rows : List Row) {m n : ℕ} → m ≡ n → AllIn rows n → AllIn rows m
all_in rows e h = rw e h

-- what is put from the same place of another list is that list's
put_own : (to from : List ℕ) (at n i : ℕ) → at + n ≤ length to → at + n ≤ length from → at ≤ i → i < at + n →
    get_or (put to at n (drop at from)) i 0 ≡ get_or from i 0
put_own to from at n i h k l m =
    let e : at + (i - at) ≡ i = omega arith in
    let b : i - at < n = omega arith in
    let f : n ≤ length (drop at from) = simp length-drop (omega arith) in
    let s = put to at n (drop at from) in
    ap (λ j. get_or s j 0) (sym e) ∙ sym (get_d_part s at n (i - at) b) ∙ rw (part-put to at n (drop at from) h f)
    (get_or-take n (drop at from) (i - at) 0 b ∙ get_or-drop at from (i - at) 0 ∙ rw e)

module _ (from : List ℕ) (i : ℕ) where
  -- a byte of the store is copied
  store_here : (to : List ℕ) (w : Row) → 16 * w.start + 16 * w.blocks ≤ length to → 16 * w.start + 16 * w.blocks ≤ length from →
      LiesIn w i → get_or (store_put to from w) i 0 ≡ get_or from i 0
  store_here to w h k l = put_own to from (16 * w.start) (16 * w.blocks) i h k l.0 l.1

  -- a byte that is alike stays so
  store_keeps : (to : List ℕ) (w : Row) → 16 * w.start + 16 * w.blocks ≤ length to → 16 * w.start + 16 * w.blocks ≤ length from →
      get_or to i 0 ≡ get_or from i 0 → get_or (store_put to from w) i 0 ≡ get_or from i 0
  store_keeps to w h k e = elim (dec_le (16 * w.start) i) [
    | yes a ↦ elim (dec_lt i (16 * w.start + 16 * w.blocks)) [
      | yes b ↦ store_here to w h k (a, b)
      | no b ↦ sym ((store_spare (λ j. LiesIn w j → ⊥) to from w (λ j l p. p l)).each i (λ l. b l.1)) ∙ e
    ]
    | no a ↦ sym ((store_spare (λ j. LiesIn w j → ⊥) to from w (λ j l p. p l)).each i (λ l. a l.0)) ∙ e
  ]

  stores_keep : (to : List ℕ) (rows : List Row) → AllIn rows (length to) → AllIn rows (length from) →
      get_or to i 0 ≡ get_or from i 0 → get_or (stores_put to from rows) i 0 ≡ get_or from i 0
  unfolding stores_put
  stores_keep to [] h k e = e
  stores_keep to (w ∷ rows) h k e =
      stores_keep (store_put to from w) rows (all_in rows (store_long to from w) (λ j. h (suc j))) (λ j. k (suc j))
      (store_keeps to w (h 0) (k 0) e)

  -- a byte of the rows' stores is copied
  stores_here : (to : List ℕ) (rows : List Row) → AllIn rows (length to) → AllIn rows (length from) →
      (j : ℕ) → LiesIn (row_at_index rows j) i → get_or (stores_put to from rows) i 0 ≡ get_or from i 0
  unfolding stores_put
  stores_here to [] h k zero l = absurd (omega (arith, l))
  stores_here to [] h k (suc j) l = absurd (omega (arith, l))
  stores_here to (w ∷ rows) h k zero l =
      stores_keep (store_put to from w) rows (all_in rows (store_long to from w) (λ j. h (suc j))) (λ j. k (suc j))
      (store_here to w (h 0) (k 0) l)
  stores_here to (w ∷ rows) h k (suc j) l =
      stores_here (store_put to from w) rows (all_in rows (store_long to from w) (λ j. h (suc j))) (λ j. k (suc j)) j l

-- byte i is one of the rows' stores
abbrev pub Named : List Row → ℕ → Type 0
Named rows i = (j : ℕ) × LiesIn (row_at_index rows j) i

module _ (to from : List ℕ) (rows : List Row) (size : ℕ) (f : AllIn rows size) (h : size ≤ length to) where
  -- at the bytes of the rows' stores it is as if all bytes were copied
  pub stores_front : size ≤ length from → Same (Named rows) (stores_put to from rows) (put to 0 size from)
  stores_front k = record {
    long = sym (stores_spare (λ i. ⊥) to from rows (λ j i l p. p)).long ∙ sym (length-put to 0 size from);
    each = λ i p.
        let b : i < 0 + size = omega (arith, f p.0, p.1) in
        stores_here from i to rows (λ j. omega (arith, f j)) (λ j. omega (arith, f j)) p.0 p.1
        ∙ sym (put_own to from 0 size i (omega arith) (omega arith) (omega arith) b);
  }

  -- past all stores the list is as it was
  pub stores_rest : drop size (stores_put to from rows) ≡ drop size to
  stores_rest =
      let m = stores_spare (λ i. size ≤ i) to from rows (λ j i l p. omega (arith, f j, l)) in
      ext_get_or 0 (drop size (stores_put to from rows)) (drop size to) (simp (length-drop, m.long)) (λ i b.
      get_or-drop size (stores_put to from rows) i 0 ∙ sym (m.each (size + i) (omega arith)) ∙ sym (get_or-drop size to i 0))

-- after i rows: to copy the stores of those left is all that is left
pub record Copying (rows : List Row) (from old to : List ℕ) (i : ℕ) : Type 0 where
  pub long : length to ≡ length old
  pub same : stores_put old from rows ≡ stores_put to from (drop i rows)

-- before the first
pub begun : (rows : List Row) (from to : List ℕ) → Copying rows from to to 0
begun rows from to = record { long = refl; same = refl }

module _ (t : Table) (sixteen : length t.rows ≡ 16) (few : t.count ≤ 16) {from old to : List ℕ} {i : ℕ}
    (k : Copying (take t.count t.rows) from old to i) where
  abbrev rows : List Row
  rows = take t.count t.rows

  -- none is left
  pub over : t.count ≤ i → to ≡ stores_put old from rows
  unfolding stores_put
  over h = let e : length rows ≤ i = simp length-take (omega arith) in sym (k.same ∙ rw (drop_of_length-le rows e))

  module _ (h : i < t.count) where
    -- the row at i
    pub row_here : (z : Row) → get_or t.rows i z ≡ row_at_index rows i
    row_here z = within t.rows t.count i z h (omega arith)

    module _ {w : Row} (r : w ≡ row_at_index rows i) where
      -- its store lies in both
      pub inside : AllIn rows (length old) → AllIn rows (length from) →
          (16 * w.start + 16 * w.blocks ≤ length to) × (16 * w.start + 16 * w.blocks ≤ length from)
      inside f g = rw (r, k.long) (f i, g i)

      -- once it is copied, those after it are left
      pub turn : {new : List ℕ} → new ≡ store_put to from w → Copying rows from old new (i + 1)
      unfolding stores_put
      turn n =
          let b : i < length rows = simp length-take (omega arith) in
          let d : drop i rows ≡ row_at_index rows i ∷ drop (i + 1) rows = rw (add-one i) (drop-cons rows i no_row b) in
          record { long = rw n (store_long to from w ∙ k.long); same = k.same ∙ rw (d, n, r) }
