-- The rows of a table: how they are filled, one code after the other, and how they are read.
use Rattle.std.proofs.Common.{Option, Some, None}
use mathlib.Core.Path.{◌≡◌, refl, sym, ◌∙◌, ap}
use mathlib.Core.List.{List, [], ◌∷◌, ◌++◌, map}
use Prim.Native.Nat.{ℕ, zero, suc, ◌+◌, ◌-◌, ◌≤◌, ◌<◌, min}
use native.Mathlib.Nat.{sub-zero, suc-sub-suc}
use native.Mathlib.Numerals.{add-one}
use native.Mathlib.Omega.{arith}
use lib.ListN.{length, get_or, set, take, replicate, length-take, length-map}
use Rattle.std.proofs.lemmas.List.{get_or_default}
use lib.Seq.{take-take, take_at}
use Rattle.card_nodes.specs.declared.node.Node.{Node}
use Rattle.card_nodes.specs.declared.node.Entry.TheVariants.{Area}
use Rattle.card_nodes.specs.Find.{is_service_of, service_of}
use Rattle.card_nodes.proofs.Scan.{read}
use Rattle.card_nodes.specs.Node.{root_node}
use Rattle.card_nodes.proofs.Searches.{in_range_lem, first_below}
use Rattle.request_check.specs.declared.table.Row.{Row}
use Rattle.request_check.specs.declared.table.Table.{Table}
use Rattle.request_check.specs.Row.{no_row, row_by, row_of, rows_of, row_table, row_at_index}

module _ (ns : List Node) (code : ℕ) {f : Option ℕ} (told : f ≡ service_of ns code) where
  -- the row of a service that is found is that node's, whatever a read past the nodes' end gives
  pub found_row_lem : {p : ℕ} → f ≡ Some p → (z : Node) → row_by code (get_or ns p z).entry ≡ row_of ns code
  unfolding row_of
  found_row_lem {p} e z =
      let h = in_range_lem (first_below (is_service_of code) 0 ns) (sym told ∙ e) in
      rw (sym told ∙ e, get_or_default ns p z root_node h)

  -- a code that is no service's has an area's row
  pub no_service : f ≡ None → row_by code (Area 0) ≡ row_of ns code
  unfolding row_of
  no_service e = rw (sym told ∙ e)

-- below the count, the row of the array, whatever a read past its end gives
pub within : (rows : List Row) (n i : ℕ) (z : Row) → i < n → i < length rows → get_or rows i z ≡ row_at_index (take n rows) i
within rows n i z h k = sym (read rows n i no_row z (simp length-take (omega arith)))

-- of k places the first i filled
abbrev pub filled : {A : Type 0} → (ℕ → A) → A → ℕ → List ℕ → ℕ → List A
filled f x k codes i = map f (take i codes) ++ replicate (k - i) x

-- one more is filled
fill_suc : {A : Type 0} (f : ℕ → A) (x : A) (k : ℕ) (codes : List ℕ) (i : ℕ) → i < k → i < length codes →
    set (filled f x k codes i) i (f (get_or codes i 0)) ≡ filled f x k codes (suc i)
fill_suc f x k [] i h l = absurd (omega arith)
fill_suc f x zero (c ∷ codes) i h l = absurd (omega arith)
fill_suc f x (suc k) (c ∷ codes) zero h l = rw (sub-zero, suc-sub-suc, sub-zero)
fill_suc f x (suc k) (c ∷ codes) (suc i) h l =
    simp suc-sub-suc (ap (λ (t : List _). f c ∷ t) (fill_suc f x k codes i (omega arith) (omega arith)))

-- the same, as the code counts
pub fill : {A : Type 0} (f : ℕ → A) (x : A) (k : ℕ) (codes : List ℕ) (i : ℕ) → i < k → i < length codes →
    set (filled f x k codes i) i (f (get_or codes i 0)) ≡ filled f x k codes (i + 1)
fill f x k codes i h l = rw add-one (fill_suc f x k codes i h l)

-- equal elements, of which fewer are taken
take-replicate : {A : Type 0} (k m : ℕ) (x : A) → k ≤ m → replicate k x ≡ take k (replicate m x)
take-replicate zero m x h = refl
take-replicate (suc k) zero x h = absurd (omega arith)
take-replicate (suc k) (suc m) x h = ap (λ (t : List _). x ∷ t) (take-replicate k m x (omega arith))

-- all are filled that there are codes for
pub full : {A : Type 0} (f : ℕ → A) (x : A) (k m n : ℕ) (codes : List ℕ) → k ≤ m → n ≡ min (length codes) k →
    filled f x k codes n ≡ take k (map f codes ++ replicate m x)
full f x k m zero [] h e = rw sub-zero (take-replicate k m x h)
full f x k m (suc n) [] h e = absurd (omega arith)
full f x zero m zero (c ∷ codes) h e = refl
full f x zero m (suc n) (c ∷ codes) h e = absurd (omega arith)
full f x (suc k) m zero (c ∷ codes) h e = absurd (omega arith)
full f x (suc k) m (suc n) (c ∷ codes) h e =
    rw suc-sub-suc (ap (λ (t : List _). f c ∷ t) (full f x k m n codes (omega arith) (omega arith)))

-- a table so filled
pub table_full : (ns : List Node) (codes : List ℕ) (rows : List Row) (n i : ℕ) → n ≡ min (length codes) 16 → i ≡ n →
    rows ≡ filled (row_of ns) no_row 16 codes i → ◌≡◌ {A = Table} (record { rows = rows; count = n }) (row_table ns codes)
unfolding row_table
table_full ns codes rows n i h k e =
    let r : rows ≡ take 16 (map (row_of ns) codes ++ replicate 16 no_row) =
    e ∙ full (row_of ns) no_row 16 16 i codes (omega arith) (omega arith)
    in
    λ j. record { rows = r j; count = h j }

-- of at most sixteen codes the table holds every row, and no other
pub table_rows_lem : {t : Table} (ns : List Node) (codes : List ℕ) → length codes ≤ 16 → t ≡ row_table ns codes →
    take t.count t.rows ≡ rows_of ns codes
unfolding row_table
table_rows_lem ns codes h e =
    let long : length (rows_of ns codes) ≡ min (length codes) 16 = simp length-map (omega arith) in
    rw e (take-take (min (length codes) 16) 16 (rows_of ns codes ++ replicate 16 no_row) (omega arith)
    ∙ take_at (rows_of ns codes) (replicate 16 no_row) (min (length codes) 16) long)
