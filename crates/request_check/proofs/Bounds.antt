-- How many blocks an element may name: exactly those that pass its check. And how the numbers of all modes and indices are filled in.
use Rattle.std.proofs.Common.{Option, Some, None, Result, Ok, Err}
use mathlib.Core.Path.{◌≡◌, refl, sym, ap, ◌∙◌}
use mathlib.Core.Bool.{Bool, true, false, cond, not}
use mathlib.Core.List.{List}
use Prim.Native.Nat.{ℕ, zero, suc, ◌+◌, ◌*◌, ◌≤◌, ◌<◌, min}
use native.Mathlib.Omega.{arith}
use native.Mathlib.Decide.{ℕ_discrete, dec_lt}
use lib.Dec.{ltb, leb}
use lib.ListN.{length, get_or, set, take, replicate, length-set, length-take, length-replicate, get_or-replicate, get_or-eq_default}
use lib.Seq.{get_or-set_same, get_or-set_other, take_all}
use borrow.Author.Tests.{leb-true, le-leb, lt-ltb, le-ltb, ne_eqb}
use Rattle.service_code.specs.declared.code.ServiceAttribute.{ServiceAttribute}
use Rattle.service_code.specs.Code.{requires_key}
use Rattle.block_list.specs.declared.element.BlockListElement.{BlockListElement}
use Rattle.answers.specs.declared.status.Fault.{Fault}
use Rattle.answers.specs.declared.status.Fault.TheVariants.{ListIndex, AccessMode, Attribute, NoService, BlockNumber}
use Rattle.request_check.specs.declared.table.Row.{Row}
use Rattle.request_check.specs.Row.{no_row, row_at_index, row_in}
use Rattle.request_check.specs.Check.{mode_allowed, access_check, block_check, then_check, service_check, defined_check, row_check, named_check, element_check}
use Rattle.request_check.specs.Walk.{if_passed, bound_of, Bounds}
use Rattle.request_check.proofs.Cases.{service_is}
use Rattle.request_check.proofs.Rows.{within}

-- whether a check passed
abbrev pub passed : Result Unit Fault → Bool
passed (Ok tt) = true
passed (Err f) = false

pub passed_is : (c : Result Unit Fault) → passed c ≡ true → c ≡ Ok tt
passed_is (Ok tt) h = refl
passed_is (Err f) h = absurd (let z : ◌≡◌ {A = ℕ} 0 1 = cc in omega arith)

-- the checks that do not ask for the number
abbrev ahead_by : Row → Bool → Bool → ℕ → Option ServiceAttribute → Result Unit Fault
ahead_by w write «open» mode None = Err Attribute
ahead_by w write «open» mode (Some a) = cond (not w.found) (Err NoService) (access_check w.code a write «open» mode)

abbrev ahead : Row → Bool → Bool → ℕ → Result Unit Fault
ahead w write «open» mode = cond (not (mode_allowed write mode)) (Err AccessMode) (ahead_by w write «open» mode w.attribute)

module _ (w : Row) (write «open» : Bool) (mode : ℕ) where
  module _ (number : ℕ) where
    defined_splits : (d : Option ServiceAttribute) → defined_check w write «open» number mode d ≡ then_check (ahead_by w write «open» mode d) (block_check w.blocks number)
    defined_splits None = refl
    defined_splits (Some a) = by_found w.found (service_is w a write «open» number mode)
      where
        by_found : (f : Bool) → then_check (access_check w.code a write «open» mode) (block_check w.blocks number) ≡ service_check w a write «open» number mode →
            cond (not f) (Err NoService) (service_check w a write «open» number mode)
            ≡ then_check (cond (not f) (Err NoService) (access_check w.code a write «open» mode)) (block_check w.blocks number)
        by_found true e = sym e
        by_found false e = refl

    -- those, then the number
    row_splits : row_check w write «open» number mode ≡ then_check (ahead w write «open» mode) (block_check w.blocks number)
    unfolding row_check
    row_splits = by_mode (mode_allowed write mode) (defined_splits w.attribute)
      where
        by_mode : (m : Bool) →
            defined_check w write «open» number mode w.attribute ≡ then_check (ahead_by w write «open» mode w.attribute) (block_check w.blocks number) →
            cond (not m) (Err AccessMode) (defined_check w write «open» number mode w.attribute)
            ≡ then_check (cond (not m) (Err AccessMode) (ahead_by w write «open» mode w.attribute)) (block_check w.blocks number)
        by_mode true e = e
        by_mode false e = refl

  -- a number passes exactly where it is below the bound
  pub row_verdict : (number : ℕ) → passed (row_check w write «open» number mode) ≡ not (leb (bound_of w write «open» mode) number)
  unfolding bound_of
  row_verdict number = rw (row_splits number, row_splits 0) (by_ahead (ahead w write «open» mode) w.blocks number)
    where
      plain : (b : Bool) → passed (cond b (Err BlockNumber) (Ok tt)) ≡ not b
      plain true = refl
      plain false = refl

      by_blocks : (z : Bool) (blocks number : ℕ) → leb blocks 0 ≡ z →
          passed (block_check blocks number) ≡ not (leb (if_passed (cond z (Err BlockNumber) (Ok tt)) blocks) number)
      by_blocks true blocks number e =
          let n : blocks ≤ 0 = leb-true blocks 0 e in
          ap (λ (b : Bool). passed (cond b (Err BlockNumber) (Ok tt))) (le-leb blocks number (omega arith))
          ∙ ap not (sym (le-leb 0 number (omega arith)))
      by_blocks false blocks number e = plain (leb blocks number)

      by_ahead : (c : Result Unit Fault) (blocks number : ℕ) →
          passed (then_check c (block_check blocks number)) ≡ not (leb (if_passed (then_check c (block_check blocks 0)) blocks) number)
      by_ahead (Err f) blocks number = ap not (sym (le-leb 0 number (omega arith)))
      by_ahead (Ok tt) blocks number = by_blocks (leb blocks 0) blocks number refl

-- by way of no row, none may be named
if_none : (c : Result Unit Fault) → if_passed c 0 ≡ 0
if_none (Ok tt) = refl
if_none (Err f) = refl

pub no_row_bound : (write «open» : Bool) (mode : ℕ) → bound_of no_row write «open» mode ≡ 0
unfolding bound_of
no_row_bound write «open» mode = if_none (row_check no_row write «open» 0 mode)

-- in a mode over 1 none may be named
pub mode_bound : (w : Row) (write «open» : Bool) (mode : ℕ) → 2 ≤ mode → bound_of w write «open» mode ≡ 0
unfolding bound_of row_check mode_allowed
mode_bound w true «open» mode h = rw (le-ltb mode 2 h)
mode_bound w false «open» mode h = rw (ne_eqb mode 0 (λ q. omega arith))

-- an element passes exactly where its number is below the bound of its mode and row
pub verdict : (rows : List Row) (write «open» : Bool) (e : BlockListElement) →
    passed (element_check rows write «open» e) ≡ not (leb (bound_of (row_in rows e) write «open» e.mode) e.number)
unfolding element_check
verdict rows write «open» e = by_index (leb (length rows) e.index) refl
  where
    by_index : (b : Bool) → leb (length rows) e.index ≡ b →
        passed (cond b (Err ListIndex) (row_check (row_in rows e) write «open» e.number e.mode))
        ≡ not (leb (bound_of (row_in rows e) write «open» e.mode) e.number)
    by_index true k =
        let none : row_in rows e ≡ no_row = get_or-eq_default rows no_row (leb-true (length rows) e.index k) in
        let z = ap (λ (w : Row). bound_of w write «open» e.mode) none ∙ no_row_bound write «open» e.mode in
        ap not (sym (le-leb 0 e.number (omega arith))) ∙ ap (λ (x : ℕ). not (leb x e.number)) (sym z)
    by_index false k = row_verdict (row_in rows e) write «open» e.mode e.number

-- of the indices below i the bounds are filled in, for modes 0 and 1; the others are 0
abbrev pub Filled : (ℕ → ℕ → ℕ) → ℕ → List ℕ → Type 0
Filled bound i bounds = (mode k : ℕ) → k < 16 → get_or bounds (16 * mode + k) 0 ≡ cond (ltb k i) (bound mode k) 0

module _ (bound : ℕ → ℕ → ℕ) (over : (mode k : ℕ) → 2 ≤ mode → bound mode k ≡ 0) (i : ℕ) (bounds : List ℕ) (long : length bounds ≡ 128)
    (below : i < 16) (f : Filled bound i bounds) where
  abbrev after : List ℕ
  after = set (set bounds i (bound 0 i)) (16 + i) (bound 1 i)

  -- the index that is filled in
  own : (mode : ℕ) → get_or after (16 * mode + i) 0 ≡ bound mode i
  own zero =
      let e : 16 * 0 + i ≡ i = omega arith in
      ap (λ (x : ℕ). get_or after x 0) e
      ∙ get_or-set_other (set bounds i (bound 0 i)) (16 + i) i (bound 1 i) 0 (λ q. omega arith)
      ∙ get_or-set_same bounds i (bound 0 i) 0 (omega arith)
  own (suc zero) =
      let l : length (set bounds i (bound 0 i)) ≡ 128 = length-set bounds i (bound 0 i) ∙ long in
      let e : 16 * 1 + i ≡ 16 + i = omega arith in
      ap (λ (x : ℕ). get_or after x 0) e ∙ get_or-set_same (set bounds i (bound 0 i)) (16 + i) (bound 1 i) 0 (omega arith)
  own (suc (suc m)) =
      get_or-set_other (set bounds i (bound 0 i)) (16 + i) (16 * suc (suc m) + i) (bound 1 i) 0 (λ q. omega arith)
      ∙ get_or-set_other bounds i (16 * suc (suc m) + i) (bound 0 i) 0 (λ q. omega arith)
      ∙ f (suc (suc m)) i below
      ∙ ap (λ (b : Bool). cond b (bound (suc (suc m)) i) 0) (le-ltb i i (omega arith))
      ∙ sym (over (suc (suc m)) i (omega arith))

  -- any other
  other : (mode k : ℕ) → k < 16 → (k ≡ i → ⊥) → get_or after (16 * mode + k) 0 ≡ cond (ltb k i) (bound mode k) 0
  other mode k s ne =
      get_or-set_other (set bounds i (bound 0 i)) (16 + i) (16 * mode + k) (bound 1 i) 0 (λ q. ne (omega arith))
      ∙ get_or-set_other bounds i (16 * mode + k) (bound 0 i) 0 (λ q. ne (omega arith))
      ∙ f mode k s

  -- one index more is filled in
  fill_turn_lem : Filled bound (i + 1) after
  fill_turn_lem mode k s = elim (ℕ_discrete k i) [
    | yes e ↦
        ap (λ (x : ℕ). get_or after (16 * mode + x) 0) e
        ∙ own mode
        ∙ ap (λ (b : Bool). cond b (bound mode i) 0) (sym (lt-ltb i (i + 1) (omega arith)))
        ∙ ap (λ (x : ℕ). cond (ltb x (i + 1)) (bound mode x) 0) (sym e)
    | no ne ↦ other mode k s ne ∙ ap (λ (b : Bool). cond b (bound mode k) 0) (beside ne)
  ]
    where
      beside : (k ≡ i → ⊥) → ltb k i ≡ ltb k (i + 1)
      beside ne = elim (dec_lt k i) [
        | yes l ↦ lt-ltb k i l ∙ sym (lt-ltb k (i + 1) (omega arith))
        | no l ↦ elim (dec_lt i k) [
          | yes r ↦ le-ltb k i (omega arith) ∙ sym (le-ltb k (i + 1) (omega arith))
          | no r ↦ absurd (ne (omega arith))
        ]
      ]

  -- the same, by what the code puts there
  pub fill_more : {x y : ℕ} → x ≡ bound 0 i → y ≡ bound 1 i → Filled bound (i + 1) (set (set bounds i x) (16 + i) y)
  fill_more p q = rw (p, q) fill_turn_lem

-- the array keeps its length
pub fill_long : (x y i : ℕ) (bounds : List ℕ) → length bounds ≡ 128 → length (set (set bounds i x) (16 + i) y) ≡ 128
fill_long x y i bounds h = length-set (set bounds i x) (16 + i) y ∙ length-set bounds i x ∙ h

-- at first none is
pub fill_start : (bound : ℕ → ℕ → ℕ) (n : ℕ) → Filled bound 0 (replicate n 0)
fill_start bound n mode k s = zeros n (16 * mode + k) ∙ ap (λ (b : Bool). cond b (bound mode k) 0) (sym (le-ltb k 0 (omega arith)))
  where
    zeros : (n i : ℕ) → ◌≡◌ {A = ℕ} (get_or (replicate n 0) i 0) 0
    zeros n i = elim (dec_lt i n) [
      | yes l ↦ get_or-replicate n i 0 0 l
      | no l ↦ get_or-eq_default (replicate n 0) 0 (simp length-replicate (omega arith))
    ]

module _ (rows : List Row) (count : ℕ) (write «open» : Bool) where
  -- what a mode and an index may name, by the rows of a table
  abbrev pub bound_in : ℕ → ℕ → ℕ
  bound_in mode k = bound_of (row_at_index (take count rows) k) write «open» mode

  -- an index that is filled in, as the code reads its row
  pub bound_here : {x : ℕ} (mode i : ℕ) (z : Row) → length rows ≡ 16 → i < count → i < 16 → x ≡ bound_of (get_or rows i z) write «open» mode → x ≡ bound_in mode i
  bound_here mode i z l h k e = e ∙ rw (within rows count i z h (omega arith))

  -- all are filled in that there are rows for
  pub fill_end : (n : ℕ) (bounds : List ℕ) → length rows ≡ 16 → n ≡ min count 16 → Filled bound_in n bounds → Bounds (take count rows) write «open» bounds
  fill_end n bounds l h f mode k s = elim (dec_lt k n) [
    | yes p ↦ f mode k s ∙ ap (λ (b : Bool). cond b (bound_in mode k) 0) (lt-ltb k n p)
    | no p ↦
        let past : length (take count rows) ≤ k = simp length-take (omega arith) in
        let none : row_at_index (take count rows) k ≡ no_row = get_or-eq_default (take count rows) no_row past in
        f mode k s
        ∙ ap (λ (b : Bool). cond b (bound_in mode k) 0) (le-ltb k n (omega arith))
        ∙ sym (ap (λ (w : Row). bound_of w write «open» mode) none ∙ no_row_bound write «open» mode)
  ]

-- they are lent whole
pub lent : (rows : List Row) (write «open» : Bool) (bounds : List ℕ) → (length bounds ≡ 128) × Bounds rows write «open» bounds →
    Bounds rows write «open» (take 128 bounds)
lent rows write «open» bounds h = rw (take_all 128 bounds (omega (arith, h.0))) h.1

-- the bound of a row, by how the check of its block 0 ends
module _ (w : Row) (write «open» : Bool) (mode : ℕ) {c : Result Unit Fault} (told : c ≡ row_check w write «open» 0 mode) where
  pub bound_all : c ≡ Ok tt → w.blocks ≡ bound_of w write «open» mode
  unfolding bound_of
  bound_all h = rw (sym told ∙ h)

  pub bound_none : {f : Fault} → c ≡ Err f → 0 ≡ bound_of w write «open» mode
  unfolding bound_of
  bound_none h = rw (sym told ∙ h)
