-- A walk over the columns of the nodes comes to what the definitions say of the nodes.
use mathlib.Core.Path.{◌≡◌, refl, sym, ◌∙◌, ap}
use mathlib.Core.List.{List, [], ◌∷◌, map}
use mathlib.Core.Bool.{Bool, true, false, cond}
use lib.Dec.{eqb}
use mathlib.Core.Logic.{⊎_elim}
use Prim.Native.Nat.{ℕ, zero, suc, ◌+◌, ◌-◌, ◌<◌, min}
use native.Mathlib.Numerals.{add-one}
use native.Mathlib.Omega.{arith}
use lib.ListN.{length, take, drop, get_or}
use Rattle.card_nodes.specs.declared.node.Entry.{Entry}
use Rattle.card_nodes.specs.declared.node.Entry.TheVariants.{Area, Service}
use Rattle.card_nodes.specs.declared.node.Node.{Node}
use Rattle.card_nodes.specs.Node.{root_node, blocks_of}
use Rattle.card_questions.specs.declared.table.Column.{Column}
use Rattle.card_questions.specs.declared.table.Column.TheVariants.{Depth, Code, Second, Blocks}
use Rattle.card_laws.specs.Under.{span_under, sum_under}
use Rattle.card_questions.specs.Directory.{second_of, pair_of, pairs_under, directory_of, listed_of}
use Rattle.card_questions.specs.Table.{cell_of, span_below, past_of, pairs_from, own_at, sum_from}
use Rattle.card_laws.proofs.UnderLaws.{le-or-lt, take-most, spans, deeper, ends}
use Rattle.card_questions.proofs.ListingWorded.{pairs}
use Rattle.card_laws.proofs.TotalsWorded.{sums}

-- a column of some nodes, whatever it has of each, is that part of the column
pub cells_take : (f : Node → ℕ) (n : ℕ) (ns : List Node) → take n (map f ns) ≡ map f (take n ns)
cells_take f zero ns = refl
cells_take f (suc n) [] = refl
cells_take f (suc n) (x ∷ ns) = ap (λ (l : List ℕ). f x ∷ l) (cells_take f n ns)

pub column_take : (c : Column) (n : ℕ) (ns : List Node) → take n (map (cell_of c) ns) ≡ map (cell_of c) (take n ns)
column_take c = cells_take (cell_of c)

-- what is lent of a column of the 64 records is that column of the nodes
pub cells_lent_lem : (f : Node → ℕ) (nodes : List Node) (count : ℕ) {n : ℕ} {cells : List ℕ} → length nodes ≡ 64 → n ≡ min count 64 → cells ≡ map f nodes →
    take (n - 0) cells ≡ map f (take count nodes)
cells_lent_lem f nodes count {n = n} all p e =
    let m : n - 0 ≡ n = omega arith in
    let t : take n nodes ≡ take count nodes = rw p (take-most count 64 nodes all) in
    rw (e, m, cells_take f n nodes, t)

column_drop : (c : Column) (n : ℕ) (ns : List Node) → drop n (map (cell_of c) ns) ≡ map (cell_of c) (drop n ns)
column_drop c zero ns = refl
column_drop c (suc n) [] = refl
column_drop c (suc n) (x ∷ ns) = column_drop c n ns

-- what a column has at i is what it has of the node there
pub cells_read : (f : Node → ℕ) (ns : List Node) (i : ℕ) (z : Node) → i < length ns → get_or (map f ns) i 0 ≡ f (get_or ns i z)
cells_read f [] i z h = absurd (omega arith)
cells_read f (n ∷ ns) zero z h = refl
cells_read f (n ∷ ns) (suc i) z h = cells_read f ns i z (omega arith)

pub column_read : (c : Column) (ns : List Node) (i : ℕ) (z : Node) → i < length ns → get_or (map (cell_of c) ns) i 0 ≡ cell_of c (get_or ns i z)
column_read c = cells_read (cell_of c)

-- as many nodes lie under an area by their depths as by their records
span_column : (d : ℕ) (ns : List Node) → span_below d (map (cell_of Depth) ns) ≡ span_under d ns
unfolding span_below span_under
span_column d [] = refl
span_column d (n ∷ ns) = rw (span_column d ns)

-- the index past the nodes under the one at i
pub past_column : (ns : List Node) (i : ℕ) → i < length ns →
    past_of (map (cell_of Depth) ns) i ≡ i + 1 + span_under (get_or ns i root_node).depth (drop (i + 1) ns)
past_column ns i h =
    rw (column_read Depth ns i root_node h, column_drop Depth (i + 1) ns, span_column (get_or ns i root_node).depth (drop (i + 1) ns))

-- the first node is passed over
pairs_later : (x y : ℕ) (codes seconds : List ℕ) (i k : ℕ) → pairs_from (x ∷ codes) (y ∷ seconds) (suc i) k ≡ pairs_from codes seconds i k
unfolding pairs_from
pairs_later x y codes seconds i zero = refl
pairs_later x y codes seconds i (suc k) = rw (pairs_later x y codes seconds (suc i) k)

-- the pairs of the nodes under an area
pairs_column : (d : ℕ) (ns : List Node) → pairs_under d ns ≡ pairs_from (map (cell_of Code) ns) (map (cell_of Second) ns) 0 (span_under d ns)
unfolding pairs_from span_under pairs_under
pairs_column d [] = refl
pairs_column d (n ∷ ns) =
    ⊎_elim
    (λ k. rw (ends pairs d n ns k, ends spans d n ns k))
    (λ k.
    rw (deeper pairs d n ns k, deeper spans d n ns k, pairs_later n.code (second_of n.entry) (map (cell_of Code) ns) (map (cell_of Second) ns) 0 (span_under d ns))
    (ap (pair_of n) (pairs_column d ns)))
    (le-or-lt n.depth d)

module _ (ns : List Node) (h : 0 < length ns) where
  -- how many nodes the directory lists
  pub listed_column : past_of (map (cell_of Depth) ns) 0 ≡ listed_of ns
  unfolding listed_of
  listed_column = past_column ns 0 h ∙ go ns h
    where
      go : (l : List Node) → 0 < length l → 0 + 1 + span_under (get_or l 0 root_node).depth (drop (0 + 1) l) ≡ listed_of l
      go [] k = absurd (omega arith)
      go (n ∷ l) k = refl

  -- and its pairs
  pub directory_column : pairs_from (map (cell_of Code) ns) (map (cell_of Second) ns) 0 (listed_of ns) ≡ directory_of ns
  unfolding listed_of directory_of pairs_from
  directory_column = go ns h
    where
      go : (l : List Node) → 0 < length l → pairs_from (map (cell_of Code) l) (map (cell_of Second) l) 0 (listed_of l) ≡ directory_of l
      go [] k = absurd (omega arith)
      go (n ∷ l) k =
          let e : 1 + span_under n.depth l ≡ suc (span_under n.depth l) = omega arith in
          rw (e, pairs_later n.code (second_of n.entry) (map (cell_of Code) l) (map (cell_of Second) l) 0 (span_under n.depth l))
          (ap (pair_of n) (sym (pairs_column n.depth l)))

-- the first node is passed over
sum_later : (x y : ℕ) (seconds blocks : List ℕ) (i k : ℕ) → sum_from (x ∷ seconds) (y ∷ blocks) (suc i) k ≡ sum_from seconds blocks i k
unfolding sum_from own_at
sum_later x y seconds blocks i zero = refl
sum_later x y seconds blocks i (suc k) = rw (sum_later x y seconds blocks (suc i) k)

-- a node's own blocks; an area has none, whatever its end
own_column : (e : Entry) (seconds blocks : List ℕ) → own_at (second_of e ∷ seconds) (blocks_of e ∷ blocks) 0 ≡ blocks_of e
unfolding own_at
own_column (Area e) seconds blocks = either (eqb e 0xffff)
  where
    either : (b : Bool) → ◌≡◌ {A = ℕ} (cond b 0 0) 0
    either true = refl
    either false = refl
own_column (Service s b l) seconds blocks = refl

-- the blocks of the nodes under an area
sum_column : (d : ℕ) (ns : List Node) → sum_under d ns ≡ sum_from (map (cell_of Second) ns) (map (cell_of Blocks) ns) 0 (span_under d ns)
unfolding sum_from span_under sum_under
sum_column d [] = refl
sum_column d (n ∷ ns) =
    ⊎_elim
    (λ k. rw (ends sums d n ns k, ends spans d n ns k))
    (λ k.
    rw (
      deeper sums d n ns k,
      deeper spans d n ns k,
      sum_later (second_of n.entry) (blocks_of n.entry) (map (cell_of Second) ns) (map (cell_of Blocks) ns) 0 (span_under d ns),
      own_column n.entry (map (cell_of Second) ns) (map (cell_of Blocks) ns),
    ) (ap (λ (t : ℕ). blocks_of n.entry + t) (sum_column d ns)))
    (le-or-lt n.depth d)

-- of those that follow an index
sum_after_lem : (d : ℕ) (ns : List Node) (i : ℕ) →
    sum_under d (drop i ns) ≡ sum_from (map (cell_of Second) ns) (map (cell_of Blocks) ns) i (span_under d (drop i ns))
unfolding sum_under span_under sum_from
sum_after_lem d ns zero = sum_column d ns
sum_after_lem d [] (suc i) = refl
sum_after_lem d (n ∷ ns) (suc i) =
    sum_after_lem d ns i
    ∙ sym (sum_later (second_of n.entry) (blocks_of n.entry) (map (cell_of Second) ns) (map (cell_of Blocks) ns) i (span_under d (drop i ns)))

-- the total of the area at i
pub total_column : (ns : List Node) (i j : ℕ) → i < length ns → j ≡ past_of (map (cell_of Depth) ns) i →
    sum_from (map (cell_of Second) ns) (map (cell_of Blocks) ns) (i + 1) (j - (i + 1)) ≡ sum_under (get_or ns i root_node).depth (drop (i + 1) ns)
total_column ns i j h e =
    let s : j - (i + 1) ≡ span_under (get_or ns i root_node).depth (drop (i + 1) ns) = omega (arith, e, past_column ns i h) in
    rw s (sym (sum_after_lem (get_or ns i root_node).depth ns (i + 1)))
