-- A card's fields lie apart from each other, and inside its bytes.
use Rattle.std.proofs.Common.{Some, None}
use mathlib.Core.Path.{◌≡◌, refl, ◌∙◌}
use mathlib.Core.Bool.{false, cond}
use mathlib.Core.List.{List, [], ◌∷◌}
use mathlib.Core.Logic.{inr}
use Prim.Native.Nat.{ℕ, ◌+◌, ◌-◌, ◌*◌, ◌/◌, ◌%◌, ◌≤◌, ◌<◌}
use native.Mathlib.Omega.{arith}
use lib.Dec.{ltb}
use lib.ListN.{length}
use borrow.Author.Tests.{lt-ltb, le-ltb}
use Rattle.byte_parts.specs.Word.{word_bytes}
use Rattle.byte_parts.specs.Half.{half_bytes}
use Rattle.card_nodes.specs.declared.node.Entry.{Entry}
use Rattle.card_nodes.specs.declared.node.Entry.TheVariants.{Area, Service}
use Rattle.card_nodes.specs.declared.node.Node.{Node}
use Rattle.card_build.specs.declared.card.Card.{Card}
use Rattle.card_build.specs.Card.{nodes_of}
use Rattle.handset_bytes.specs.Layout.{card_size, kind_place, depth_place, code_place, version_place}
use Rattle.handset_bytes.specs.Field.{Field, field_of}
use Rattle.handset_bytes.specs.Node.{kind_byte, entry_fields, node_fields}
use Rattle.handset_bytes.specs.Card.{head_fields, nodes_fields, card_fields}
use Rattle.law_bytes.specs.Used.{is_covered}
use Rattle.law_bytes.proofs.Fields.{ne_true, covered-append, uncovered, Under, under, Apart, apart_append, Rising, rising_clear, rising_apart, Within, within-append}

-- which record a place belongs to, counted from 1; 0 for the header
unfoldable rank_of : ℕ → ℕ
rank_of p =
    cond (ltb p 32) 0 (cond (ltb p 800) (1 + (p - 32) % 128 / 2) (cond (ltb p 864) (1 + (p - 800)) (1 + (p - 864) % 256 / 4)))

module _ (p i : ℕ) (few : i < 64) where
  -- in the columns of two bytes
  rank_half : (c : ℕ) → c < 6 → 32 + 128 * c + 2 * i ≤ p → p < 34 + 128 * c + 2 * i → rank_of p ≡ i + 1
  unfolding rank_of
  rank_half c k l h = rw (le-ltb p 32 (omega arith), lt-ltb p 800 (omega arith)) (omega arith)

  -- of one
  rank_byte : 800 + i ≤ p → p < 801 + i → rank_of p ≡ i + 1
  unfolding rank_of
  rank_byte l h = rw (le-ltb p 32 (omega arith), le-ltb p 800 (omega arith), lt-ltb p 864 (omega arith)) (omega arith)

  -- and of four
  rank_word : (c : ℕ) → c < 2 → 864 + 256 * c + 4 * i ≤ p → p < 868 + 256 * c + 4 * i → rank_of p ≡ i + 1
  unfolding rank_of
  rank_word c k l h = rw (le-ltb p 32 (omega arith), le-ltb p 800 (omega arith), le-ltb p 864 (omega arith)) (omega arith)

module _ (i : ℕ) (few : i < 64) where
  -- the fields of a record belong to it
  entry_rank : (e : Entry) → Under (λ p. rank_of p ≡ i + 1) (entry_fields i e)
  unfolding half_bytes word_bytes
  entry_rank (Area end) = (λ p l h. rank_half p i few 2 (omega arith) (omega arith) (omega arith), tt)
  entry_rank (Service start blocks None) =
      (λ p l h. rank_half p i few 2 (omega arith) (omega arith) (omega arith), (λ p l h. rank_half p i few 3 (omega arith) (omega arith) (omega arith), tt))
  entry_rank (Service start blocks (Some limit)) = (
    λ p l h. rank_half p i few 2 (omega arith) (omega arith) (omega arith),
    (
      λ p l h. rank_half p i few 3 (omega arith) (omega arith) (omega arith),
      (
        λ p l h. rank_byte p i few (omega arith) (omega arith),
        (
          λ p l h. rank_word p i few 0 (omega arith) (omega arith) (omega arith),
          (λ p l h. rank_word p i few 1 (omega arith) (omega arith) (omega arith), tt),
        ),
      ),
    ),
  )

  node_rank : (n : Node) → Under (λ p. rank_of p ≡ i + 1) (node_fields i n)
  unfolding half_bytes node_fields
  node_rank n = (
    λ p l h. rank_half p i few 0 (omega arith) (omega arith) (omega arith),
    (
      λ p l h. rank_half p i few 0 (omega arith) (omega arith) (omega arith),
      (
        λ p l h. rank_half p i few 1 (omega arith) (omega arith) (omega arith),
        (
          λ p l h. rank_half p i few 4 (omega arith) (omega arith) (omega arith),
          entry_rank n.entry,
        ),
      ),
    ),
  )

  -- they rise, but for the key version
  entry_rising : (e : Entry) → Rising 288 (entry_fields i e)
  unfolding half_bytes word_bytes
  entry_rising (Area end) = (omega arith, tt)
  entry_rising (Service start blocks None) = (omega arith, (omega arith, tt))
  entry_rising (Service start blocks (Some limit)) =
      (omega arith, (omega arith, (omega arith, (omega arith, (omega arith, tt)))))

  -- which lies apart from what only an area has, or only a service
  version_clear : (e : Entry) (p : ℕ) → 544 ≤ p → p < 800 → is_covered (entry_fields i e) p ≡ false
  unfolding half_bytes word_bytes
  version_clear (Area end) p l h = uncovered _ _ p (inr (omega arith)) (rising_clear 800 [] p tt h)
  version_clear (Service start blocks None) p l h =
      uncovered _ _ p (inr (omega arith)) (uncovered _ _ p (inr (omega arith)) (rising_clear 800 [] p tt h))
  version_clear (Service start blocks (Some limit)) p l h =
      uncovered _ _ p (inr (omega arith)) (uncovered _ _ p (inr (omega arith)) (rising_clear 800 _ p (omega arith, (omega arith, (omega arith, tt))) h))

  -- so a record's fields lie apart
  node_apart : (n : Node) → Apart (node_fields i n)
  unfolding half_bytes node_fields
  node_apart n =
      let e = n.entry in
      let fs = field_of (kind_place i) (kind_byte e ∷ []) ∷ field_of (depth_place i) (n.depth ∷ []) ∷ field_of (code_place i) (half_bytes n.code) ∷ field_of (version_place i) (half_bytes n.version) ∷ [] in
      let r = entry_rising e in
      apart_append fs (entry_fields i e) (rising_apart 32 fs (omega arith, (omega arith, (omega arith, (omega arith, tt))))) (rising_apart 288 (entry_fields i e) r) (
        λ p l h. rising_clear 288 (entry_fields i e) p r (omega arith),
        (
          λ p l h. rising_clear 288 (entry_fields i e) p r (omega arith),
          (λ p l h. rising_clear 288 (entry_fields i e) p r (omega arith), (λ p l h. version_clear e p (omega arith) (omega arith), tt)),
        ),
      )

  -- and inside a card's bytes
  entry-within : (e : Entry) → Within card_size (entry_fields i e)
  unfolding half_bytes word_bytes
  entry-within (Area end) = (omega arith, tt)
  entry-within (Service start blocks None) = (omega arith, (omega arith, tt))
  entry-within (Service start blocks (Some limit)) =
      (omega arith, (omega arith, (omega arith, (omega arith, (omega arith, tt)))))

  node-within : (n : Node) → Within card_size (node_fields i n)
  unfolding half_bytes node_fields
  node-within n = (omega arith, (omega arith, (omega arith, (omega arith, entry-within n.entry))))

-- records from i on lie apart from those before them, and from the header
nodes_clear : (i : ℕ) (ns : List Node) (p : ℕ) → i + length ns ≤ 64 → rank_of p ≤ i → is_covered (nodes_fields i ns) p ≡ false
unfolding nodes_fields is_covered
nodes_clear i [] p few h = refl
nodes_clear i (n ∷ ns) p few h =
    let own : is_covered (node_fields i n) p ≡ false =
    ne_true (is_covered (node_fields i n) p) (λ e. let r = under (λ q. rank_of q ≡ i + 1) (node_fields i n) p (node_rank i (omega arith) n) e in omega arith) in
    covered-append (node_fields i n) (nodes_fields (i + 1) ns) p ∙ rw (own, nodes_clear (i + 1) ns p (omega arith) (omega arith))

-- what belongs to a record lies apart from later ones
ranked : (Q : ℕ → Type 0) (fs : List Field) (m : ℕ) → Under (λ p. rank_of p ≡ m) fs → ((p : ℕ) → rank_of p ≡ m → Q p) → Under Q fs
ranked Q [] m u h = tt
ranked Q (f ∷ fs) m u h = (λ p l k. h p (u.0 p l k), ranked Q fs m u.1 h)

nodes_apart : (i : ℕ) (ns : List Node) → i + length ns ≤ 64 → Apart (nodes_fields i ns)
unfolding nodes_fields
nodes_apart i [] few = tt
nodes_apart i (n ∷ ns) few =
    apart_append (node_fields i n) (nodes_fields (i + 1) ns) (node_apart i (omega arith) n) (nodes_apart (i + 1) ns (omega arith))
    (ranked (λ p. is_covered (nodes_fields (i + 1) ns) p ≡ false) (node_fields i n) (i + 1) (node_rank i (omega arith) n)
    (λ p r. nodes_clear (i + 1) ns p (omega arith) (omega arith)))

nodes-within : (i : ℕ) (ns : List Node) → i + length ns ≤ 64 → Within card_size (nodes_fields i ns)
unfolding nodes_fields
nodes-within i [] few = tt
nodes-within i (n ∷ ns) few =
    within-append card_size (node_fields i n) (nodes_fields (i + 1) ns) (node-within i (omega arith) n) (nodes-within (i + 1) ns (omega arith))

module _ (c : Card) where
  -- the header's fields rise
  head_rising : Rising 0 (head_fields c)
  unfolding half_bytes
  head_rising = (omega arith, (omega arith, (omega arith, (omega arith, (omega arith, (omega arith, tt))))))

  head_rank : Under (λ p. rank_of p ≡ 0) (head_fields c)
  unfolding half_bytes rank_of
  head_rank = (
    λ p l h. low p (omega arith),
    (
      λ p l h. low p (omega arith),
      (
        λ p l h. low p (omega arith),
        (
          λ p l h. low p (omega arith),
          (λ p l h. low p (omega arith), (λ p l h. low p (omega arith), tt)),
        ),
      ),
    ),
  )
    where
      low : (p : ℕ) → p < 32 → rank_of p ≡ 0
      low p h = rw (lt-ltb p 32 h)

  head_within_lem : Within card_size (head_fields c)
  unfolding half_bytes
  head_within_lem = (omega arith, (omega arith, (omega arith, (omega arith, (omega arith, (omega arith, tt))))))

  -- a card's fields lie apart
  pub card_apart : length (nodes_of c) ≤ 64 → Apart (card_fields c)
  unfolding card_fields
  card_apart few =
      apart_append (head_fields c) (nodes_fields 0 (nodes_of c)) (rising_apart 0 (head_fields c) head_rising) (nodes_apart 0 (nodes_of c) (omega arith))
      (ranked (λ p. is_covered (nodes_fields 0 (nodes_of c)) p ≡ false) (head_fields c) 0 head_rank (λ p r. nodes_clear 0 (nodes_of c) p (omega arith) (omega arith)))

  -- and inside its bytes
  pub card-within : length (nodes_of c) ≤ 64 → Within card_size (card_fields c)
  unfolding card_fields
  card-within few = within-append card_size (head_fields c) (nodes_fields 0 (nodes_of c)) head_within_lem (nodes-within 0 (nodes_of c) (omega arith))
