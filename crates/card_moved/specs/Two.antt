-- Refusal 8 of a card of two systems, as a test of its 64 records. The first system's are those before record `at`, the second's those
-- from there up to `count`; the second's stores come after the first's.
use Rattle.std.specs.Prelude.{ℕ, ◌+◌, ◌≤◌, List, [], ◌∷◌, ◌++◌, Bool, true, false, cond, not, ◌≡◌, ltb, length, take, drop, replicate, Option, None}
use Rattle.byte_parts.specs.Sizes.{most_blocks}
use Rattle.card_nodes.specs.declared.node.Node.{Node}
use Rattle.card_nodes.specs.Node.{root_node}
use Rattle.card_sound.specs.Sound.{is_root, all_roots, then_step, steps_from, ends_at}
use Rattle.card_build.specs.declared.card.System.{System}
use Rattle.card_moved.specs.Own.{OwnCard}

-- the walk over one system's records, with so many blocks in use before them: a root, then those that the building gives; none is no system
unfoldable pub system_from : ℕ → List Node → Option ℕ
system_from begun [] = None
system_from begun (n ∷ ns) = cond (not (is_root n)) None (steps_from (n ∷ []) begun ns)

-- at most 64 records, unused ones after them, and a walk over them that ends with the blocks in use
unfoldable pub walked_sound : List Node → ℕ → ℕ → Option ℕ → Bool
walked_sound nodes count used walked =
    cond (ltb 64 count) false
    (cond (not (all_roots (drop count nodes))) false
    (ends_at used walked))

-- two walks, the second begun where the first ended; `sound_of` of one system is one walk, begun at 0 (proofs/Sound)
unfoldable pub sound_two : List Node → ℕ → ℕ → ℕ → Bool
sound_two nodes at count used =
    walked_sound nodes count used (then_step (system_from 0 (take at nodes)) (λ k. system_from k (drop at (take count nodes))))

-- Of records that pass, each system has a card of its own: the first's stores begin at block 0, the second's where those end, and these
-- end at the blocks in use. At most 64 records and 4,096 blocks serve both.
abbrev pub TwoOwned : Type 0
TwoOwned =
    (one two : System) (nodes : List Node) (at count used : ℕ)
    → sound_two nodes at count used ≡ true
    → (k : ℕ) × OwnCard one 0 k (take at nodes) × OwnCard two k used (drop at (take count nodes)) × (count ≤ 64) × (used ≤ most_blocks)

-- And back: two systems of which each has a card of its own, the second's stores after the first's, pass with any unused records after
-- them, where that many serve both.
abbrev pub OwnedPass : Type 0
OwnedPass =
    (one two : System) (k w n : ℕ) (ns ms : List Node)
    → OwnCard one 0 k ns
    → OwnCard two k w ms
    → length ns + length ms ≤ 64
    → w ≤ most_blocks
    → sound_two (ns ++ (ms ++ replicate n root_node)) (length ns) (length (ns ++ ms)) w ≡ true
