-- The nodes as columns of numbers, and what a walk over them comes to.
use Rattle.std.specs.Prelude.{ℕ, zero, suc, ◌+◌, List, [], ◌∷◌, map, ◌≡◌, cond, eqb, leb, drop, get_or}
use Rattle.card_nodes.specs.declared.node.Node.{Node}
use Rattle.card_nodes.specs.Node.{blocks_of}
use Rattle.card_questions.specs.declared.table.Column.{Column}
use Rattle.card_questions.specs.declared.table.Column.TheVariants.{Depth, Code, Second, Blocks}
use Rattle.card_questions.specs.Directory.{second_of}
use Rattle.card_questions.specs.Tags.{OfTags}

-- what a column has of a node
abbrev pub cell_of : Column → Node → ℕ
cell_of Depth n = n.depth
cell_of Code n = n.code
cell_of Second n = second_of n.entry
cell_of Blocks n = blocks_of n.entry

-- of the nodes that follow an area of depth d, by their depths: how many lie under it
unfoldable pub span_below : ℕ → List ℕ → ℕ
span_below d [] = 0
span_below d (e ∷ es) = cond (leb e d) 0 (suc (span_below d es))

-- the index past those under the area at an index
abbrev pub past_of : List ℕ → ℕ → ℕ
past_of depths at = at + 1 + span_below (get_or depths at 0) (drop (at + 1) depths)

-- the pairs of k nodes from i on
unfoldable pub pairs_from : List ℕ → List ℕ → ℕ → ℕ → List ℕ
pairs_from codes seconds i zero = []
pairs_from codes seconds i (suc k) = get_or codes i 0 ∷ get_or seconds i 0 ∷ pairs_from codes seconds (suc i) k

-- the blocks of a service, which FFFF tells from an area
unfoldable pub own_at : List ℕ → List ℕ → ℕ → ℕ
own_at seconds blocks i = cond (eqb (get_or seconds i 0) 0xffff) (get_or blocks i 0) 0

-- those of k nodes from i on
unfoldable pub sum_from : List ℕ → List ℕ → ℕ → ℕ → ℕ
sum_from seconds blocks i zero = 0
sum_from seconds blocks i (suc k) = own_at seconds blocks i + sum_from seconds blocks (suc i) k

-- what holds of nodes, of any that have these tags, depths, second numbers and blocks
abbrev pub OfColumns : List ℕ → List ℕ → List ℕ → List ℕ → (List Node → Type 0) → Type 0
OfColumns tags depths seconds blocks holds =
    OfTags tags (λ ns. depths ≡ map (cell_of Depth) ns → seconds ≡ map (cell_of Second) ns → blocks ≡ map (cell_of Blocks) ns → holds ns)
