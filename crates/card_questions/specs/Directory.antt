-- The directory as pairs.
use Rattle.std.specs.Prelude.{ℕ, ◌+◌, ◌*◌, List, [], ◌∷◌, cond, not, leb, ltb, length, Result, Ok, Err}
use Rattle.std.proofs.lemmas.List.Edits.{sets}
use Rattle.answers.specs.declared.refusal.Refusal.TheVariants.{ShortOutput, NotBuilt}
use Rattle.card_nodes.specs.declared.node.Entry.{Entry}
use Rattle.card_nodes.specs.declared.node.Entry.TheVariants.{Area, Service}
use Rattle.card_nodes.specs.declared.node.Node.{Node}
use Rattle.card_laws.specs.Under.{span_under}
use Rattle.card_build.specs.declared.card.Card.{Card}
use Rattle.card_build.specs.Card.{nodes_of, is_sound}
use Rattle.answers.specs.declared.refusal.Refusal.{Refusal}

-- area (code, end), service (code, FFFF)
abbrev pub second_of : Entry → ℕ
second_of (Area e) = e
second_of (Service s b l) = 0xffff

-- a node's pair, and what follows it
abbrev pub pair_of : Node → List ℕ → List ℕ
pair_of n rest = n.code ∷ second_of n.entry ∷ rest

-- the pairs of the nodes under an area of depth d
unfoldable pub pairs_under : ℕ → List Node → List ℕ
pairs_under d [] = []
pairs_under d (n ∷ ns) = cond (leb n.depth d) [] (pair_of n (pairs_under d ns))

-- the root and all under it
-- RULES 6.1
unfoldable pub directory_of : List Node → List ℕ
directory_of [] = []
directory_of (n ∷ ns) = pair_of n (pairs_under n.depth ns)

-- how many nodes that is
unfoldable pub listed_of : List Node → ℕ
listed_of [] = 0
listed_of (n ∷ ns) = 1 + span_under n.depth ns

-- 5 where the output has no pair per node
-- RULES 2.5
unfoldable pub listing_of : List Node → ℕ → Result ℕ Refusal
listing_of ns room = cond (ltb room (2 * length ns)) (Err ShortOutput) (Ok (listed_of ns))

-- the output after it: beyond the answer, and after a refusal, as it was
-- RULES 2.5
unfoldable pub out_after : List Node → List ℕ → List ℕ
out_after ns out = cond (ltb (length out) (2 * length ns)) out (sets out 0 (directory_of ns))

-- what a card answers, refusal 8 first
unfoldable pub directory_answer : Card → ℕ → Result ℕ Refusal
directory_answer c room = cond (not (is_sound c)) (Err NotBuilt) (listing_of (nodes_of c) room)

-- and its output
unfoldable pub directory_out : Card → List ℕ → List ℕ
directory_out c out = cond (not (is_sound c)) out (out_after (nodes_of c) out)
