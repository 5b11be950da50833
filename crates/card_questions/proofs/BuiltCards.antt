-- What a card that was built answers: its directory is every node once, in order.
use Rattle.std.proofs.Common.{Ok}
use mathlib.Core.Path.{◌≡◌, refl, ◌∙◌, ap}
use mathlib.Core.List.{List, [], ◌∷◌}
use Prim.Native.Nat.{ℕ, suc, ◌*◌, ◌≤◌, ◌<◌}
use native.Mathlib.Omega.{arith}
use lib.ListN.{length, get_or}
use lib.Seq.{sets}
use borrow.Author.Tests.{le-ltb}
use Rattle.card_nodes.specs.declared.node.Node.{Node}
use Rattle.card_nodes.specs.Node.{root_node}
use Rattle.card_build.specs.declared.card.Card.{Card}
use Rattle.card_build.specs.Card.{nodes_of}
use Rattle.card_laws.specs.Built.{Built}
use Rattle.card_laws.proofs.Built.{built_sound}
use Rattle.card_laws.proofs.Laid.{Laid, sized, laid}
use Rattle.card_questions.specs.Directory.{directory_of, listed_of, listing_of, out_after, directory_answer, directory_out}
use Rattle.card_questions.specs.ListingWorded.{pairs_of}
use Rattle.card_questions.proofs.ListingWorded.{all_listed, all_counted_lem}

-- every node after the root is deeper than the root
under_root : (n : Node) (ns : List Node) {used : ℕ} → Laid (n ∷ ns) used → (k : ℕ) → k < length ns → n.depth < (get_or ns k root_node).depth
under_root n ns l k h =
    let root : n.depth ≡ 0 = ap (λ (m : Node). m.depth) l.root in
    let deep = l.deep (suc k) (omega arith) (omega arith) in
    omega (arith, root, deep.low)

pairs_laid : (ns : List Node) {used : ℕ} → Laid ns used → directory_of ns ≡ pairs_of ns
pairs_laid [] l = absurd (omega (arith, l.some))
pairs_laid (n ∷ ns) l = all_listed n ns (under_root n ns l)

count_laid : (ns : List Node) {used : ℕ} → Laid ns used → listed_of ns ≡ length ns
count_laid [] l = absurd (omega (arith, l.some))
count_laid (n ∷ ns) l = all_counted_lem n ns (under_root n ns l)

module _ {c : Card} (b : Built c) where
  -- the directory of a built card is the pairs of all its nodes, each once, in tree order
  pub directory-all : directory_of (nodes_of c) ≡ pairs_of (nodes_of c)
  directory-all = pairs_laid (nodes_of c) (laid b)

  module _ (out : List ℕ) (h : 2 * c.count ≤ length out) where
    fits : 2 * length (nodes_of c) ≤ length out
    fits = omega (arith, (sized b).nodes)

    -- with a pair of room for each node, all are listed
    pub all-answered : directory_answer c (length out) ≡ Ok c.count
    unfolding directory_answer listing_of
    all-answered =
        rw (built_sound b, le-ltb (length out) (2 * length (nodes_of c)) fits) (ap Ok (count_laid (nodes_of c) (laid b) ∙ (sized b).nodes))

    -- and the pairs are written from the output's first number on
    pub all-written : directory_out c out ≡ sets out 0 (pairs_of (nodes_of c))
    unfolding directory_out out_after
    all-written = rw (built_sound b, le-ltb (length out) (2 * length (nodes_of c)) fits, directory-all)
