-- Areas and services among nodes.
use mathlib.Core.Path.{◌≡◌, refl, sym, ◌∙◌, ap}
use mathlib.Core.Bool.{Bool, true, false, cond}
use mathlib.Core.List.{List, [], ◌∷◌, ◌++◌, map}
use Prim.Native.Nat.{ℕ, suc, ◌+◌, ◌*◌, ◌≤◌}
use native.Mathlib.Omega.{arith}
use lib.ListN.{length, length-append, length-map}
use Rattle.card_nodes.specs.declared.node.Entry.{Entry}
use Rattle.card_nodes.specs.declared.node.Entry.TheVariants.{Area, Service}
use Rattle.card_nodes.specs.declared.node.Node.{Node}
use Rattle.card_nodes.specs.Node.{is_area, is_service}
use Rattle.card_questions.specs.ListingWorded.{pairs_of}
use Rattle.card_lists.specs.Packet.{among, areas_among, services_among, ranges_among, codes_among}

-- of two lists of nodes, one after the other
pub among-append : (is : Entry → Bool) (xs ys : List Node) → among is (xs ++ ys) ≡ among is xs ++ among is ys
unfolding among
among-append is [] ys = refl
among-append is (x ∷ xs) ys = by (is x.entry) (among-append is xs ys)
  where
    by : (t : Bool) → among is (xs ++ ys) ≡ among is xs ++ among is ys → cond t (x ∷ among is (xs ++ ys)) (among is (xs ++ ys)) ≡ cond t (x ∷ among is xs) (among is xs) ++ among is ys
    by true e = ap (λ (l : List Node). x ∷ l) e
    by false e = e

pub pairs-append : (xs ys : List Node) → pairs_of (xs ++ ys) ≡ pairs_of xs ++ pairs_of ys
unfolding pairs_of
pairs-append [] ys = refl
pairs-append (x ∷ xs) ys = rw (pairs-append xs ys)

pub map-append : (f : Node → ℕ) (xs ys : List Node) → map f (xs ++ ys) ≡ map f xs ++ map f ys
map-append f [] ys = refl
map-append f (x ∷ xs) ys = rw (map-append f xs ys)

-- a pair each
pub pairs-long : (xs : List Node) → length (pairs_of xs) ≡ 2 * length xs
unfolding pairs_of
pairs-long [] = refl
pairs-long (x ∷ xs) = omega (arith, pairs-long xs)

-- a node is an area or a service
pub all_among : (xs : List Node) → length (areas_among xs) + length (services_among xs) ≡ length xs
unfolding among
all_among [] = refl
all_among (x ∷ xs) = by x.entry (all_among xs)
  where
    by : (t : Entry) → length (areas_among xs) + length (services_among xs) ≡ length xs → length (cond (is_area t) (x ∷ areas_among xs) (areas_among xs)) + length (cond (is_service t) (x ∷ services_among xs) (services_among xs)) ≡ suc (length xs)
    by (Area e) h = omega (arith, h)
    by (Service s b l) h = omega (arith, h)

-- the same of ranges and codes
pub ranges-append : (xs ys : List Node) → ranges_among (xs ++ ys) ≡ ranges_among xs ++ ranges_among ys
ranges-append xs ys = rw (among-append is_area xs ys) (pairs-append (areas_among xs) (areas_among ys))

pub codes-append : (xs ys : List Node) → codes_among (xs ++ ys) ≡ codes_among xs ++ codes_among ys
codes-append xs ys = rw (among-append is_service xs ys) (map-append (λ (n : Node). n.code) (services_among xs) (services_among ys))

pub ranges-long : (xs : List Node) → length (ranges_among xs) ≡ 2 * length (areas_among xs)
ranges-long xs = pairs-long (areas_among xs)

pub codes-long : (xs : List Node) → length (codes_among xs) ≡ length (services_among xs)
codes-long xs = length-map (services_among xs) (λ (n : Node). n.code)
