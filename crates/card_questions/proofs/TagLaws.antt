-- A search by a tag finds what a search among the nodes finds.
use Rattle.std.proofs.Common.{Option, Some, None, ltb, add-one}
use Rattle.std.specs.Prelude.{is_some}
use Rattle.std.specs.List.{position_from, position_or_len}
use Rattle.std.proofs.lemmas.Iterator.Adapters.{position_from-zero}
use mathlib.Core.Path.{◌≡◌, refl, sym, ap, ◌∙◌}
use mathlib.Core.Bool.{Bool, true, false, cond, ◌&&◌, and-true, and-false}
use mathlib.Core.List.{List, [], ◌∷◌, map}
use Prim.Native.Nat.{ℕ, suc, ◌+◌, ◌*◌, ◌<◌}
use native.Mathlib.Omega.{arith}
use lib.Dec.{eqb}
use lib.ListN.{length, get_or}
use borrow.Author.Tests.{eq-eqb, ne_eqb, eqb-true, eqb-false}
use Rattle.card_nodes.specs.declared.node.Entry.{Entry}
use Rattle.card_nodes.specs.declared.node.Entry.TheVariants.{Area, Service}
use Rattle.card_nodes.specs.declared.node.Node.{Node}
use Rattle.card_nodes.specs.Node.{is_area, is_service}
use Rattle.card_nodes.specs.Find.{first_from, is_service_of, is_area_of, service_of, area_of}
use Rattle.card_nodes.proofs.Searches.{Below, below_cond, in_range_lem}
use Rattle.card_questions.specs.Keys.{is_found}
use Rattle.card_questions.specs.Tags.{tag_as, tag_of, first_tag}

-- two tags of one kind are equal where their codes are
equal : (c code : ℕ) (b : Bool) → eqb c code ≡ b → (eqb (2 * c) (2 * code) ≡ b) × (eqb (2 * c + 1) (2 * code + 1) ≡ b)
equal c code true e = let q : c ≡ code = eqb-true c code e in (eq-eqb (2 * c) (2 * code) (omega arith), eq-eqb (2 * c + 1) (2 * code + 1) (omega arith))
equal c code false e =
    let q : c ≡ code → ⊥ = eqb-false c code e in
    (ne_eqb (2 * c) (2 * code) (λ h. q (omega arith)), ne_eqb (2 * c + 1) (2 * code + 1) (λ h. q (omega arith)))

-- a node has the tag of a service's code where it is such a service
service_tag : (code : ℕ) (n : Node) → eqb (tag_of n) (tag_as code true) ≡ is_service_of code n
service_tag code n = by n.entry
  where
    by : (t : Entry) → eqb (tag_as n.code (is_service t)) (2 * code + 1) ≡ (eqb n.code code && is_service t)
    by (Area e) = ne_eqb (2 * n.code) (2 * code + 1) (λ h. omega arith) ∙ sym (and-false (eqb n.code code))
    by (Service s b l) = (equal n.code code (eqb n.code code) refl).1 ∙ sym (and-true (eqb n.code code))

-- and so of an area's
area_tag : (code : ℕ) (n : Node) → eqb (tag_of n) (tag_as code false) ≡ is_area_of code n
area_tag code n = by n.entry
  where
    by : (t : Entry) → eqb (tag_as n.code (is_service t)) (2 * code) ≡ (eqb n.code code && is_area t)
    by (Area e) = (equal n.code code (eqb n.code code) refl).0 ∙ sym (and-true (eqb n.code code))
    by (Service s b l) = ne_eqb (2 * n.code + 1) (2 * code) (λ h. omega arith) ∙ sym (and-false (eqb n.code code))

module _ (t : ℕ) (test : Node → Bool) (same : (n : Node) → eqb (tag_of n) t ≡ test n) where
  searched : (i : ℕ) (ns : List Node) → first_tag t i (map tag_of ns) ≡ first_from test i ns
  unfolding first_tag first_from
  searched i [] = refl
  searched i (n ∷ ns) = rw (same n, searched (suc i) ns)

module _ (ns : List Node) {tags : List ℕ} (e : tags ≡ map tag_of ns) (code : ℕ) where
  pub tags_service : first_tag (tag_as code true) 0 tags ≡ service_of ns code
  tags_service = rw e (searched (tag_as code true) (is_service_of code) (service_tag code) 0 ns)

  pub tags_area : first_tag (tag_as code false) 0 tags ≡ area_of ns code
  tags_area = rw e (searched (tag_as code false) (is_area_of code) (area_tag code) 0 ns)

-- the first place of a tag is one of the places
tag_below : (t i : ℕ) (l : List ℕ) → Below (first_tag t i l) (i + length l)
unfolding first_tag
tag_below t i [] = tt
tag_below t i (x ∷ l) =
    let q : suc i + length l ≡ i + suc (length l) = omega arith in
    below_cond (eqb x t) (Some i) (first_tag t (suc i) l) (i + suc (length l)) (omega arith) (rw q at (tag_below t (suc i) l))

pub tag_inside : (t : ℕ) (l : List ℕ) {f : Option ℕ} {i : ℕ} → f ≡ first_tag t 0 l → f ≡ Some i → i < length l
tag_inside t l told e = in_range_lem (tag_below t 0 l) (sym told ∙ e)

-- a search of the library
positions : (t i : ℕ) (l : List ℕ) → position_from (λ x. eqb x t) i l ≡ first_tag t i l
unfolding first_tag
positions t i [] = refl
positions t i (x ∷ l) = rw add-one (ap (λ r. cond (eqb x t) (Some i) r) (positions t (suc i) l))

pub position_tag : (t : ℕ) (l : List ℕ) → cond (ltb (position_or_len (λ x. eqb x t) l) (length l)) (Some (position_or_len (λ x. eqb x t) l)) None ≡ first_tag t 0 l
position_tag t l = position_from-zero (λ x. eqb x t) l ∙ positions t 0 l

-- a place was found
pub some_found : (f : Option ℕ) → is_some f ≡ is_found f
some_found (Some i) = refl
some_found None = refl
