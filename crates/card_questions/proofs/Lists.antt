-- The two list checks, entry by entry.
use Rattle.std.proofs.Common.{Result, Ok}
use mathlib.Core.Path.{◌≡◌, refl, sym, ◌∙◌}
use mathlib.Core.Bool.{Bool, true, false, cond, not, ◌&&◌, ◌||◌, and-false, or-true, or-false}
use mathlib.Core.List.{List, [], ◌∷◌}
use Prim.Native.Nat.{ℕ, ◌+◌, ◌≤◌, ◌<◌}
use native.Mathlib.Omega.{arith}
use lib.ListN.{length, take, drop, get_or}
use lib.Seq.{take-length}
use Rattle.answers.specs.declared.refusal.Refusal.{Refusal}
use Rattle.card_nodes.specs.declared.node.Node.{Node}
use Rattle.card_nodes.specs.Find.{area_of}
use Rattle.card_nodes.proofs.Scan.{Left, here, turn, done}
use Rattle.card_questions.specs.declared.keys.ListNode.TheVariants.{Keyed, KeyFree, Unknown}
use Rattle.card_questions.specs.Keys.{is_found, area_or_system, all_areas, area_list_of, list_node_of, all_known, any_keyed, in_order, service_list_of, checked_by}

-- what is said of a list that is well formed, or is not
pub checked : (b : Bool) → ◌≡◌ {A = Result Bool Refusal} (Ok b) (checked_by b)
checked true = refl
checked false = refl

-- at i the answer of the whole list is that of what is left
abbrev pub InList : List ℕ → Bool → (List ℕ → Bool) → ℕ → Type 0
InList l whole answer i = Left l (length l) (length l) whole (λ j. answer) i

module _ (ns : List Node) where
  -- an empty area list
  pub no_area : (l : List ℕ) → length l ≡ 0 → false ≡ area_list_of ns l
  unfolding area_list_of
  no_area [] h = refl
  no_area (c ∷ cs) h = absurd (omega arith)

  -- its first is no area
  pub first_other_lem : (l : List ℕ) → 0 < length l → is_found (area_of ns (get_or l 0 0)) ≡ false → false ≡ area_list_of ns l
  unfolding area_list_of
  first_other_lem [] h e = absurd (omega arith)
  first_other_lem (c ∷ cs) h e = rw e

  -- its first is one
  pub first-area : (l : List ℕ) → 0 < length l → is_found (area_of ns (get_or l 0 0)) ≡ true → InList l (area_list_of ns l) (all_areas ns) 1
  unfolding area_list_of
  first-area [] h e = absurd (omega arith)
  first-area (c ∷ cs) h e = record { within = omega arith; all = omega arith; same = rw (e, take-length cs) }

  module _ {l : List ℕ} {whole : Bool} {i : ℕ} (left : InList l whole (all_areas ns) i) where
    -- a later one is neither an area nor FFFF
    pub later_other : i < length l → area_or_system ns (get_or l i 0) ≡ false → false ≡ whole
    unfolding all_areas
    later_other h e = rw e at (here left 0 h)

    -- a later one is
    pub later_area : i < length l → area_or_system ns (get_or l i 0) ≡ true → InList l whole (all_areas ns) (i + 1)
    unfolding all_areas
    later_area h e = turn left 0 (λ j. all_areas ns) h (λ rest. rw e)

    -- none is left
    pub areas-done : length l ≤ i → true ≡ whole
    unfolding all_areas
    areas-done h = done left h

  -- what is left of a service list is well formed, after entries of which one was keyed or none, one key-free or none
  abbrev pub rest_of : Bool → Bool → List ℕ → Bool
  rest_of keyed free cs = all_known ns cs && (cond free (not (any_keyed ns cs)) (in_order ns cs) && (keyed || any_keyed ns cs))

  -- no entry was read yet
  pub none_read : (l : List ℕ) → InList l (service_list_of ns l) (rest_of false false) 0
  unfolding service_list_of
  none_read l = record { within = omega arith; all = omega arith; same = rw (take-length l) }

  -- no entry is left
  pub last-read : (keyed free : Bool) → keyed ≡ rest_of keyed free []
  unfolding all_known any_keyed in_order
  last-read keyed true = sym (or-false keyed)
  last-read keyed false = sym (or-false keyed)

  -- a key-free entry asks that no keyed one follows, as an earlier one did
  free-asked : (free b : Bool) → cond free (not b) (not b) ≡ not b
  free-asked true b = refl
  free-asked false b = refl

  module _ {l : List ℕ} {whole : Bool} {i : ℕ} (keyed free : Bool) (left : InList l whole (rest_of keyed free) i) (h : i < length l) where
    -- an unknown entry
    pub unknown : list_node_of ns (get_or l i 0) ≡ Unknown → false ≡ whole
    unfolding all_known
    unknown e = rw e at (here left 0 h)

    -- a keyed entry after a key-free one
    pub disorder : list_node_of ns (get_or l i 0) ≡ Keyed → free ≡ true → false ≡ whole
    unfolding all_known any_keyed
    disorder e a = sym (and-false (all_known ns (drop (i + 1) (take (length l) l)))) ∙ rw (e, a) at (here left 0 h)

    -- a keyed entry before any key-free one
    pub keyed_read : (k f : Bool) → list_node_of ns (get_or l i 0) ≡ Keyed → free ≡ false → k ≡ true → f ≡ free → InList l whole (rest_of k f) (i + 1)
    unfolding all_known any_keyed in_order
    keyed_read k f e a p q = turn left 0 (λ j. rest_of k f) h (λ rest. rw (e, p, q, a, or-true keyed))

    -- a key-free entry
    pub free-read : (k f : Bool) → list_node_of ns (get_or l i 0) ≡ KeyFree → k ≡ keyed → f ≡ true → InList l whole (rest_of k f) (i + 1)
    unfolding all_known any_keyed in_order
    free-read k f e p q = turn left 0 (λ j. rest_of k f) h (λ rest. rw (e, p, q, free-asked free (any_keyed ns rest)))
