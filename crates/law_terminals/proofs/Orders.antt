-- A list of requests, each marked with its terminal, is an order of the two terminals' lists that keeps each one's own order, and
-- every such order is one. Assumes nothing.
use mathlib.Core.Path.{◌≡◌, refl, ap}
use mathlib.Core.List.{List, [], ◌∷◌}
use Rattle.law_terminals.specs.Orders.{Marked, by, one, two, only}

-- two lists are interleaved: at each step the next comes from the first of them or from the second
pub data Interleaved {X : Type 0} : List X → List X → List (Marked X) → Type 0 where
  none : Interleaved [] [] []
  first : {x : X} {ps qs : List X} {zs : List (Marked X)} → Interleaved ps qs zs → Interleaved (x ∷ ps) qs (by one x ∷ zs)
  second : {x : X} {ps qs : List X} {zs : List (Marked X)} → Interleaved ps qs zs → Interleaved ps (x ∷ qs) (by two x ∷ zs)

-- each marked list is its own two lists, interleaved
pub is_order : {X : Type 0} (zs : List (Marked X)) → Interleaved (only one zs) (only two zs) zs
unfolding only
is_order [] = none
is_order (by one x ∷ zs) = first (is_order zs)
is_order (by two x ∷ zs) = second (is_order zs)

-- two lists, interleaved in whatever way, are the two lists of the marked list
pub order_only : {X : Type 0} {ps qs : List X} {zs : List (Marked X)} → Interleaved ps qs zs → (only one zs ≡ ps) × (only two zs ≡ qs)
unfolding only
order_only none = (refl, refl)
order_only {X} (first {x = x} o) = let w = order_only o in (ap (λ (l : List X). x ∷ l) w.0, w.1)
order_only {X} (second {x = x} o) = let w = order_only o in (w.0, ap (λ (l : List X). x ∷ l) w.1)
