-- What the searches among the nodes of a system find.
use Rattle.std.proofs.Common.{Option, Some, None}
use mathlib.Core.Path.{◌≡◌, refl, sym, ◌∙◌, ap, subst}
use mathlib.Core.Bool.{Bool, true, false, cond, not, ◌&&◌}
use mathlib.Core.List.{List, [], ◌∷◌, ◌++◌, map}
use Prim.Native.Nat.{ℕ, zero, suc, ◌+◌, ◌≤◌, ◌<◌}
use native.Mathlib.Omega.{arith}
use native.Mathlib.Nat.{add-zero}
use lib.Dec.{ltb, eqb}
use lib.ListN.{length, get_or}
use Rattle.service_code.specs.Code.{number_of}
use Rattle.card_nodes.specs.declared.node.Entry.{Entry}
use Rattle.card_nodes.specs.declared.node.Entry.TheVariants.{Area, Service}
use Rattle.card_nodes.specs.declared.node.Node.{Node}
use Rattle.card_nodes.specs.Node.{root_node, is_area, is_service}
use Rattle.card_nodes.specs.Find.{is_service_of, is_area_of, is_sharer_of, first_from, or_else, service_of, area_of, shared_of, area_at, open_at, parent_from}

-- an index that was found is below n
abbrev pub Below : Option ℕ → ℕ → Type 0
Below (Some p) n = p < n
Below None n = Unit {0}

-- and so below any larger number
below_wider : (f : Option ℕ) {n m : ℕ} → n ≤ m → Below f n → Below f m
below_wider (Some p) h b = omega arith
below_wider None h b = tt

-- one of two that are
pub below_cond : (b : Bool) (f g : Option ℕ) (n : ℕ) → Below f n → Below g n → Below (cond b f g) n
below_cond true f g n x y = x
below_cond false f g n x y = y

-- an area that is found at i
below_area : (e : Entry) (i : ℕ) → Below (area_at e i) (suc i)
below_area (Area e) i = omega arith
below_area (Service s b l) i = tt

-- the first node that passes a test is one of the nodes
pub first_below : (t : Node → Bool) (i : ℕ) (ns : List Node) → Below (first_from t i ns) (i + length ns)
unfolding first_from
first_below t i [] = tt
first_below t i (n ∷ ns) =
    below_cond (t n) (Some i) (first_from t (suc i) ns) (i + suc (length ns)) (omega arith)
    (below_wider (first_from t (suc i) ns) (omega arith) (first_below t (suc i) ns))

-- a parent is one of the nodes
pub parent_below : (depth : ℕ) (f : Option ℕ) (i : ℕ) (ns : List Node) → Below f i → Below (parent_from depth f i ns) (i + length ns)
unfolding parent_from open_at
parent_below depth f i [] h = below_wider f (omega arith) h
parent_below depth f i (n ∷ ns) h =
    let g = cond (ltb n.depth depth) (open_at n depth i) f in
    below_wider (parent_from depth g (suc i) ns) (omega arith)
    (parent_below depth g (suc i) ns
    (below_cond (ltb n.depth depth) _ f (suc i)
    (below_cond (eqb (n.depth + 1) depth) _ None (suc i) (below_area n.entry i) tt)
    (below_wider f (omega arith) h)))

-- where an index was found, it is in range
pub in_range_lem : {f : Option ℕ} {n p : ℕ} → Below f (0 + n) → f ≡ Some p → p < n
in_range_lem {n = n} b e = let k = subst (λ (g : Option ℕ). Below g (0 + n)) e b in omega (arith, k)

-- nothing is no place
never : {A : Type 0} {p : ℕ} → None ≡ Some p → A
never e = absurd (let z : ◌≡◌ {A = ℕ} 0 1 = cc in (omega arith))

-- p is the first node that passes a test
pub record First (t : Node → Bool) (ns : List Node) (p : ℕ) : Type 0 where
  pub within : p < length ns
  pub passes : t (get_or ns p root_node) ≡ true
  pub before : (k : ℕ) → k < p → t (get_or ns k root_node) ≡ false

module _ {t : Node → Bool} {n : Node} {ns : List Node} where
  -- the first of all, if it passes
  first_head : t n ≡ true → First t (n ∷ ns) 0
  first_head e = record { within = omega arith; passes = e; before = λ k h. absurd (omega arith) }

  -- and else the first of those after it
  first_tail : {k : ℕ} → t n ≡ false → First t ns k → First t (n ∷ ns) (suc k)
  first_tail {k = k} e f = record { within = omega arith; passes = f.passes; before = before }
    where
      before : (j : ℕ) → j < suc k → t (get_or (n ∷ ns) j root_node) ≡ false
      before zero h = e
      before (suc j) h = f.before j (omega arith)

-- p is the first node that passes a test, counted from i
abbrev pub FirstFrom : (Node → Bool) → ℕ → List Node → ℕ → Type 0
FirstFrom t i ns p = (k : ℕ) × (i + k ≡ p) × First t ns k

-- one node of the search
first_step : (t : Node → Bool) (i : ℕ) (n : Node) (ns : List Node) {p : ℕ} (b : Bool) → t n ≡ b →
    (first_from t (suc i) ns ≡ Some p → FirstFrom t (suc i) ns p) → cond b (Some i) (first_from t (suc i) ns) ≡ Some p → FirstFrom t i (n ∷ ns) p
first_step t i n ns {p = p} true h rest e = let q : i ≡ p = cc in (0, omega arith, first_head h)
first_step t i n ns false h rest e = let r = rest e in (suc r.0, omega (arith, r.1), first_tail h r.2)

-- what a search finds is the first node that passes its test
pub first-from : (t : Node → Bool) (i : ℕ) (ns : List Node) {p : ℕ} → first_from t i ns ≡ Some p → FirstFrom t i ns p
unfolding first_from
first-from t i [] e = never e
first-from t i (n ∷ ns) e = first_step t i n ns (t n) refl (first-from t (suc i) ns) e

-- the same from 0
pub first_found : (t : Node → Bool) (ns : List Node) {p : ℕ} → first_from t 0 ns ≡ Some p → First t ns p
first_found t ns {p = p} e =
    let r = first-from t 0 ns e in
    let q : r.0 ≡ p = omega (arith, r.1) in
    subst (First t ns) q r.2

-- where a test was passed, something was found
none_step : (b : Bool) (i : ℕ) {f : Option ℕ} → cond b (Some i) f ≡ None → (b ≡ false) × (f ≡ None)
none_step true i e = never (sym e)
none_step false i e = (refl, e)

-- where a search finds nothing, every node fails its test
pub none_found : (t : Node → Bool) (i : ℕ) (ns : List Node) → first_from t i ns ≡ None →
    (k : ℕ) → k < length ns → t (get_or ns k root_node) ≡ false
unfolding first_from
none_found t i [] e k h = absurd (omega arith)
none_found t i (n ∷ ns) e zero h = (none_step (t n) i e).0
none_found t i (n ∷ ns) e (suc k) h = none_found t (suc i) ns (none_step (t n) i e).1 k (omega arith)

-- it passes through a test
or-cond : (b : Bool) (i : ℕ) (f g : Option ℕ) → cond b (Some i) (or_else f g) ≡ or_else (cond b (Some i) f) g
or-cond true i f g = refl
or-cond false i f g = refl

-- nodes added at the end are searched where those before them hold nothing
pub first-append : (t : Node → Bool) (i : ℕ) (ns ms : List Node) →
    first_from t i (ns ++ ms) ≡ or_else (first_from t i ns) (first_from t (i + length ns) ms)
unfolding first_from
first-append t i [] ms = rw (add-zero i)
first-append t i (n ∷ ns) ms =
    let e : i + suc (length ns) ≡ suc i + length ns = omega arith in
    rw (first-append t (suc i) ns ms, e) (or-cond (t n) i (first_from t (suc i) ns) (first_from t (suc i + length ns) ms))

module _ (t : Node → Bool) (i : ℕ) (ns ms : List Node) where
  -- so what was found stays
  pub first-kept : {p : ℕ} → first_from t i ns ≡ Some p → first_from t i (ns ++ ms) ≡ Some p
  first-kept e = rw (first-append t i ns ms, e)

  -- and where nothing was, they alone are searched
  pub first-after : first_from t i ns ≡ None → first_from t i (ns ++ ms) ≡ first_from t (i + length ns) ms
  first-after e = rw (first-append t i ns ms, e)

-- nodes added at the end go on from the parent by those before them
pub parent_append : (depth : ℕ) (f : Option ℕ) (i : ℕ) (ns ms : List Node) →
    parent_from depth f i (ns ++ ms) ≡ parent_from depth (parent_from depth f i ns) (i + length ns) ms
unfolding parent_from
parent_append depth f i [] ms = rw (add-zero i)
parent_append depth f i (n ∷ ns) ms =
    let e : i + suc (length ns) ≡ suc i + length ns = omega arith in
    rw (parent_append depth (cond (ltb n.depth depth) (open_at n depth i) f) (suc i) ns ms, e)

-- the place of the first true
abbrev first_true : ℕ → List Bool → Option ℕ
first_true i [] = None
first_true i (b ∷ bs) = cond b (Some i) (first_true (suc i) bs)

-- a search asks of each node only whether it passes
first_true_lem : (t : Node → Bool) (i : ℕ) (ns : List Node) → first_from t i ns ≡ first_true i (map t ns)
unfolding first_from
first_true_lem t i [] = refl
first_true_lem t i (n ∷ ns) = rw (first_true_lem t (suc i) ns)

-- lists whose nodes pass and fail alike give the same place
pub first-map : (t : Node → Bool) (i : ℕ) (ns ms : List Node) → map t ns ≡ map t ms → first_from t i ns ≡ first_from t i ms
first-map t i ns ms e = first_true_lem t i ns ∙ ap (first_true i) e ∙ sym (first_true_lem t i ms)

-- all of a node that a search looks at
pub record Look : Type 0 where
  pub depth : ℕ
  pub code : ℕ
  pub area : Bool

-- that of a node
abbrev pub look : Node → Look
look n = record { depth = n.depth; code = n.code; area = is_area n.entry }

-- lists that look alike give the same place, by a test that only looks
first_look_lem : (t : Node → Bool) (seen : Look → Bool) → ((n : Node) → t n ≡ seen (look n)) → (ns ms : List Node) →
    map look ns ≡ map look ms → first_from t 0 ns ≡ first_from t 0 ms
first_look_lem t seen h ns ms e = first-map t 0 ns ms (by_look_lem ns ∙ ap (map seen) e ∙ sym (by_look_lem ms))
  where
    by_look_lem : (l : List Node) → map t l ≡ map seen (map look l)
    by_look_lem [] = refl
    by_look_lem (n ∷ l) = rw (h n, by_look_lem l)

-- a service is what is no area
no_area : (e : Entry) → is_service e ≡ not (is_area e)
no_area (Area e) = refl
no_area (Service s b l) = refl

-- so no search tells lists apart that look alike. Of a node that is replaced, `map-set_same look` of lib.Seq says that they do
module _ (code : ℕ) (ns ms : List Node) (e : map look ns ≡ map look ms) where
  -- the first service of a code
  pub service_look : service_of ns code ≡ service_of ms code
  service_look = first_look_lem (is_service_of code) (λ l. eqb l.code code && not l.area) (λ n. rw (no_area n.entry)) ns ms e

  -- the first area of a code
  pub area_look : area_of ns code ≡ area_of ms code
  area_look = first_look_lem (is_area_of code) (λ l. eqb l.code code && l.area) (λ n. refl) ns ms e

  -- the first service of a number
  pub shared_look : shared_of ns code ≡ shared_of ms code
  shared_look =
      first_look_lem (is_sharer_of code) (λ l. eqb (number_of l.code) (number_of code) && not l.area)
      (λ n. rw (no_area n.entry)) ns ms e

-- an area is found by being one
pub area-seen : (e : Entry) (i : ℕ) → area_at e i ≡ cond (is_area e) (Some i) None
area-seen (Area e) i = refl
area-seen (Service s b l) i = refl

-- the parent, by what the search looks at
abbrev parent_seen : ℕ → Option ℕ → ℕ → List Look → Option ℕ
parent_seen depth f i [] = f
parent_seen depth f i (l ∷ ls) =
    parent_seen depth (cond (ltb l.depth depth) (cond (eqb (l.depth + 1) depth) (cond l.area (Some i) None) None) f) (suc i) ls

-- it looks at no more
parent_seen_lem : (depth : ℕ) (f : Option ℕ) (i : ℕ) (ns : List Node) → parent_from depth f i ns ≡ parent_seen depth f i (map look ns)
unfolding parent_from open_at
parent_seen_lem depth f i [] = refl
parent_seen_lem depth f i (n ∷ ns) =
    rw (parent_seen_lem depth (cond (ltb n.depth depth) (open_at n depth i) f) (suc i) ns, area-seen n.entry i)

-- and no parent tells them apart
pub parent_look : (depth : ℕ) (f : Option ℕ) (i : ℕ) (ns ms : List Node) → map look ns ≡ map look ms →
    parent_from depth f i ns ≡ parent_from depth f i ms
parent_look depth f i ns ms e = parent_seen_lem depth f i ns ∙ ap (parent_seen depth f i) e ∙ sym (parent_seen_lem depth f i ms)
