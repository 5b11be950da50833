-- Runs of calls: they leave what the definition says, so two terminals' runs are apart, and the tower's read is left what was written
-- last. Read specs/Runs.antt for the statements: `TwoRuns` and `TowerRuns`. The laws `two_runs` and `tower_runs` say that they hold of
-- every card.
use Prim.Native.Nat.{ℕ}
use native.Mathlib.Omega.{arith}
use mathlib.Core.Path.{◌≡◌, refl, sym, ap, ap₂, subst, ◌∙◌}
use mathlib.Core.Bool.{true}
use mathlib.Core.List.{List, [], ◌∷◌, ◌++◌, map}
use mathlib.Core.Logic.{inl, inr}
use lib.ListN.{length}
use Rattle.card_build.specs.declared.card.Card.{Card}
use Rattle.request_plan.specs.declared.Reply.TheVariants.{Done}
use Rattle.request_plan.specs.Request.{Request}
use Rattle.law_terminals.specs.Orders.{Terminal, one, two, Marked, by, only, all, after, answers, told, Undisturbed}
use Rattle.law_terminals.specs.Two.{Answer, answer_of, arena_after, Any, All, Names, NoneShared}
use Rattle.law_terminals.specs.Last.{NamesBlock, Quiet, arena_then, Redrawn}
use Rattle.law_terminals.specs.Runs.{Exchange, calls_of, RanAlong, requests_of, TwoRuns, TowerRuns}
use Rattle.law_terminals.proofs.Two.{left_of, arena_of, two_askers}
use Rattle.law_terminals.proofs.Last.{tower_given, tower_out}

abbrev lefts_of : {K L : Type 0} → List (Exchange K L) → List L
lefts_of {K} {L} xs = map (λ (x : Exchange K L). x.left) xs

-- exchanges are their calls and what these left
exchanges_same : {K L : Type 0} (xs ys : List (Exchange K L)) → calls_of xs ≡ calls_of ys → lefts_of xs ≡ lefts_of ys → xs ≡ ys
exchanges_same [] [] p q = refl
exchanges_same [] (y ∷ ys) p q = absurd (let z : ◌≡◌ {A = ℕ} 0 1 = cc in (omega arith))
exchanges_same (x ∷ xs) [] p q = absurd (let z : ◌≡◌ {A = ℕ} 0 1 = cc in (omega arith))
exchanges_same (x ∷ xs) (y ∷ ys) p q =
    let a : x.call ≡ y.call = cc in
    let b : x.left ≡ y.left = cc in
    let cs : calls_of xs ≡ calls_of ys = cc in
    let ls : lefts_of xs ≡ lefts_of ys = cc in
    λ i. record { call = a i; left = b i } ∷ exchanges_same xs ys cs ls i

-- each of an order, made into something else
unfoldable each_of : {X Y : Type 0} → (X → Y) → List (Marked X) → List (Marked Y)
each_of f [] = []
each_of f (by t x ∷ zs) = by t (f x) ∷ each_of f zs

only_each : {X Y : Type 0} (f : X → Y) (t : Terminal) (zs : List (Marked X)) → only t (each_of f zs) ≡ map f (only t zs)
unfolding only each_of
only_each f one [] = refl
only_each f two [] = refl
only_each {Y = Y} f one (by one x ∷ zs) = ap (λ (l : List Y). f x ∷ l) (only_each f one zs)
only_each f one (by two x ∷ zs) = only_each f one zs
only_each f two (by one x ∷ zs) = only_each f two zs
only_each {Y = Y} f two (by two x ∷ zs) = ap (λ (l : List Y). f x ∷ l) (only_each f two zs)

all_each : {X Y : Type 0} (f : X → Y) (zs : List (Marked X)) → all (each_of f zs) ≡ map f (all zs)
unfolding all each_of
all_each f [] = refl
all_each {Y = Y} f (by t x ∷ zs) = ap (λ (l : List Y). f x ∷ l) (all_each f zs)

-- one of a list that was made into something else
any_map_lem : {X Y Z : Type 0} (f : X → Y) (g : Y → Z) (F : Z → Type 0) (xs : List X) → Any (λ y. F (g y)) (map f xs) → Any F (map (λ x. g (f x)) xs)
any_map_lem f g F [] h = h
any_map_lem f g F (x ∷ xs) (inl h) = inl h
any_map_lem f g F (x ∷ xs) (inr h) = inr (any_map_lem f g F xs h)

pub after-append : {S R A : Type 0} (answer : S → R → A) (next : S → R → S) (s : S) (rs qs : List R) →
    after answer next s (rs ++ qs) ≡ after answer next (after answer next s rs) qs
unfolding after
after-append answer next s [] qs = refl
after-append answer next s (r ∷ rs) qs = after-append answer next (next s r) rs qs

map-append : {X Y : Type 0} (f : X → Y) (xs ys : List X) → map f (xs ++ ys) ≡ map f xs ++ map f ys
map-append f [] ys = refl
map-append {Y = Y} f (x ∷ xs) ys = ap (λ (l : List Y). f x ∷ l) (map-append f xs ys)

module _ (c : Card) {K L : Type 0} (ask : K → Request) (leave : K → Answer → L) where
  -- what a call leaves, and the arena after it, by the definition
  abbrev left : List ℕ → K → L
  left = left_of c ask leave

  abbrev next : List ℕ → K → List ℕ
  next = arena_of c ask leave

  -- a run leaves what the definition says
  ran_is : (xs : List (Exchange K L)) (a e : List ℕ) → RanAlong c ask leave a xs e →
      (lefts_of xs ≡ answers left next a (calls_of xs)) × (e ≡ after left next a (calls_of xs))
  unfolding answers after
  ran_is [] a e r = (refl, r)
  ran_is (x ∷ xs) a e (b, k, r) =
      let w = rw k.1 at (ran_is xs b e r) in
      (ap₂ (λ (y : L) (l : List L). y ∷ l) k.0 w.0, w.1)

  -- and a run of both terminals' calls
  ran-told : (zs : List (Marked (Exchange K L))) (a e : List ℕ) → RanAlong c ask leave a (all zs) e →
      each_of (λ x. x.left) zs ≡ told left next a (each_of (λ x. x.call) zs)
  unfolding all told each_of
  ran-told [] a e r = refl
  ran-told (by t x ∷ zs) a e (b, k, r) =
      ap₂ (λ (y : L) (l : List (Marked L)). by t y ∷ l) k.0 (rw k.1 at (ran-told zs b e r))

  -- every list of calls has a run, so the laws on runs speak of something
  pub run_of : (ks : List K) (a : List ℕ) → (xs : List (Exchange K L)) × (e : List ℕ) × RanAlong c ask leave a xs e × (calls_of xs ≡ ks)
  run_of [] a = ([], a, refl, refl)
  run_of (k ∷ ks) a =
      let w = run_of ks (next a k) in (
        record { call = k; left = left a k } ∷ w.0,
        w.1,
        (next a k, (refl, refl), w.2),
        ap (λ (l : List K). k ∷ l) w.3,
      )

  module _ (z : length c.nodes ≡ 64) where
    -- Two terminals' runs.
    module _ (a : List ℕ) (zs : List (Marked (Exchange K L))) (e : List ℕ) (ran : RanAlong c ask leave a (all zs) e)
        (none : NoneShared c (requests_of c ask leave (only one zs)) (requests_of c ask leave (only two zs))) where
      -- the order of their calls
      abbrev calls : List (Marked K)
      calls = each_of (λ (x : Exchange K L). x.call) zs

      -- a number that a call names is one that an exchange names
      named : (t : Terminal) (k : ℕ) → Any (λ x. Names k (ask x)) (only t calls) → Any (Names k) (requests_of c ask leave (only t zs))
      named t k h =
          any_map_lem (λ (x : Exchange K L). x.call) ask (Names k) (only t zs) (rw (only_each (λ (x : Exchange K L). x.call) t zs) at h)

      -- is undisturbed
      apart : Undisturbed left next a calls
      apart = two_askers c ask leave z a calls (λ k h p q. none k h (named one k p) (named two k q))

      told_each : (t : Terminal) → only t (told left next a calls) ≡ answers left next a (only t calls)
      told_each one = apart.told-one
      told_each two = apart.told-two

      -- one terminal's calls run alone
      alone : (t : Terminal) (xs : List (Exchange K L)) (f : List ℕ) → RanAlong c ask leave a xs f → calls_of xs ≡ calls_of (only t zs) → xs ≡ only t zs
      alone t xs f r q =
          let k : calls_of xs ≡ only t calls = q ∙ sym (only_each (λ (x : Exchange K L). x.call) t zs) in
          exchanges_same xs (only t zs) q
          ((ran_is xs a f r).0 ∙ ap (answers left next a) k ∙ sym (told_each t) ∙ ap (only t) (sym (ran-told zs a e ran))
          ∙ only_each (λ (x : Exchange K L). x.left) t zs)

      -- the calls of one terminal, and then those of the other
      in_turn_lem : (t u : Terminal) → after left next a (all calls) ≡ after left next (after left next a (only t calls)) (only u calls) →
          (xs : List (Exchange K L)) (f : List ℕ) → RanAlong c ask leave a xs f → calls_of xs ≡ calls_of (only t zs ++ only u zs) → f ≡ e
      in_turn_lem t u h xs f r q =
          let k : calls_of xs ≡ only t calls ++ only u calls =
          q ∙ map-append (λ (x : Exchange K L). x.call) (only t zs) (only u zs)
          ∙ ap₂ (λ (l m : List K). l ++ m) (sym (only_each (λ (x : Exchange K L). x.call) t zs)) (sym (only_each (λ (x : Exchange K L). x.call) u zs)) in
          (ran_is xs a f r).1 ∙ ap (after left next a) k ∙ after-append left next a (only t calls) (only u calls) ∙ sym h
          ∙ ap (after left next a) (all_each (λ (x : Exchange K L). x.call) zs) ∙ sym (ran_is (all zs) a e ran).1

    -- on every card runs are apart
    pub two_runs : TwoRuns c ask leave
    two_runs a zs e r none = record {
      one-alone = alone a zs e r none one;
      two-alone = alone a zs e r none two;
      one-first = in_turn_lem a zs e r none one two (apart a zs e r none).one-first;
      two-first = in_turn_lem a zs e r none two one (apart a zs e r none).two-first;
    }

    -- The tower, where callers see by what they were left whether a request was accepted.
    module _ (Seen : L → Type 0) (Seen-done : (k : K) (x : Answer) → Seen (leave k x) → x.reply ≡ Done)
        (done-seen : (k : K) (x : Answer) → (ask k).write ≡ true → x.reply ≡ Done → Seen (leave k x)) where
      -- the arena that a run leaves
      ran-after : (xs : List (Exchange K L)) (a e : List ℕ) → RanAlong c ask leave a xs e →
          e ≡ after (answer_of c) (arena_after c) a (requests_of c ask leave xs)
      unfolding after
      ran-after [] a e r = r
      ran-after (x ∷ xs) a e (b, k, r) = rw k.1 at (ran-after xs b e r)

      -- a run that its callers see to be quiet is quiet
      ran-quiet : (n m : ℕ) (xs : List (Exchange K L)) (a e : List ℕ) → RanAlong c ask leave a xs e →
          All (λ x. (ask x.call).write ≡ true → Seen x.left → (i : ℕ) → NamesBlock n m (ask x.call) i → ⊥) xs →
          Quiet c n m a (requests_of c ask leave xs)
      ran-quiet n m [] a e r q = tt
      ran-quiet n m (x ∷ xs) a e (b, k, r) q = (
        λ w d. q.0 w (subst Seen (sym k.0) (done-seen x.call _ w d)),
        rw k.1 at (ran-quiet n m xs b e r q.1),
      )

      -- on every card the tower's read is left what was written last
      pub tower_runs : TowerRuns c ask leave Seen
      tower_runs n m d a w xs f q e h =
          let (b, k, r) = h.ran in
          let first : b ≡ arena_after c a (ask w.call) = k.1 in
          let then : f ≡ arena_then c a (ask w.call) (requests_of c ask leave xs) = rw first at (ran-after xs b f r) in
          let redrawn : Redrawn c n m d a (ask w.call) (requests_of c ask leave xs) (ask q.call) = record {
            write = h.write;
            written = Seen-done w.call _ (subst Seen k.0 h.written);
            brings = h.brings;
            quiet = rw first at (ran-quiet n m xs b f r h.quiet);
            read = h.read;
            answered = rw then at (Seen-done q.call _ (subst Seen h.asked.0 h.answered));
          } in
          (answer_of c f (ask q.call), h.asked.0, λ j p. rw then (tower_given c z redrawn p, λ out l. tower_out c z redrawn p out l))
