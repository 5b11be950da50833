-- Two terminals at one card. Read specs/Two.antt for the statement: `TwoTerminals c`. The law `two_terminals` says that it holds of every
-- card: those that accepted additions and limits produce, and all others, where every request is refused.
use Prim.Native.Nat.{ℕ, ◌*◌}
use mathlib.Core.Path.{◌≡◌, refl, ap, subst}
use mathlib.Core.Bool.{Bool, true, false}
use mathlib.Core.List.{List, [], ◌∷◌}
use mathlib.Core.Logic.{inl, inr}
use lib.ListN.{length}
use Rattle.card_build.specs.declared.card.Card.{Card}
use Rattle.card_build.specs.Card.{nodes_of, is_sound}
use Rattle.card_laws.specs.Built.{Built}
use Rattle.card_laws.proofs.Built.{sound_built}
use Rattle.card_laws.proofs.Laid.{Laid, laid}
use Rattle.request_check.specs.Row.{row_at_index}
use Rattle.request_plan.specs.Request.{Request}
use Rattle.request_plan.specs.Plan.{rows_in}
use Rattle.request_plan.specs.Serve.{serve, output_after, staging_by}
use Rattle.request_plan.proofs.Accepted.{unsound_left}
use Rattle.request_plan.proofs.Same.{Same, same_refl, same_sym_lem, same_trans_lem, same_whole}
use Rattle.request_plan.proofs.Frame.{LiesIn, serve_keeps, serve_spares}
use Rattle.law_terminals.specs.Orders.{Terminal, one, two, Marked, only, Undisturbed}
use Rattle.law_terminals.specs.Two.{Answer, answer_of, output_of, staging_of, arena_after, Any, All, Names, HasNumber, TwoTerminals}
use Rattle.law_terminals.proofs.Generic.{other, Views, undisturbed, still_undisturbed}
use Rattle.law_terminals.proofs.Owned.{Holds, holds_has, own_row, one_number}

-- The terminals ask by whatever makes a request (`ask`), and keep of the answer whatever they keep (`leave`): requests and their
-- answers themselves, or calls and the buffers that they leave.
module _ (c : Card) {K L : Type 0} (ask : K → Request) (leave : K → Answer → L) where
  abbrev pub left_of : List ℕ → K → L
  left_of a x = leave x (answer_of c a (ask x))

  abbrev pub arena_of : List ℕ → K → List ℕ
  arena_of a x = arena_after c a (ask x)

  -- each of a list names numbers that one of them names
  named-all : (xs : List K) (N : ℕ → Type 0) → ((k : ℕ) → Any (λ x. Names k (ask x)) xs → N k) → All (λ x. (k : ℕ) → Names k (ask x) → N k) xs
  named-all [] N w = tt
  named-all (x ∷ xs) N w = (λ k n. w k (inl n), named-all xs N (λ k n. w k (inr n)))

  -- the numbers of the two terminals, none of a service of the card shared
  module _ (N : Terminal → ℕ → Type 0) (none : (k : ℕ) → HasNumber c k → N one k → N two k → ⊥) where
    -- one sees the bytes of its stores, two all others
    Seen : Terminal → ℕ → Type 0
    Seen one i = (k : ℕ) × N one k × Holds (nodes_of c) k i
    Seen two i = ((k : ℕ) × N one k × Holds (nodes_of c) k i) → ⊥

    Sees : Terminal → List ℕ → List ℕ → Type 0
    Sees t s u = Same (Seen t) s u

    -- what a terminal may ask: it names only numbers of that terminal
    Fits : Terminal → K → Type 0
    Fits t x = (k : ℕ) → Names k (ask x) → N t k

    module _ (l : Laid (nodes_of c) c.used) where
      -- what a number of a terminal holds, that terminal sees
      inside : (t : Terminal) (i k : ℕ) → Holds (nodes_of c) k i → N t k → Seen t i
      unfolding Seen
      inside one i k h n = (k, n, h)
      inside two i k h n = λ s. none k (holds_has c h) (subst (N one) (one_number l i s.0 k s.2 h) s.1) n

      -- and the other does not
      outside : (t : Terminal) (i k : ℕ) → Holds (nodes_of c) k i → N (other t) k → Seen t i → ⊥
      unfolding Seen
      outside one i k h n s = inside two i k h n s
      outside two i k h n s = s (k, n, h)

      -- the stores of what a terminal asks are what it sees
      mine : (t : Terminal) (x : K) → Fits t x → (j i : ℕ) → LiesIn (row_at_index (rows_in c (ask x)) j) i → Seen t i
      unfolding Fits
      mine t x f j i h = let q = own_row (nodes_of c) (ask x).codes j i h in inside t i q.0 q.1 (f q.0 q.2)

      -- those of what the other asks it does not see
      theirs : (t : Terminal) (x : K) → Fits (other t) x → (j i : ℕ) → LiesIn (row_at_index (rows_in c (ask x)) j) i → Seen t i → ⊥
      unfolding Fits
      theirs t x f j i h = let q = own_row (nodes_of c) (ask x).codes j i h in outside t i q.0 q.1 (f q.0 q.2)

      -- so the frame laws give two views
      views : Views left_of arena_of Sees Fits
      unfolding Sees Seen
      views = record {
        alike = λ t s. same_refl (Seen t) s;
        flip = λ t s u h. same_sym_lem (Seen t) s u h;
        join = λ t s u v h k. same_trans_lem (Seen t) s u v h k;
        whole = λ s u h k. same_whole (Seen one) s u h k;
        hear = λ t s u x f h.
            let w = serve_keeps (Seen t) c (ask x) (mine t x f) s u h in
            ap (leave x) (λ i. record { reply = w.reply i; read = w.read i });
        keep = λ t s u x f h. (serve_keeps (Seen t) c (ask x) (mine t x f) s u h).left;
        spare = λ t s x f. serve_spares (Seen t) c (ask x) (theirs t x f) s;
      }

  -- no order disturbs either, on a card that accepted additions and limits produce
  built_askers
      : Built c → (a : List ℕ) (zs : List (Marked K))
      → ((k : ℕ) → HasNumber c k → Any (λ x. Names k (ask x)) (only one zs) → Any (λ x. Names k (ask x)) (only two zs) → ⊥)
      → Undisturbed left_of arena_of a zs
  unfolding Fits
  built_askers b a zs none =
      let N : Terminal → ℕ → Type 0 = λ t k. Any (λ x. Names k (ask x)) (only t zs) in
      undisturbed left_of arena_of (Sees N none) (Fits N none) (views N none (laid b)) a zs
      (named-all (only one zs) (N one) (λ k n. n)) (named-all (only two zs) (N two) (λ k n. n))

  -- nor on another, where every request is refused
  pub two_askers
      : length c.nodes ≡ 64 → (a : List ℕ) (zs : List (Marked K))
      → ((k : ℕ) → HasNumber c k → Any (λ x. Names k (ask x)) (only one zs) → Any (λ x. Names k (ask x)) (only two zs) → ⊥)
      → Undisturbed left_of arena_of a zs
  two_askers h a zs none = by_sound (is_sound c) refl
    where
      by_sound : (t : Bool) → is_sound c ≡ t → Undisturbed left_of arena_of a zs
      by_sound true e = built_askers (sound_built c h e) a zs none
      by_sound false e = still_undisturbed left_of arena_of (λ s x. unsound_left c s (ask x) e) a zs

-- on every card, which has 64 records, no terminal disturbs another with which it shares no number of a service of the card
pub two_terminals : (c : Card) → length c.nodes ≡ 64 → TwoTerminals c
two_terminals c = two_askers c (λ r. r) (λ r x. x)

module _ (c : Card) (a : List ℕ) (r : Request) where
  -- what `read` promises of its output follows from the answer
  pub output_follows : (out : List ℕ) → output_after out (serve c a r) ≡ output_of (answer_of c a r) out
  output_follows out = refl

  -- so does what `write` promises of its staging
  pub staging_follows : (staging : List ℕ) → staging_by (serve c a r).reply (16 * c.used) staging ≡ staging_of c (answer_of c a r) staging
  staging_follows staging = refl
