-- What lies under an area: the laws that counting, summing and listing its nodes share.
use mathlib.Core.Path.{◌≡◌, refl, sym, ◌∙◌, ap}
use mathlib.Core.Bool.{Bool, true, false, cond}
use mathlib.Core.List.{List, [], ◌∷◌}
use mathlib.Core.Logic.{◌⊎◌, inl, inr, ⊎_elim}
use Prim.Native.Nat.{ℕ, suc, ◌+◌, ◌-◌, ◌≤◌, ◌<◌, min}
use native.Mathlib.Nat.{zero-add, suc-add}
use native.Mathlib.Omega.{arith}
use lib.Dec.{leb}
use lib.ListN.{length, take, drop, get_or, length-take, length-drop}
use lib.Seq.{drop-drop, take_all}
use borrow.Author.Tests.{le-leb, lt-leb, leb-true, leb-false}
use Rattle.card_nodes.specs.declared.node.Node.{Node}
use Rattle.card_nodes.proofs.Scan.{next, over, read}
use Rattle.card_laws.specs.Under.{span_under}

-- one of two numbers is at most the other
pub le-or-lt : (a b : ℕ) → (a ≤ b) ⊎ (b < a)
le-or-lt a b = go (leb a b) refl
  where
    go : (t : Bool) → leb a b ≡ t → (a ≤ b) ⊎ (b < a)
    go true e = inl (leb-true a b e)
    go false e = inr (leb-false a b e)

-- what stands in a list does not go by what a read past its end gives
pub any : {A : Type 0} (l : List A) (i : ℕ) (y z : A) → i < length l → get_or l i y ≡ get_or l i z
any l i y z h =
    let k : i < length (take (length l) l) = simp length-take (omega arith) in
    sym (read l (length l) i z y k) ∙ read l (length l) i z z k

-- more than there are takes all
pub take-most : {A : Type 0} (n m : ℕ) (l : List A) → length l ≡ m → take (min n m) l ≡ take n l
take-most n m l e =
    ⊎_elim
    (λ h. let k : min n m ≡ n = omega arith in rw k)
    (λ h. take_all (min n m) l (omega arith) ∙ sym (take_all n l (omega arith)))
    (le-or-lt n m)

-- f goes over the nodes under an area of depth d: `none` of them, or one and the rest; two parts are joined
pub record Over {B : Type 0} (f : ℕ → List Node → B) (none : B) (one : Node → B → B) (join : B → B → B) : Type 0 where
  pub at-end : (d : ℕ) → f d [] ≡ none
  pub at_node : (d : ℕ) (n : Node) (ns : List Node) → f d (n ∷ ns) ≡ cond (leb n.depth d) none (one n (f d ns))
  pub join-none : (b : B) → join none b ≡ b
  pub join_one : (n : Node) (a b : B) → join (one n a) b ≡ one n (join a b)

-- their count
pub spans : Over span_under 0 (λ n r. suc r) ◌+◌
unfolding span_under
spans = record { at-end = λ d. refl; at_node = λ d n ns. refl; join-none = zero-add; join_one = λ n a b. suc-add a b }

module _ {B : Type 0} {f : ℕ → List Node → B} {none : B} {one : Node → B → B} {join : B → B → B} (u : Over f none one join) where
  -- a deeper node lies under the area, and so may those after it
  pub deeper : (d : ℕ) (n : Node) (ns : List Node) → d < n.depth → f d (n ∷ ns) ≡ one n (f d ns)
  deeper d n ns h = u.at_node d n ns ∙ rw (lt-leb n.depth d h)

  -- any other ends what lies under it
  pub ends : (d : ℕ) (n : Node) (ns : List Node) → n.depth ≤ d → f d (n ∷ ns) ≡ none
  ends d n ns h = u.at_node d n ns ∙ rw (le-leb n.depth d h)

module _ {B : Type 0} {f : ℕ → List Node → B} {none : B} {one : Node → B → B} {join : B → B → B} (u : Over f none one join) where
  -- what lies under a child of depth e comes first of what lies under an area of depth d
  pub split : (d e : ℕ) (ns : List Node) → d < e → f d ns ≡ join (f e ns) (f d (drop (span_under e ns) ns))
  unfolding span_under
  split d e [] h = rw (u.at-end e) (sym (u.join-none (f d [])))
  split d e (n ∷ ns) h =
      ⊎_elim
      (λ k. rw (ends u e n ns k, ends spans e n ns k) (sym (u.join-none (f d (n ∷ ns)))))
      (λ k.
      let l : d < n.depth = omega arith in
      rw (deeper u e n ns k, deeper spans e n ns k, deeper u d n ns l) (ap (one n) (split d e ns h) ∙ sym (u.join_one n (f e ns) (f d (drop (span_under e ns) ns)))))
      (le-or-lt n.depth e)

  -- of the first n records, from i on
  module _ (ns : List Node) (n i d : ℕ) where
    -- no record is left
    pub finished : min n (length ns) ≤ i → f d (drop i (take n ns)) ≡ none
    finished h = rw (over ns n i h) (u.at-end d)

    module _ (z : Node) (h : i < n) (k : i < length ns) where
      -- the record at i lies no deeper
      pub ended : (get_or ns i z).depth ≤ d → f d (drop i (take n ns)) ≡ none
      ended l = rw (next ns n i z h k) (ends u d (get_or ns i z) (drop (i + 1) (take n ns)) l)

      -- it lies under the area
      pub turn : d < (get_or ns i z).depth → f d (drop i (take n ns)) ≡ one (get_or ns i z) (f d (drop (i + 1) (take n ns)))
      turn l = rw (next ns n i z h k) (deeper u d (get_or ns i z) (drop (i + 1) (take n ns)) l)

      -- it does, with all that lies under itself, to j
      pub child : (j : ℕ) → j ≡ i + 1 + span_under (get_or ns i z).depth (drop (i + 1) (take n ns)) → d < (get_or ns i z).depth →
          f d (drop i (take n ns)) ≡ one (get_or ns i z) (join (f (get_or ns i z).depth (drop (i + 1) (take n ns))) (f d (drop j (take n ns))))
      child j q l =
          turn l
          ∙ ap (one (get_or ns i z)) (split d (get_or ns i z).depth (drop (i + 1) (take n ns)) l
          ∙ rw (drop-drop (span_under (get_or ns i z).depth (drop (i + 1) (take n ns))) (i + 1) (take n ns), q))

-- no more lies under an area than there is
pub span_most : (d : ℕ) (ns : List Node) → span_under d ns ≤ length ns
unfolding span_under
span_most d [] = omega arith
span_most d (n ∷ ns) =
    ⊎_elim (λ k. omega (arith, ends spans d n ns k)) (λ k. omega (arith, deeper spans d n ns k, span_most d ns)) (le-or-lt n.depth d)

pub span_left : (ns : List Node) (n i d : ℕ) → span_under d (drop i (take n ns)) ≤ n - i
span_left ns n i d = omega (arith, simp (length-drop, length-take) at (span_most d (drop i (take n ns))))
