-- Two lists of bytes, the first holding at m + i what the second holds at i, for the places i of P. Assumes nothing.
use Prim.Native.Nat.{ℕ, zero, suc, ◌+◌, ◌≤◌, ◌<◌}
use native.Mathlib.Omega.{arith}
use native.Mathlib.Decide.{ℕ_discrete}
use native.Mathlib.Nat.{add-zero, zero-add}
use mathlib.Core.Path.{◌≡◌, refl, sym, ◌∙◌, subst}
use mathlib.Core.List.{List, [], ◌∷◌}
use mathlib.Core.Logic.{◌⊎◌, inl, inr}
use lib.ListN.{length, get_or, set, take, length-set, length-take}
use lib.Seq.{sets, get_or-set_same, get_or-set_other, get_or-take, ext_get_or}
use Rattle.byte_parts.specs.Part.{part, put}
use Rattle.byte_parts.proofs.Part.{get_d_part, length_part, length-put}

-- bytes set from a place on leave what stands before it
sets_before : (vs l : List ℕ) (i j : ℕ) → j < i → get_or (sets l i vs) j 0 ≡ get_or l j 0
sets_before [] l i j h = refl
sets_before (v ∷ vs) l i j h = sets_before vs (set l i v) (suc i) j (omega arith) ∙ get_or-set_other l i j v 0 (λ e. omega arith)

-- and stand there
sets_in : (vs l : List ℕ) (i j : ℕ) → j < length vs → i + j < length l → get_or (sets l i vs) (i + j) 0 ≡ get_or vs j 0
sets_in [] l i j h b = absurd (omega arith)
sets_in (v ∷ vs) l i zero h b = rw (add-zero i) (sets_before vs (set l i v) (suc i) i (omega arith) ∙ get_or-set_same l i v 0 (omega arith))
sets_in (v ∷ vs) l i (suc j) h b =
    let e : suc i + j ≡ i + suc j = omega arith in
    subst (λ x. get_or (sets (set l i v) (suc i) vs) x 0 ≡ get_or vs j 0) e
    (sets_in vs (set l i v) (suc i) j (omega arith) (simp length-set (omega arith)))

-- a byte of a front that was put
front_in : (s : List ℕ) (n : ℕ) (t : List ℕ) (i : ℕ) → i < n → i < length t → i < length s → get_or (put s 0 n t) i 0 ≡ get_or t i 0
unfolding put
front_in s n t i h k l =
    subst (λ x. get_or (sets s 0 (take n t)) x 0 ≡ get_or (take n t) i 0) (zero-add i)
    (sets_in (take n t) s 0 i (simp length-take (omega arith)) (omega arith))
    ∙ get_or-take n t i 0 h

-- both have the places, and the same there
pub record Shifted (P : ℕ → Type 0) (m : ℕ) (s u : List ℕ) : Type 0 where
  pub there : (i : ℕ) → P i → m + i < length s
  pub here : (i : ℕ) → P i → i < length u
  pub each : (i : ℕ) → P i → get_or s (m + i) 0 ≡ get_or u i 0

module _ (P : ℕ → Type 0) (m : ℕ) where
  -- one byte set in each
  set_shifted : (s u : List ℕ) (i v : ℕ) → Shifted P m s u → Shifted P m (set s (m + i) v) (set u i v)
  set_shifted s u i v h = record {
    there = λ j p. simp length-set (h.there j p);
    here = λ j p. simp length-set (h.here j p);
    each = λ j p. elim (ℕ_discrete j i) [
      | yes q ↦
          let a : m + i < length s = subst (λ x. m + x < length s) q (h.there j p) in
          let b : i < length u = subst (λ x. x < length u) q (h.here j p) in
          rw q (get_or-set_same s (m + i) v 0 a ∙ sym (get_or-set_same u i v 0 b))
      | no q ↦ get_or-set_other s (m + i) (m + j) v 0 (λ e. q (omega arith)) ∙ h.each j p ∙ sym (get_or-set_other u i j v 0 q)
    ];
  }

  -- bytes set in each from a place on: no premise on where they lie
  sets_shifted : (vs s u : List ℕ) (i : ℕ) → Shifted P m s u → Shifted P m (sets s (m + i) vs) (sets u i vs)
  sets_shifted [] s u i h = h
  sets_shifted (v ∷ vs) s u i h =
      let e : m + suc i ≡ suc (m + i) = omega arith in
      subst (λ x. Shifted P m (sets (set s (m + i) v) x vs) (sets (set u i v) (suc i) vs)) e
      (sets_shifted vs (set s (m + i) v) (set u i v) (suc i) (set_shifted s u i v h))

  -- a part whose places are of P
  pub part_shifted : (s u : List ℕ) (at n : ℕ) → Shifted P m s u → ((i : ℕ) → at ≤ i → i < at + n → P i) → part s (m + at) n ≡ part u at n
  unfolding part
  part_shifted s u at zero h f = refl
  part_shifted s u at (suc n) h f =
      let p = f (at + n) (omega arith) (omega arith) in
      let a : length (part s (m + at) (suc n)) ≡ suc n = length_part s (m + at) (suc n) (omega (arith, h.there (at + n) p)) in
      let b : length (part u at (suc n)) ≡ suc n = length_part u at (suc n) (omega (arith, h.here (at + n) p)) in
      ext_get_or 0 (part s (m + at) (suc n)) (part u at (suc n)) (a ∙ sym b) (λ i l.
      let k : i < suc n = omega (arith, l, a) in
      let e : m + (at + i) ≡ m + at + i = omega arith in
      get_d_part s (m + at) (suc n) i k
      ∙ subst (λ x. get_or s x 0 ≡ get_or u (at + i) 0) e (h.each (at + i) (f (at + i) (omega arith) (omega arith)))
      ∙ sym (get_d_part u at (suc n) i k))

  -- a place of n bytes, and where it lies in the other list; of nothing it does not matter
  abbrev pub Place : ℕ → ℕ → ℕ → Type 0
  Place to at n = (n ≡ 0) ⊎ (to ≡ m + at)

  -- a part at such a place shows the same in both
  pub parts_alike : (s u : List ℕ) (to at n : ℕ) → Place to at n → Shifted P m s u → ((i : ℕ) → at ≤ i → i < at + n → P i) →
      part s to n ≡ part u at n
  unfolding part
  parts_alike s u to at n (inl z) h f = rw z
  parts_alike s u to at n (inr e) h f = rw e (part_shifted s u at n h f)

  -- and the same bytes put there keep both alike
  pub puts_alike : (s u : List ℕ) (to at n : ℕ) (t : List ℕ) → Place to at n → Shifted P m s u → Shifted P m (put s to n t) (put u at n t)
  unfolding put
  puts_alike s u to at n t (inl z) h = rw z h
  puts_alike s u to at n t (inr e) h = rw e (sets_shifted (take n t) s u at h)

  -- Where the places lie in the fronts of both lists.
  module _ (x y : ℕ) (f : (i : ℕ) → P i → (m + i < x) × (i < y)) where
    -- the fronts are alike
    pub take_shifted : (s u : List ℕ) → Shifted P m s u → Shifted P m (take x s) (take y u)
    take_shifted s u h = record {
      there = λ i p. simp length-take (omega (arith, h.there i p, (f i p).0));
      here = λ i p. simp length-take (omega (arith, h.here i p, (f i p).1));
      each = λ i p. get_or-take x s (m + i) 0 (f i p).0 ∙ h.each i p ∙ sym (get_or-take y u i 0 (f i p).1);
    }

    -- fronts that are alike, put back, leave the lists alike
    pub front_shifted : (s u t v : List ℕ) → Shifted P m s u → Shifted P m t v → Shifted P m (put s 0 x t) (put u 0 y v)
    front_shifted s u t v h k = record {
      there = λ i p. simp length-put (h.there i p);
      here = λ i p. simp length-put (h.here i p);
      each = λ i p.
          front_in s x t (m + i) (f i p).0 (k.there i p) (h.there i p) ∙ k.each i p
          ∙ sym (front_in u y v i (f i p).1 (k.here i p) (h.here i p));
    }
