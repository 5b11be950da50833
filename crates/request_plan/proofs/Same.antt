-- Lists of bytes that are alike at some places: what a part of them shows, and what a put leaves of it. Assumes nothing.
use Prim.Native.Nat.{ℕ, suc, ◌+◌, ◌≤◌, ◌<◌}
use native.Mathlib.Omega.{arith}
use native.Mathlib.Decide.{ℕ_discrete, dec_lt, dec_le}
use native.Mathlib.Nat.{add-zero, zero-add}
use mathlib.Core.Path.{◌≡◌, refl, sym, ◌∙◌, subst}
use mathlib.Core.List.{List, [], ◌∷◌}
use mathlib.Core.Logic.{inl, inr}
use lib.ListN.{length, get_or, set, take, length-set, length-take, length-drop, get_or-eq_default}
use lib.Seq.{sets, get_or-set_same, get_or-set_other, get_or-take, ext_get_or}
use Rattle.byte_parts.specs.Part.{part, put}
use Rattle.byte_parts.proofs.Part.{get_d_part, length-put, get_d_put_apart, put-part}

-- as long, and alike at the places of P
pub record Same (P : ℕ → Type 0) (s u : List ℕ) : Type 0 where
  pub long : length s ≡ length u
  pub each : (i : ℕ) → P i → get_or s i 0 ≡ get_or u i 0

module _ (P : ℕ → Type 0) where
  pub same_refl : (s : List ℕ) → Same P s s
  same_refl s = record { long = refl; each = λ i p. refl }

  pub same_sym_lem : (s u : List ℕ) → Same P s u → Same P u s
  same_sym_lem s u h = record { long = sym h.long; each = λ i p. sym (h.each i p) }

  pub same_trans_lem : (s u v : List ℕ) → Same P s u → Same P u v → Same P s v
  same_trans_lem s u v h k = record { long = h.long ∙ k.long; each = λ i p. h.each i p ∙ k.each i p }

  -- two lists that are alike at P and elsewhere are equal
  pub same_whole : (s u : List ℕ) → Same P s u → Same (λ i. P i → ⊥) s u → s ≡ u
  same_whole s u h k =
      ext_get_or 0 s u h.long (λ i b. elim (ℕ_discrete (get_or s i 0) (get_or u i 0)) [
        | yes e ↦ e
        | no e ↦ absurd (e (k.each i (λ p. e (h.each i p))))
      ])

  -- the fronts of two lists that are alike
  pub same_take : (n : ℕ) (s u : List ℕ) → Same P s u → Same P (take n s) (take n u)
  same_take n s u h = record {
    long = simp (length-take, h.long);
    each = λ i p. elim (dec_lt i n) [
      | yes l ↦ get_or-take n s i 0 l ∙ h.each i p ∙ sym (get_or-take n u i 0 l)
      | no l ↦
          get_or-eq_default (take n s) 0 (simp length-take (omega arith))
          ∙ sym (get_or-eq_default (take n u) 0 (simp length-take (omega arith)))
    ];
  }

  -- a part within P shows the same
  pub part_same : (s u : List ℕ) (at n : ℕ) → Same P s u → ((i : ℕ) → at ≤ i → i < at + n → P i) → part s at n ≡ part u at n
  unfolding part
  part_same s u at n h f =
      ext_get_or 0 _ _ (simp (length-take, length-drop, h.long)) (λ i b.
      let l : i < n = omega (arith, simp length-take at b) in
      get_d_part s at n i l ∙ h.each (at + i) (f (at + i) (omega arith) (omega arith)) ∙ sym (get_d_part u at n i l))

  -- one byte set in each of two lists that are alike
  set_same : (s u : List ℕ) (i v w : ℕ) → Same P s u → (P i → v ≡ w) → Same P (set s i v) (set u i w)
  set_same s u i v w h e = record {
    long = length-set s i v ∙ h.long ∙ sym (length-set u i w);
    each = λ j p. elim (ℕ_discrete j i) [
      | yes q ↦ rw q (here (subst P q p))
      | no q ↦ get_or-set_other s i j v 0 q ∙ h.each j p ∙ sym (get_or-set_other u i j w 0 q)
    ];
  }
    where
      here : P i → get_or (set s i v) i 0 ≡ get_or (set u i w) i 0
      here p = elim (dec_lt i (length s)) [
        | yes l ↦ get_or-set_same s i v 0 l ∙ e p ∙ sym (get_or-set_same u i w 0 (omega (arith, l, h.long)))
        | no l ↦
            get_or-eq_default (set s i v) 0 (simp length-set (omega arith))
            ∙ sym (get_or-eq_default (set u i w) 0 (simp length-set (omega (arith, l, h.long))))
      ]

  -- bytes set in each from a place on, alike where P says so
  sets_same : (vs ws s u : List ℕ) (i : ℕ) → Same P s u → Same (λ j. P (i + j)) vs ws → Same P (sets s i vs) (sets u i ws)
  sets_same [] [] s u i h k = h
  sets_same [] (w ∷ ws) s u i h k = absurd (omega (arith, k.long))
  sets_same (v ∷ vs) [] s u i h k = absurd (omega (arith, k.long))
  sets_same (v ∷ vs) (w ∷ ws) s u i h k =
      sets_same vs ws (set s i v) (set u i w) (suc i) (set_same s u i v w h (λ p. k.each 0 (rw (add-zero i) p)))
      (record {
        long = omega (arith, k.long);
        each = λ j p. let e : suc i + j ≡ i + suc j = omega arith in k.each (suc j) (subst P e p);
      })

  -- the same bytes put into two lists that are alike
  pub put_same : (s u : List ℕ) (at n : ℕ) (t : List ℕ) → Same P s u → Same P (put s at n t) (put u at n t)
  unfolding put
  put_same s u at n t h = sets_same (take n t) (take n t) s u at h (record { long = refl; each = λ i p. refl })

  -- a put outside P changes nothing of it
  pub put_spare : (s : List ℕ) (at n : ℕ) (t : List ℕ) → ((i : ℕ) → at ≤ i → i < at + n → P i → ⊥) → Same P s (put s at n t)
  put_spare s at n t f = record {
    long = sym (length-put s at n t);
    each = λ i p. sym (get_d_put_apart s at n t i (elim (dec_le at i) [
      | yes a ↦ elim (dec_lt i (at + n)) [
        | yes b ↦ absurd (f i a b p)
        | no b ↦ inr (omega arith)
      ]
      | no a ↦ inl (omega arith)
    ]));
  }

  -- fronts that are alike go into two lists that are alike
  pub front_same : (s u : List ℕ) (n : ℕ) (t v : List ℕ) → Same P s u → Same P t v → Same P (put s 0 n t) (put u 0 n v)
  unfolding put
  front_same s u n t v h k =
      let m = same_take n t v k in
      sets_same (take n t) (take n v) s u 0 h (record { long = m.long; each = λ i p. m.each i (subst P (zero-add i) p) })

  -- a front that is alike to the list's own leaves the list alike
  pub front_spare : (s : List ℕ) (n : ℕ) (t : List ℕ) → Same P (take n s) t → Same P s (put s 0 n t)
  unfolding part
  front_spare s n t h = rw (put-part s 0 n) at (front_same s s n (take n s) t (same_refl s) h)
