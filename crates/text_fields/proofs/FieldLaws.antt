-- Laws of fields: how many there are, where one ends, what they hold. Assumes nothing.
use Prim.Native.Nat.{ℕ, zero, suc, ◌+◌, ◌-◌, ◌≤◌, ◌<◌}
use native.Mathlib.Omega.{arith}
use native.Mathlib.Decide.{ℕ_discrete}
use mathlib.Core.Path.{◌≡◌, refl, ap, ◌∙◌}
use mathlib.Core.Logic.{◌⊎◌, inl, inr, ⊎_elim}
use mathlib.Core.List.{List, [], ◌∷◌}
use lib.ListN.{length, get_or, take, drop, length-drop, drop_of_length-le}
use lib.Seq.{drop-drop, take_all, take-length}
use borrow.Author.Tests.{eq-eqb, ne_eqb}
use Rattle.byte_parts.proofs.Part.{here}
use Rattle.byte_scan.specs.Bytes.{index_after, index_of, slice}
use Rattle.text_fields.specs.Field.{onto, split}

-- A byte ahead stands in the first field.
onto-first : (x : ℕ) (fs : List (List ℕ)) → get_or (onto x fs) 0 [] ≡ x ∷ get_or fs 0 []
onto-first x [] = refl
onto-first x (f ∷ fs) = refl

-- The others are as they were.
onto_other : (x : ℕ) (fs : List (List ℕ)) (k : ℕ) → get_or (onto x fs) (suc k) [] ≡ get_or fs (suc k) []
onto_other x [] k = refl
onto_other x (f ∷ fs) k = refl

-- It makes no field more.
onto-count : (x : ℕ) (fs : List (List ℕ)) → 0 < length fs → length (onto x fs) ≡ length fs
onto-count x [] h = absurd (omega arith)
onto-count x (f ∷ fs) h = refl

-- There is one field at least.
pub split-some : (b : ℕ) (s : List ℕ) → 0 < length (split b s)
unfolding split
split-some b [] = omega arith
split-some b (x ∷ s) =
    elim (ℕ_discrete x b) [
      | yes e ↦ rw (eq-eqb x b e) (omega arith)
      | no e ↦ let h = split-some b s in rw (ne_eqb x b e, onto-count x (split b s) h) h
    ]

module _ (b : ℕ) (s : List ℕ) (i : ℕ) where
  -- At a separator another field ends.
  pub count_here : i < length s → get_or s i 0 ≡ b → length (split b (drop i s)) ≡ 1 + length (split b (drop (i + 1) s))
  unfolding split
  count_here h e = rw (here s i h, eq-eqb _ _ e) (omega arith)

  -- At another byte none does.
  pub count_next : i < length s → (get_or s i 0 ≡ b → ⊥) → length (split b (drop i s)) ≡ length (split b (drop (i + 1) s))
  unfolding split
  count_next h e =
      rw (here s i h, ne_eqb _ _ e)
      (onto-count (get_or s i 0) (split b (drop (i + 1) s)) (split-some b (drop (i + 1) s)))

  -- At the end the last one does.
  pub count-end : length s ≤ i → length (split b (drop i s)) ≡ 1
  unfolding split
  count-end h = rw (drop_of_length-le s h)

-- The first separator, if there is one, ends the first field, and the others are those of the rest; else there is one field alone.
pub split_cut
    : (b : ℕ) (s : List ℕ)
    → ((index_of b s ≡ length s) × (split b s ≡ s ∷ []))
    ⊎ ((index_of b s < length s) × (get_or s (index_of b s) 0 ≡ b) × (split b s ≡ take (index_of b s) s ∷ split b (drop (suc (index_of b s)) s)))
unfolding split index_of index_after
split_cut b [] = inl (refl, refl)
split_cut b (x ∷ s) =
    elim (ℕ_discrete x b) [
      | yes e ↦ rw (eq-eqb x b e) (inr (omega arith, e, refl))
      | no e ↦
          rw (ne_eqb x b e)
          (⊎_elim
          (λ w. inl (ap suc w.0, ap (onto x) w.1))
          (λ w. inr (omega (arith, w.0), w.1, ap (onto x) w.2))
          (split_cut b s))
    ]

-- `end` is where a search for the separator from a place on ended.
module _ (b from : ℕ) (s : List ℕ) (h : from ≤ length s) (end : ℕ) (e : end ≡ from + index_of b (slice from (length s) s)) where
  -- The field at that place is the last one and goes to the end, or the next one starts after `end`.
  pub end_cut
      : ((end ≡ length s) × (split b (drop from s) ≡ drop from s ∷ []))
      ⊎ ((end < length s) × (split b (drop from s) ≡ take (end - from) (drop from s) ∷ split b (drop (end + 1) s)))
  unfolding slice
  end_cut =
      let f : end ≡ from + index_of b (drop from s) = e ∙ rw (take-length s) in
      let n = length-drop from s in
      let m : index_of b (drop from s) ≡ end - from = omega arith in
      let o : from + suc (end - from) ≡ end + 1 = omega arith in
      ⊎_elim
      (λ w. inl (omega arith, w.1))
      (λ w. inr (omega arith, rw (m, drop-drop (suc (end - from)) from s, o) at w.2))
      (split_cut b (drop from s))

  -- The field at the place is the part from there to `end`.
  pub field_here : take (end - from) (drop from s) ≡ get_or (split b (drop from s)) 0 []
  field_here =
      let n = length-drop from s in
      ⊎_elim (λ w. rw w.1 (take_all (end - from) (drop from s) (omega arith))) (λ w. rw w.1) end_cut

  -- After the last field there is none.
  pub field-none : (k : ℕ) → length s ≤ end → 0 < k → get_or (split b (drop from s)) k [] ≡ []
  field-none zero g z = absurd (omega arith)
  field-none (suc k) g z = ⊎_elim (λ w. rw w.1) (λ w. absurd (omega arith)) end_cut

  -- After another the fields are those of the rest.
  pub field_next
      : (k : ℕ) → end < length s → get_or (split b (drop from s)) (suc k) [] ≡ get_or (split b (drop (end + 1) s)) k []
  field_next k g = ⊎_elim (λ w. absurd (omega arith)) (λ w. rw w.1) end_cut

-- A text without a separator.
abbrev pub Bare : ℕ → List ℕ → Type 0
Bare b s = (i : ℕ) → i < length s → get_or s i 0 ≡ b → ⊥

-- It is one field.
pub split_bare : (b : ℕ) (s : List ℕ) → Bare b s → split b s ≡ s ∷ []
split_bare b s h = ⊎_elim (λ w. w.1) (λ w. absurd (h (index_of b s) w.0 w.1)) (split_cut b s)

-- A byte that is no separator ahead of a text without one.
bare_cons : (b x : ℕ) (s : List ℕ) → (x ≡ b → ⊥) → Bare b s → Bare b (x ∷ s)
bare_cons b x s h t zero l e = h e
bare_cons b x s h t (suc i) l e = t i (omega arith) e

-- Fields hold no separator.
pub field_bare : (b : ℕ) (s : List ℕ) (k : ℕ) → Bare b (get_or (split b s) k [])
unfolding split
field_bare b [] zero = λ i l e. absurd (omega arith)
field_bare b [] (suc k) = λ i l e. absurd (omega arith)
field_bare b (x ∷ s) zero =
    elim (ℕ_discrete x b) [
      | yes e ↦ rw (eq-eqb x b e) (λ i l e. absurd (omega arith))
      | no e ↦ rw (ne_eqb x b e, onto-first x (split b s)) (bare_cons b x (get_or (split b s) 0 []) e (field_bare b s 0))
    ]
field_bare b (x ∷ s) (suc k) =
    elim (ℕ_discrete x b) [
      | yes e ↦ rw (eq-eqb x b e) (field_bare b s k)
      | no e ↦ rw (ne_eqb x b e, onto_other x (split b s) k) (field_bare b s (suc k))
    ]

-- How many bytes fields have.
abbrev pub total : List (List ℕ) → ℕ
total [] = 0
total (f ∷ fs) = length f + total fs

-- A byte ahead is one more.
onto-total : (x : ℕ) (fs : List (List ℕ)) → total (onto x fs) ≡ suc (total fs)
onto-total x [] = omega arith
onto-total x (f ∷ fs) = omega arith

-- The bytes of a text are those of its fields and the separators between them.
pub total-split : (b : ℕ) (s : List ℕ) → total (split b s) + length (split b s) ≡ length s + 1
unfolding split
total-split b [] = omega arith
total-split b (x ∷ s) =
    let h = total-split b s in
    elim (ℕ_discrete x b) [
      | yes e ↦ rw (eq-eqb x b e) (omega arith)
      | no e ↦ rw (ne_eqb x b e, onto-total x (split b s), onto-count x (split b s) (split-some b s)) (omega arith)
    ]

-- One field has no more bytes than all.
total-one : (fs : List (List ℕ)) (i : ℕ) → length (get_or fs i []) ≤ total fs
total-one [] i = omega arith
total-one (f ∷ fs) zero = omega arith
total-one (f ∷ fs) (suc i) = omega (arith, total-one fs i)

-- Nor have two.
total_two : (fs : List (List ℕ)) (i j : ℕ) → (i ≡ j → ⊥) → length (get_or fs i []) + length (get_or fs j []) ≤ total fs
total_two [] i j h = omega arith
total_two (f ∷ fs) zero zero h = absurd (h refl)
total_two (f ∷ fs) zero (suc j) h = omega (arith, total-one fs j)
total_two (f ∷ fs) (suc i) zero h = omega (arith, total-one fs i)
total_two (f ∷ fs) (suc i) (suc j) h = omega (arith, total_two fs i j (λ e. h (ap suc e)))

module _ (b : ℕ) (s : List ℕ) where
  -- A field is no longer than the text.
  pub field_long : (i : ℕ) → length (get_or (split b s) i []) ≤ length s
  field_long i = omega (arith, total-one (split b s) i, total-split b s, split-some b s)

  -- Nor are two different fields together.
  pub fields_long : (i j : ℕ) → (i ≡ j → ⊥) → length (get_or (split b s) i []) + length (get_or (split b s) j []) ≤ length s
  fields_long i j h = omega (arith, total_two (split b s) i j h, total-split b s, split-some b s)
