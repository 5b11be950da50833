-- Laws of fields in a list of bytes: where they lie, what writing them leaves, and that fields apart from each other stand after it. Assumes nothing.
use mathlib.Core.Path.{◌≡◌, refl, sym, ap, ◌∙◌}
use mathlib.Core.Bool.{Bool, true, false, cond, ◌&&◌, ◌||◌, or-true, or_assoc, true≢false}
use mathlib.Core.List.{List, [], ◌∷◌, ◌++◌}
use mathlib.Core.Logic.{◌⊎◌, inl, inr, ⊎_elim}
use Prim.Native.Nat.{ℕ, ◌+◌, ◌-◌, ◌≤◌, ◌<◌}
use native.Mathlib.Omega.{arith}
use native.Mathlib.Decide.{dec_lt}
use lib.Dec.{leb, ltb}
use lib.ListN.{length, get_or}
use lib.Seq.{take-length}
use borrow.Author.Tests.{le-leb, lt-leb, lt-ltb, le-ltb}
use Rattle.byte_parts.specs.Part.{put}
use Rattle.byte_parts.proofs.Part.{length-put, part-put, get_d_part, get_d_put_apart}
use Rattle.handset_bytes.specs.Field.{Field, fields_put}
use Rattle.law_bytes.specs.Used.{is_covered}

-- whether a place lies from a on, before b
abbrev is_between : ℕ → ℕ → ℕ → Bool
is_between a b p = leb a p && ltb p b

between : (a b p : ℕ) → a ≤ p → p < b → is_between a b p ≡ true
between a b p l h = rw (le-leb a p l, lt-ltb p b h)

outside : (a b p : ℕ) → is_between a b p ≡ false → (p + 1 ≤ a) ⊎ (b ≤ p)
outside a b p e =
    elim (dec_lt p a) [
      | yes l ↦ inl (omega arith)
      | no l ↦
          elim (dec_lt p b) [
            | yes h ↦ absurd (true≢false (sym (between a b p (omega arith) h) ∙ e))
            | no h ↦ inr (omega arith)
          ]
    ]

inside : (a b p : ℕ) → is_between a b p ≡ true → (a ≤ p) × (p < b)
inside a b p e =
    elim (dec_lt p a) [
      | yes l ↦ absurd (true≢false (sym e ∙ rw (lt-leb a p l)))
      | no l ↦
          elim (dec_lt p b) [
            | yes h ↦ (omega arith, h)
            | no h ↦ absurd (true≢false (sym e ∙ rw (le-leb a p (omega arith), le-ltb p b (omega arith))))
          ]
    ]

-- neither of two
neither : (a b : Bool) → (a || b) ≡ false → (a ≡ false) × (b ≡ false)
neither true b e = absurd (true≢false e)
neither false b e = (refl, e)

-- either
either : (a b : Bool) → (a || b) ≡ true → (a ≡ true) ⊎ (b ≡ true)
either true b e = inl refl
either false b e = inr e

-- what is not true
pub ne_true : (b : Bool) → (b ≡ true → ⊥) → b ≡ false
ne_true true h = absurd (h refl)
ne_true false h = refl

-- fields one after the other lie over what either lies over
pub covered-append : (fs gs : List Field) (p : ℕ) → is_covered (fs ++ gs) p ≡ (is_covered fs p || is_covered gs p)
unfolding is_covered
covered-append [] gs p = refl
covered-append (f ∷ fs) gs p =
    let t = is_between f.place (f.place + length f.bytes) p in
    ap (λ (u : Bool). t || u) (covered-append fs gs p) ∙ sym (or_assoc t (is_covered fs p) (is_covered gs p))

module _ (f : Field) (fs : List Field) (p : ℕ) where
  -- the first field lies there
  pub covered_first : f.place ≤ p → p < f.place + length f.bytes → is_covered (f ∷ fs) p ≡ true
  unfolding is_covered
  covered_first l h = rw (between f.place (f.place + length f.bytes) p l h)

  -- or a later one
  pub covered_later : is_covered fs p ≡ true → is_covered (f ∷ fs) p ≡ true
  unfolding is_covered
  covered_later e = rw e (or-true (is_between f.place (f.place + length f.bytes) p))

  -- or none
  pub uncovered : (p < f.place) ⊎ (f.place + length f.bytes ≤ p) → is_covered fs p ≡ false → is_covered (f ∷ fs) p ≡ false
  unfolding is_covered
  uncovered (inl h) e = rw (lt-leb f.place p h, e)
  uncovered (inr h) e = rw (le-ltb p (f.place + length f.bytes) h, e) (by (leb f.place p))
    where
      by : (t : Bool) → ((t && false) || false) ≡ false
      by true = refl
      by false = refl

-- what holds of each place of each field
abbrev pub Under : (ℕ → Type 0) → List Field → Type 0
Under Q [] = Unit
Under Q (f ∷ fs) = ((p : ℕ) → f.place ≤ p → p < f.place + length f.bytes → Q p) × Under Q fs

-- holds of each that they lie over
pub under : (Q : ℕ → Type 0) (fs : List Field) (p : ℕ) → Under Q fs → is_covered fs p ≡ true → Q p
unfolding is_covered
under Q [] p u e = absurd (true≢false (sym e))
under Q (f ∷ fs) p u e =
    ⊎_elim
    (λ h. let b = inside f.place (f.place + length f.bytes) p h in u.0 p b.0 b.1)
    (λ h. under Q fs p u.1 h)
    (either (is_between f.place (f.place + length f.bytes) p) (is_covered fs p) e)

-- and what holds of those holds of each place
pub all_under : (Q : ℕ → Type 0) (fs : List Field) → ((p : ℕ) → is_covered fs p ≡ true → Q p) → Under Q fs
all_under Q [] h = tt
all_under Q (f ∷ fs) h = (λ p l k. h p (covered_first f fs p l k), all_under Q fs (λ p e. h p (covered_later f fs p e)))

-- of two lists of fields
pub under_split : (Q : ℕ → Type 0) (fs gs : List Field) → Under Q (fs ++ gs) → Under Q fs × Under Q gs
under_split Q [] gs u = (tt, u)
under_split Q (f ∷ fs) gs u = let v = under_split Q fs gs u.1 in ((u.0, v.0), v.1)

-- fields that lie apart from each other
abbrev pub Apart : List Field → Type 0
Apart [] = Unit
Apart (f ∷ fs) = ((p : ℕ) → f.place ≤ p → p < f.place + length f.bytes → is_covered fs p ≡ false) × Apart fs

pub apart_append : (fs gs : List Field) → Apart fs → Apart gs → Under (λ p. is_covered gs p ≡ false) fs → Apart (fs ++ gs)
apart_append [] gs a b u = b
apart_append (f ∷ fs) gs a b u =
    (λ p l h. covered-append fs gs p ∙ rw (a.0 p l h, u.0 p l h), apart_append fs gs a.1 b u.1)

-- fields of rising places, from b on
abbrev pub Rising : ℕ → List Field → Type 0
Rising b [] = Unit
Rising b (f ∷ fs) = (b ≤ f.place) × Rising (f.place + length f.bytes) fs

pub rising_clear : (b : ℕ) (fs : List Field) (p : ℕ) → Rising b fs → p < b → is_covered fs p ≡ false
unfolding is_covered
rising_clear b [] p r h = refl
rising_clear b (f ∷ fs) p r h = uncovered f fs p (inl (omega (arith, r.0))) (rising_clear (f.place + length f.bytes) fs p r.1 (omega (arith, r.0)))

pub rising_apart : (b : ℕ) (fs : List Field) → Rising b fs → Apart fs
rising_apart b [] r = tt
rising_apart b (f ∷ fs) r =
    (λ p l h. rising_clear (f.place + length f.bytes) fs p r.1 h, rising_apart (f.place + length f.bytes) fs r.1)

-- fields that lie in the first n bytes
abbrev pub Within : ℕ → List Field → Type 0
Within n [] = Unit
Within n (f ∷ fs) = (f.place + length f.bytes ≤ n) × Within n fs

pub within-append : (n : ℕ) (fs gs : List Field) → Within n fs → Within n gs → Within n (fs ++ gs)
within-append n [] gs a b = b
within-append n (f ∷ fs) gs a b = (a.0, within-append n fs gs a.1 b)

-- fields whose bytes stand at their places
abbrev pub Stands : List ℕ → Field → Type 0
Stands s f = (k : ℕ) → k < length f.bytes → get_or s (f.place + k) 0 ≡ get_or f.bytes k 0

abbrev pub AllStand : List ℕ → List Field → Type 0
AllStand s [] = Unit
AllStand s (f ∷ fs) = Stands s f × AllStand s fs

pub stand_split : (s : List ℕ) (fs gs : List Field) → AllStand s (fs ++ gs) → AllStand s fs × AllStand s gs
stand_split s [] gs a = (tt, a)
stand_split s (f ∷ fs) gs a = let b = stand_split s fs gs a.1 in ((a.0, b.0), b.1)

pub stand_append : (s : List ℕ) (fs gs : List Field) → AllStand s fs → AllStand s gs → AllStand s (fs ++ gs)
stand_append s [] gs a b = b
stand_append s (f ∷ fs) gs a b = (a.0, stand_append s fs gs a.1 b)

-- a byte of what was put
own_byte : (z : List ℕ) (at : ℕ) (t : List ℕ) (k : ℕ) → at + length t ≤ length z → k < length t → get_or (put z at (length t) t) (at + k) 0 ≡ get_or t k 0
own_byte z at t k h l =
    let n = length t in
    let whole = part-put z at n t h (omega arith) ∙ take-length t in
    sym (get_d_part (put z at n t) at n k l) ∙ ap (λ (x : List ℕ). get_or x k 0) whole

-- a place that no field lies over stays
uncovered_kept : (fs : List Field) (z : List ℕ) (p : ℕ) → is_covered fs p ≡ false → get_or (fields_put fs z) p 0 ≡ get_or z p 0
unfolding is_covered fields_put
uncovered_kept [] z p e = refl
uncovered_kept (f ∷ fs) z p e =
    let n = neither (is_between f.place (f.place + length f.bytes) p) (is_covered fs p) e in
    uncovered_kept fs (put z f.place (length f.bytes) f.bytes) p n.1
    ∙ get_d_put_apart z f.place (length f.bytes) f.bytes p (outside f.place (f.place + length f.bytes) p n.0)

-- fields that are apart stand after they were written
pub written_stand : (fs : List Field) (z : List ℕ) → Apart fs → Within (length z) fs → AllStand (fields_put fs z) fs
unfolding fields_put
written_stand [] z a w = tt
written_stand (f ∷ fs) z a w =
    let y = put z f.place (length f.bytes) f.bytes in
    let long : length y ≡ length z = length-put z f.place (length f.bytes) f.bytes in (
      λ k h.
          uncovered_kept fs y (f.place + k) (a.0 (f.place + k) (omega arith) (omega arith)) ∙ own_byte z f.place f.bytes k w.0 h,
      written_stand fs y a.1 (rw long w.1),
    )

-- a field that stands in s, put into z: its places read as in s, the others as in z
field_put : (s z : List ℕ) (f : Field) (p : ℕ) → Stands s f → f.place + length f.bytes ≤ length z →
    get_or (put z f.place (length f.bytes) f.bytes) p 0 ≡ cond (is_between f.place (f.place + length f.bytes) p) (get_or s p 0) (get_or z p 0)
field_put s z f p h w = by (is_between a (a + n) p) refl
  where
    a : ℕ
    a = f.place

    n : ℕ
    n = length f.bytes

    by : (t : Bool) → is_between a (a + n) p ≡ t → get_or (put z a n f.bytes) p 0 ≡ cond t (get_or s p 0) (get_or z p 0)
    by false e = get_d_put_apart z a n f.bytes p (outside a (a + n) p e)
    by true e =
        let b = inside a (a + n) p e in
        let k = p - a in
        let q : a + k ≡ p = omega (arith, b.0) in
        let l : k < n = omega (arith, b.0, b.1) in
        ap (λ (x : ℕ). get_or (put z a n f.bytes) x 0) (sym q) ∙ (own_byte z a f.bytes k w l ∙ (sym (h k l) ∙ ap (λ (x : ℕ). get_or s x 0) q))

-- of one or the other
chosen : (t u : Bool) (x y : ℕ) → cond u x (cond t x y) ≡ cond (t || u) x y
chosen true true x y = refl
chosen true false x y = refl
chosen false u x y = refl

-- fields that stand in s, written into z
pub stood : (s : List ℕ) (fs : List Field) (z : List ℕ) (p : ℕ) → AllStand s fs → Within (length z) fs →
    get_or (fields_put fs z) p 0 ≡ cond (is_covered fs p) (get_or s p 0) (get_or z p 0)
unfolding is_covered fields_put
stood s [] z p a w = refl
stood s (f ∷ fs) z p a w =
    let y = put z f.place (length f.bytes) f.bytes in
    let long : length y ≡ length z = length-put z f.place (length f.bytes) f.bytes in
    let t = is_between f.place (f.place + length f.bytes) p in
    stood s fs y p a.1 (rw long w.1)
    ∙ (ap (λ (x : ℕ). cond (is_covered fs p) (get_or s p 0) x) (field_put s z f p a.0 w.0) ∙ chosen t (is_covered fs p) (get_or s p 0) (get_or z p 0))
