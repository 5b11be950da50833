-- A walk as its steps, one after the other, and what becomes of a state over them. Assumes nothing.
use Prim.Native.Nat.{ℕ}
use native.Mathlib.Omega.{arith}
use mathlib.Core.Path.{◌≡◌, refl, sym, ◌∙◌}
use mathlib.Core.List.{List, [], ◌∷◌}
use mathlib.Core.Logic.{◌⊎◌, inl, inr, ⊎_elim}
use Rattle.answers.specs.declared.status.Fault.{Fault}
use Rattle.request_runs.specs.Runs.{Walked, bad, good, then}

-- a failure is no state
pub failure : {B S : Type 0} {i : ℕ} {f : Fault} {s : S} → bad i f ≡ good s → B
failure e = absurd (let z : ◌≡◌ {A = ℕ} 0 1 = cc in (omega arith))

-- two steps that pass: the first does, and the second from where it ended
pub then-good : {S : Type 0} (r : Walked S) (g : S → Walked S) {t : S} → then r g ≡ good t → (s : S) × (r ≡ good s) × (g s ≡ good t)
unfolding then
then-good (bad i f) g e = failure e
then-good (good s) g e = (s, refl, e)

-- two steps that fail: the first does, or the second from where it ended
then-bad : {S : Type 0} (r : Walked S) (g : S → Walked S) {i : ℕ} {f : Fault} → then r g ≡ bad i f →
    (r ≡ bad i f) ⊎ (s : S) × (r ≡ good s) × (g s ≡ bad i f)
unfolding then
then-bad (bad i f) g e = inl e
then-bad (good s) g e = inr (s, refl, e)

-- each of a list
abbrev pub Each : {P : Type 0} → (P → Type 0) → List P → Type 0
Each F [] = Unit {0}
Each F (p ∷ ps) = F p × Each F ps

-- each of a list with each that comes after it
abbrev pub Pairs : {P : Type 0} → (P → P → Type 0) → List P → Type 0
Pairs D [] = Unit {0}
Pairs D (p ∷ ps) = Each (D p) ps × Pairs D ps

-- what follows from another
pub each_map : {P : Type 0} (F G : P → Type 0) → ((p : P) → F p → G p) → (ps : List P) → Each F ps → Each G ps
each_map F G f [] h = tt
each_map F G f (p ∷ ps) h = (f p h.0, each_map F G f ps h.1)

pub each_both : {P : Type 0} (F G : P → Type 0) (ps : List P) → Each F ps → Each G ps → Each (λ p. F p × G p) ps
each_both F G [] f g = tt
each_both F G (p ∷ ps) f g = ((f.0, g.0), each_both F G ps f.1 g.1)

pub pairs-map : {P : Type 0} (F : P → Type 0) (D G : P → P → Type 0) → ((p q : P) → F p → F q → D p q → G p q) →
    (ps : List P) → Each F ps → Pairs D ps → Pairs G ps
pairs-map {P} F D G f [] e h = tt
pairs-map {P} F D G f (p ∷ ps) e h = (here ps e.1 h.0, pairs-map F D G f ps e.1 h.1)
  where
    here : (qs : List P) → Each F qs → Each (D p) qs → Each (G p) qs
    here [] a b = tt
    here (q ∷ qs) a b = (f p q e.0 a.0 b.0, here qs a.1 b.1)

-- steps, one after the other
unfoldable pub stepped : {P S : Type 0} → (P → S → Walked S) → List P → S → Walked S
stepped act [] s = good s
stepped act (p ∷ ps) s = then (act p s) (λ t. stepped act ps t)

module _ {P S : Type 0} (act : P → S → Walked S) (Ok : P → Type 0) (Fit : S → Type 0) where
  -- steps that pass lead to what each of them leads to, where that goes on
  pub stepped_leads
      : (R : S → S → Type 0) → ((s : S) → R s s) → ((s u t : S) → R s u → R u t → R s t)
      → ((p : P) (s t : S) → Ok p → Fit s → act p s ≡ good t → Fit t × R s t)
      → (ps : List P) (s t : S) → Each Ok ps → Fit s → stepped act ps s ≡ good t → Fit t × R s t
  unfolding stepped
  stepped_leads R stay join step [] s t o f e = let q : s ≡ t = cc in rw (← q) (f, stay s)
  stepped_leads R stay join step (p ∷ ps) s t o f e =
      let h = then-good (act p s) (λ u. stepped act ps u) e in
      let k = step p s h.0 o.0 f h.1 in
      let w = stepped_leads R stay join step ps h.0 t o.1 k.0 h.2 in
      (w.0, join s h.0 t k.1 w.1)

  -- Views of the state, each with steps of its own.
  module _ {N W : Type 0} (R : N → Type 0) (view : N → S → W) (own : N → P → W → Walked W) where
    -- a step that passes does so in each view
    abbrev pub Shows : Type 0
    Shows = (n : N) (p : P) (s t : S) → R n → Ok p → Fit s → act p s ≡ good t → Fit t × (own n p (view n s) ≡ good (view n t))

    -- one that fails does so in one of them
    abbrev pub Tells : Type 0
    Tells = (p : P) (s : S) (i : ℕ) (f : Fault) → Ok p → Fit s → act p s ≡ bad i f → (n : N) × R n × (own n p (view n s) ≡ bad i f)

    module _ (shows : Shows) where
      -- so do all steps
      pub stepped-shows : (n : N) (ps : List P) (s t : S) → R n → Each Ok ps → Fit s → stepped act ps s ≡ good t →
          Fit t × (stepped (own n) ps (view n s) ≡ good (view n t))
      unfolding stepped then
      stepped-shows n [] s t r o f e = let q : s ≡ t = cc in rw (← q) (f, refl)
      stepped-shows n (p ∷ ps) s t r o f e =
          let h = then-good (act p s) (λ u. stepped act ps u) e in
          let k = shows n p s h.0 r o.0 f h.1 in
          let w = stepped-shows n ps h.0 t r o.1 k.0 h.2 in
          (w.0, rw k.1 w.1)

      pub stepped_tells : ((p : P) (s t : S) → Ok p → Fit s → act p s ≡ good t → Fit t) → Tells → (ps : List P) (s : S) (i : ℕ) (f : Fault) → Each Ok ps → Fit s → stepped act ps s ≡ bad i f →
          (n : N) × R n × (stepped (own n) ps (view n s) ≡ bad i f)
      unfolding stepped then
      stepped_tells fit tells [] s i f o g e = failure (sym e)
      stepped_tells fit tells (p ∷ ps) s i f o g e =
          ⊎_elim
          (λ h. let k = tells p s i f o.0 g h in (k.0, k.1, rw k.2))
          (λ h.
          let w = stepped_tells fit tells ps h.0 i f o.1 (fit p s h.0 o.0 g h.1) h.2 in
          (w.0, w.1, rw (shows w.0 p s h.0 w.1 o.0 g h.1).1 w.2))
          (then-bad (act p s) (λ u. stepped act ps u) e)

  -- Steps that change nothing where they are done again, if no later one undoes them.
  pub record Settles (Apart : P → P → Type 0) : Type 0 where
    pub again : (p : P) (s t : S) → Ok p → Fit s → act p s ≡ good t → Fit t × (act p t ≡ good t)
    pub stays : (p q : P) (s t : S) → Ok p → Ok q → Apart p q → Fit s → act p s ≡ good s → act q s ≡ good t → act p t ≡ good t

  module _ (Apart : P → P → Type 0) (k : Settles Apart) where
    -- one that changes nothing, after later ones
    later : (p : P) (ps : List P) (s t : S) → Ok p → Each Ok ps → Each (Apart p) ps → Fit s → act p s ≡ good s → stepped act ps s ≡ good t →
        act p t ≡ good t
    unfolding stepped
    later p [] s t o os a f h e = let q : s ≡ t = cc in rw (← q) h
    later p (q ∷ ps) s t o os a f h e =
        let m = then-good (act q s) (λ u. stepped act ps u) e in
        later p ps m.0 t o os.1 a.1 (k.again q s m.0 os.0 f m.1).0 (k.stays p q s m.0 o os.0 a.0 f h m.1) m.2

    -- each changes nothing of what all of them leave
    settled : (ps : List P) (s t : S) → Each Ok ps → Pairs Apart ps → Fit s → stepped act ps s ≡ good t → Each (λ p. act p t ≡ good t) ps
    unfolding stepped
    settled [] s t os a f e = tt
    settled (p ∷ ps) s t os a f e =
        let m = then-good (act p s) (λ u. stepped act ps u) e in
        let g = k.again p s m.0 os.0 f m.1 in
        (later p ps m.0 t os.0 os.1 a.0 g.0 g.1 m.2, settled ps m.0 t os.1 a.1 g.0 m.2)

    -- so neither do all
    pub settled_again : (ps : List P) (s t : S) → Each Ok ps → Pairs Apart ps → Fit s → stepped act ps s ≡ good t → stepped act ps t ≡ good t
    unfolding stepped then
    settled_again ps s t os a f e = still ps (settled ps s t os a f e)
      where
        still : (qs : List P) → Each (λ p. act p t ≡ good t) qs → stepped act qs t ≡ good t
        still [] h = refl
        still (q ∷ qs) h = rw h.0 (still qs h.1)

  -- Steps of which each sets a value, whatever it was, or leaves it.
  module _ {A : Type 0} (value : S → A) where
    abbrev pub Sets : P → Type 0
    Sets p =
        ((s t u v : S) → Fit s → Fit u → act p s ≡ good t → act p u ≡ good v → value t ≡ value v)
        ⊎ ((s t : S) → Fit s → act p s ≡ good t → value t ≡ value s)

    module _ (fit : (p : P) (s t : S) → Ok p → Fit s → act p s ≡ good t → Fit t) where
      -- so do all
      pub stepped-sets : (ps : List P) → Each Ok ps → Each Sets ps →
          ((s t u v : S) → Fit s → Fit u → stepped act ps s ≡ good t → stepped act ps u ≡ good v → value t ≡ value v)
          ⊎ ((s t : S) → Fit s → stepped act ps s ≡ good t → value t ≡ value s)
      unfolding stepped
      stepped-sets [] os h = inr (λ s t f e. let q : s ≡ t = cc in rw q)
      stepped-sets (p ∷ ps) os h =
          ⊎_elim
          (λ a. inl (λ s t u v f g e d.
          let m = then-good (act p s) (λ x. stepped act ps x) e in
          let n = then-good (act p u) (λ x. stepped act ps x) d in
          a m.0 t n.0 v (fit p s m.0 os.0 f m.1) (fit p u n.0 os.0 g n.1) m.2 n.2))
          (λ b. ⊎_elim
          (λ a. inl (λ s t u v f g e d.
          let m = then-good (act p s) (λ x. stepped act ps x) e in
          let n = then-good (act p u) (λ x. stepped act ps x) d in
          b m.0 t (fit p s m.0 os.0 f m.1) m.2 ∙ a s m.0 u n.0 f g m.1 n.1
          ∙ sym (b n.0 v (fit p u n.0 os.0 g n.1) n.2)))
          (λ a. inr (λ s t f e.
          let m = then-good (act p s) (λ x. stepped act ps x) e in
          b m.0 t (fit p s m.0 os.0 f m.1) m.2 ∙ a s m.0 f m.1))
          h.0)
          (stepped-sets ps os.1 h.1)

      -- and what they leave they leave again
      pub sets-again : (ps : List P) (s t u : S) → Each Ok ps → Each Sets ps → Fit s → Fit t → stepped act ps s ≡ good t → stepped act ps t ≡ good u →
          value u ≡ value t
      sets-again ps s t u os h f g e d = ⊎_elim (λ a. a t u s t g f d e) (λ a. a t u g d) (stepped-sets ps os h)
