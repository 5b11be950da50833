-- Two terminals that see two views of the state: each view is served by itself, and left alone by the other terminal. Assumes nothing.
use mathlib.Core.List.{List, [], ◌∷◌}
use mathlib.Core.Path.{◌≡◌, refl, sym, ◌∙◌, ap, ap₂}
use Rattle.law_terminals.specs.Orders.{Terminal, one, two, Marked, by, only, all, after, answers, told, Undisturbed}
use Rattle.law_terminals.specs.Two.{All}

abbrev pub other : Terminal → Terminal
other one = two
other two = one

module _ {S R A : Type 0} (answer : S → R → A) (next : S → R → S) where
  -- `Same t s u`: s and u are alike in what the terminal t sees; `Fits t r`: r is a request for t to send
  pub record Views (Same : Terminal → S → S → Type 0) (Fits : Terminal → R → Type 0) : Type 0 where
    pub alike : (t : Terminal) (s : S) → Same t s s
    pub flip : (t : Terminal) (s u : S) → Same t s u → Same t u s
    pub join : (t : Terminal) (s u v : S) → Same t s u → Same t u v → Same t s v
    -- what the two see is all there is
    pub whole : (s u : S) → Same one s u → Same two s u → s ≡ u
    -- a terminal's answers go by what it sees
    pub hear : (t : Terminal) (s u : S) (r : R) → Fits t r → Same t s u → answer s r ≡ answer u r
    -- so does what it sees next
    pub keep : (t : Terminal) (s u : S) (r : R) → Fits t r → Same t s u → Same t (next s r) (next u r)
    -- the other's requests change nothing that it sees
    pub spare : (t : Terminal) (s : S) (r : R) → Fits (other t) r → Same t s (next s r)

  module _ (Same : Terminal → S → S → Type 0) (Fits : Terminal → R → Type 0) (v : Views Same Fits) where
    -- what t sees and hears of an order is what it sees and hears of its own requests, from any state that looks alike
    alone
        : (t : Terminal) (s u : S) (zs : List (Marked R)) → All (Fits one) (only one zs) → All (Fits two) (only two zs) → Same t s u
        → (only t (told answer next s zs) ≡ answers answer next u (only t zs)) × Same t (after answer next s (all zs)) (after answer next u (only t zs))
    unfolding only all told after answers
    alone one s u [] f g h = (refl, h)
    alone two s u [] f g h = (refl, h)
    alone one s u (by one r ∷ zs) f g h =
        let w = alone one (next s r) (next u r) zs f.1 g (v.keep one s u r f.0 h) in
        (ap₂ (λ (a : A) (l : List A). a ∷ l) (v.hear one s u r f.0 h) w.0, w.1)
    alone two s u (by two r ∷ zs) f g h =
        let w = alone two (next s r) (next u r) zs f g.1 (v.keep two s u r g.0 h) in
        (ap₂ (λ (a : A) (l : List A). a ∷ l) (v.hear two s u r g.0 h) w.0, w.1)
    alone one s u (by two r ∷ zs) f g h =
        alone one (next s r) u zs f g.1 (v.join one (next s r) s u (v.flip one s (next s r) (v.spare one s r g.0)) h)
    alone two s u (by one r ∷ zs) f g h =
        alone two (next s r) u zs f.1 g (v.join two (next s r) s u (v.flip two s (next s r) (v.spare two s r f.0)) h)

    -- a list of the other's requests changes nothing that t sees
    spared : (t : Terminal) (s : S) (rs : List R) → All (Fits (other t)) rs → Same t s (after answer next s rs)
    unfolding after
    spared t s [] f = v.alike t s
    spared t s (r ∷ rs) f = v.join t s (next s r) _ (v.spare t s r f.0) (spared t (next s r) rs f.1)

    -- so no order disturbs either
    pub undisturbed
        : (s : S) (zs : List (Marked R)) → All (Fits one) (only one zs) → All (Fits two) (only two zs) → Undisturbed answer next s zs
    undisturbed s zs f g =
        let a = after answer next s (only one zs) in
        let b = after answer next s (only two zs) in
        let w₁ = alone one s s zs f g (v.alike one s) in
        let w₂ = alone two s s zs f g (v.alike two s) in
        record {
          told-one = w₁.0;
          told-two = w₂.0;
          one-first =
              v.whole _ _ (v.join one _ a _ w₁.1 (spared one a (only two zs) g))
              (alone two s a zs f g (spared two s (only one zs) f)).1;
          two-first =
              v.whole _ _ (alone one s b zs f g (spared one s (only two zs) g)).1
              (v.join two _ b _ w₂.1 (spared two b (only one zs) f));
        }

  -- where no request changes the state, no order disturbs either
  pub still_undisturbed
      : ((s : S) (r : R) → next s r ≡ s) → (s : S) (zs : List (Marked R)) → Undisturbed answer next s zs
  still_undisturbed same s zs =
      undisturbed (λ t s u. s ≡ u) (λ t r. Unit {0})
      (record {
        alike = λ t s. refl;
        flip = λ t s u h. sym h;
        join = λ t s u v h k. h ∙ k;
        whole = λ s u h k. h;
        hear = λ t s u r f h. ap (λ (x : S). answer x r) h;
        keep = λ t s u r f h. ap (λ (x : S). next x r) h;
        spare = λ t s r f. sym (same s r);
      })
      s zs (any (only one zs)) (any (only two zs))
    where
      any : (rs : List R) → All (λ r. Unit {0}) rs
      any [] = tt
      any (r ∷ rs) = (tt, any rs)
