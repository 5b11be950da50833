-- The frame laws of a request: it reads only the bytes of the stores that its rows hold, and changes only those. Assumes nothing.
use Prim.Native.Nat.{ℕ, ◌+◌, ◌*◌, ◌≤◌, ◌<◌}
use mathlib.Core.Path.{◌≡◌, refl, ap₂, subst}
use mathlib.Core.Bool.{Bool, true, false}
use mathlib.Core.List.{List, [], ◌∷◌, ◌++◌}
use lib.ListN.{length, take}
use Rattle.block_list.specs.declared.element.BlockListElement.{BlockListElement}
use Rattle.byte_parts.specs.Part.{part}
use Rattle.answers.specs.Outcome.{Outcome, passed, failed}
use Rattle.card_build.specs.declared.card.Card.{Card}
use Rattle.request_check.specs.declared.table.Row.{Row}
use Rattle.request_check.specs.Row.{row_at_index, row_in, number_in}
use Rattle.request_rules.specs.Lens.{back, within}
use Rattle.request_rules.specs.Rules.{on_store}
use Rattle.request_runs.specs.Runs.{Walked, bad, good, then, runs_of}
use Rattle.request_runs.specs.Staged.{at_index, element_on, end_on, staged}
use Rattle.request_plan.specs.declared.Reply.TheVariants.{Failed}
use Rattle.request_plan.specs.Request.{Request}
use Rattle.request_plan.specs.Plan.{Plan, stop, go, plan_of, rows_in}
use Rattle.request_plan.specs.Serve.{Served, blocks_read, committed, carried, plan_served, serve}
use Rattle.request_plan.proofs.Same.{Same, same_refl, same_trans_lem, same_take, part_same, put_same, put_spare, front_same, front_spare}
use Rattle.request_plan.proofs.Walks.{walk_is}

-- byte i of the arena is one of the row's store
abbrev pub LiesIn : Row → ℕ → Type 0
LiesIn w i = (16 * w.start ≤ i) × (i < 16 * w.start + 16 * w.blocks)

module _ (P : ℕ → Type 0) where
  -- the same failure, or states alike at P
  abbrev pub Alike : Walked (List ℕ) → Walked (List ℕ) → Type 0
  Alike (bad i k) (bad j l) = (i ≡ j) × (k ≡ l)
  Alike (bad i k) (good u) = ⊥
  Alike (good s) (bad j l) = ⊥
  Alike (good s) (good u) = Same P s u

  -- a failure, or a state that is as it was at P
  abbrev pub Spared : List ℕ → Walked (List ℕ) → Type 0
  Spared s (bad i k) = Unit {0}
  Spared s (good u) = Same P s u

  -- a step that reads nothing outside P
  abbrev Keeps : (List ℕ → Walked (List ℕ)) → Type 0
  Keeps f = (s u : List ℕ) → Same P s u → Alike (f s) (f u)

  -- a step that changes nothing in P
  abbrev Spares : (List ℕ → Walked (List ℕ)) → Type 0
  Spares f = (s : List ℕ) → Spared s (f s)

  keeps_then : (r q : Walked (List ℕ)) (g : List ℕ → Walked (List ℕ)) → Alike r q → Keeps g → Alike (then r g) (then q g)
  unfolding then
  keeps_then (bad i k) (bad j l) g h w = h
  keeps_then (bad i k) (good u) g h w = absurd h
  keeps_then (good s) (bad j l) g h w = absurd h
  keeps_then (good s) (good u) g h w = w s u h

  spares_then : (s : List ℕ) (r : Walked (List ℕ)) (g : List ℕ → Walked (List ℕ)) → Spared s r → Spares g → Spared s (then r g)
  unfolding then
  spares_then s (bad i k) g h w = tt
  spares_then s (good u) g h w = on (g u) (w u)
    where
      on : (q : Walked (List ℕ)) → Spared u q → Spared s q
      on (bad i k) m = tt
      on (good v) m = same_trans_lem P s u v h m

  module _ (i : ℕ) (w : Row) (rule : List ℕ → Outcome) where
    -- whatever the rule is, on a store within P it reads nothing outside P
    keeps_on : ((k : ℕ) → LiesIn w k → P k) → Keeps (λ s. at_index i (on_store w rule s))
    unfolding on_store within back
    keeps_on m s u h =
        rw (part_same P s u (16 * w.start) (16 * w.blocks) h (λ k a b. m k (a, b))) (here (rule (part u (16 * w.start) (16 * w.blocks))))
      where
        here : (o : Outcome) → Alike (at_index i (back s (16 * w.start) (16 * w.blocks) o)) (at_index i (back u (16 * w.start) (16 * w.blocks) o))
        here (failed f) = (refl, refl)
        here (passed t) = put_same P s u (16 * w.start) (16 * w.blocks) t h

    -- on a store outside P it changes nothing in P
    spares_on : ((k : ℕ) → LiesIn w k → P k → ⊥) → Spares (λ s. at_index i (on_store w rule s))
    unfolding on_store within back
    spares_on m s = here (rule (part s (16 * w.start) (16 * w.blocks)))
      where
        here : (o : Outcome) → Spared s (at_index i (back s (16 * w.start) (16 * w.blocks) o))
        here (failed f) = tt
        here (passed t) = put_spare P s (16 * w.start) (16 * w.blocks) t (λ k a b. m k (a, b))

  module _ (rows : List Row) («data» : List ℕ) (es : List BlockListElement) where
    -- the runs read nothing outside P, where the rows' stores lie within it
    pub staged_keeps : ((j i : ℕ) → LiesIn (row_at_index rows j) i → P i) → Keeps (staged rows «data» es)
    unfolding staged
    staged_keeps m =
        walk_is (element_on rows «data») (end_on rows «data») Keeps
        (record {
          stay = λ s u h. h;
          both = λ f g a b s u h. keeps_then (f s) (f u) g (a s u h) b;
          one_is_lem = λ i e. keeps_on i (row_in rows e) _ (m e.index);
          close_is = λ i e n. keeps_on i (row_in rows e) _ (m e.index);
        })
        0 (runs_of (number_in rows) es)

    -- they change nothing in P, where the rows' stores lie outside it
    pub staged_spares : ((j i : ℕ) → LiesIn (row_at_index rows j) i → P i → ⊥) → Spares (staged rows «data» es)
    unfolding staged
    staged_spares m =
        walk_is (element_on rows «data») (end_on rows «data») Spares
        (record {
          stay = λ s. same_refl P s;
          both = λ f g a b s. spares_then s (f s) g (a s) b;
          one_is_lem = λ i e. spares_on i (row_in rows e) _ (m e.index);
          close_is = λ i e n. spares_on i (row_in rows e) _ (m e.index);
        })
        0 (runs_of (number_in rows) es)

  -- the caller is told the same, and the arenas are left alike
  pub record Like (x y : Served) : Type 0 where
    pub reply : x.reply ≡ y.reply
    pub read : x.read ≡ y.read
    pub left : Same P x.arena y.arena

  module _ (c : Card) (r : Request) where
    abbrev rows : List Row
    rows = rows_in c r

    abbrev size : ℕ
    size = 16 * c.used

    -- the request's stores lie within P
    module _ (m : (j i : ℕ) → LiesIn (row_at_index rows j) i → P i) where
      read_keeps : (a u : List ℕ) (es : List BlockListElement) → Same P a u → blocks_read rows a es ≡ blocks_read rows u es
      unfolding blocks_read
      read_keeps a u [] h = refl
      read_keeps a u (e ∷ es) h =
          let w = row_in rows e in
          ap₂ (λ (s l : List ℕ). part s (16 * e.number) 16 ++ l)
          (part_same P a u (16 * w.start) (16 * w.blocks) h (λ i x y. m e.index i (x, y)))
          (read_keeps a u es h)

      plan_keeps : (a u : List ℕ) (p : Plan) → Same P a u → Like (plan_served c a r p) (plan_served c u r p)
      unfolding carried committed
      plan_keeps a u (stop x) h = record { reply = refl; read = refl; left = h }
      plan_keeps a u (go es) h = here r.write
        where
          done : (x y : Walked (List ℕ)) → Alike x y → Like (committed size a x) (committed size u y)
          done (bad i k) (bad j l) w = record { reply = λ d. Failed (w.0 d) (w.1 d); read = refl; left = h }
          done (bad i k) (good v) w = absurd w
          done (good s) (bad j l) w = absurd w
          done (good s) (good v) w = record { reply = refl; read = refl; left = front_same P a u size s v h w }

          here : (b : Bool) → Like (carried b rows size r.«data» a es) (carried b rows size r.«data» u es)
          here true =
              done (staged rows r.«data» es (take size a)) (staged rows r.«data» es (take size u))
              (staged_keeps rows r.«data» es m _ _ (same_take P size a u h))
          here false = record { reply = refl; read = read_keeps a u es h; left = h }

      -- A request is answered by the bytes of its own stores alone, and leaves them so. What it is refused goes by the arena's length.
      pub serve_keeps : (a u : List ℕ) → Same P a u → Like (serve c a r) (serve c u r)
      unfolding serve
      serve_keeps a u h =
          subst (λ n. Like (plan_served c a r (plan_of c (length a) r)) (plan_served c u r (plan_of c n r))) h.long
          (plan_keeps a u (plan_of c (length a) r) h)

    -- the request's stores lie outside P
    module _ (m : (j i : ℕ) → LiesIn (row_at_index rows j) i → P i → ⊥) where
      plan_spares : (a : List ℕ) (p : Plan) → Same P a (plan_served c a r p).arena
      unfolding carried committed
      plan_spares a (stop x) = same_refl P a
      plan_spares a (go es) = here r.write
        where
          done : (x : Walked (List ℕ)) → Spared (take size a) x → Same P a (committed size a x).arena
          done (bad i k) w = same_refl P a
          done (good s) w = front_spare P a size s w

          here : (b : Bool) → Same P a (carried b rows size r.«data» a es).arena
          here true = done (staged rows r.«data» es (take size a)) (staged_spares rows r.«data» es m (take size a))
          here false = same_refl P a

      -- a request changes no byte outside its own stores
      pub serve_spares : (a : List ℕ) → Same P a (serve c a r).arena
      unfolding serve
      serve_spares a = plan_spares a (plan_of c (length a) r)
