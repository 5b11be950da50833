-- Requests that are lent enough on both cards are answered the same, one and many. Assumes nothing.
use Prim.Native.Nat.{ℕ, ◌*◌}
use mathlib.Core.Path.{◌≡◌, refl, sym, ap₂, subst}
use mathlib.Core.Bool.{Bool, true, false, cond}
use mathlib.Core.List.{List, [], ◌∷◌}
use lib.ListN.{length}
use borrow.Author.Tests.{le-ltb}
use Rattle.card_nodes.specs.declared.node.Node.{Node}
use Rattle.request_plan.specs.Request.{Request}
use Rattle.request_plan.specs.Plan.{write_judged, read_judged, judged_with}
use Rattle.card_moved.specs.Moved.{moved, StoresWithin}
use Rattle.law_terminals.specs.Orders.{after, answers}
use Rattle.law_terminals.specs.Two.{Answer, All}
use Rattle.law_systems.specs.On.{sizes_on, judged_on, serve_on, answer_on, arena_on, told_on, left_on}
use Rattle.law_systems.specs.Alike.{StoresAlike, ServedAlike, LentEnough}
use Rattle.law_systems.proofs.Spares.{serve_on_long}
use Rattle.law_systems.proofs.Systems.{judged_alike}

-- they are judged the same
lent_judged_lem : (sound : Bool) (used blocks long size : ℕ) (r : Request) → LentEnough used long r → LentEnough blocks size r →
    judged_on sound used long r ≡ judged_on sound blocks size r
unfolding judged_with write_judged read_judged
lent_judged_lem sound used blocks long size r x y =
    rw (le-ltb long (16 * used) x.0, le-ltb size (16 * blocks) y.0, by_kind r.write refl)
  where
    by_kind : (w : Bool) → r.write ≡ w →
        cond w (write_judged (sizes_on used long r)) (read_judged (sizes_on used long r))
        ≡ cond w (write_judged (sizes_on blocks size r)) (read_judged (sizes_on blocks size r))
    by_kind true e = rw (le-ltb r.room (16 * used) (x.1 e), le-ltb r.room (16 * blocks) (y.1 e))
    by_kind false e = refl

module _ (ns : List Node) (k used blocks : ℕ) (far : StoresWithin (moved k ns) used) (near : StoresWithin ns blocks) (sound : Bool) where
  -- one of them
  pub lent_alike : (a b : List ℕ) (r : Request) → LentEnough used (length a) r → LentEnough blocks (length b) r → StoresAlike k ns a b →
      ServedAlike k ns (serve_on sound (moved k ns) used a r) (serve_on sound ns blocks b r)
  unfolding serve_on
  lent_alike a b r x y h =
      rw (lent_judged_lem sound used blocks (length a) (length b) r x y)
      (judged_alike ns k used blocks far near a b r (judged_on sound blocks (length b) r) h (λ e. (x.0, y.0)))

  -- any list of them
  pub all_alike : (a b : List ℕ) (rs : List Request) → All (LentEnough used (length a)) rs → All (LentEnough blocks (length b)) rs →
      StoresAlike k ns a b →
      (told_on sound (moved k ns) used a rs ≡ told_on sound ns blocks b rs)
      × StoresAlike k ns (left_on sound (moved k ns) used a rs) (left_on sound ns blocks b rs)
  unfolding answers after
  all_alike a b [] x y h = (refl, h)
  all_alike a b (r ∷ rs) x y h =
      let s = lent_alike a b r x.0 y.0 h in
      let w = all_alike (arena_on sound (moved k ns) used a r) (arena_on sound ns blocks b r) rs
      (subst (λ n. All (LentEnough used n) rs) (sym (serve_on_long sound (moved k ns) used a r)) x.1)
      (subst (λ n. All (LentEnough blocks n) rs) (sym (serve_on_long sound ns blocks b r)) y.1) s.left in
      let t : answer_on sound (moved k ns) used a r ≡ answer_on sound ns blocks b r =
      λ i. record { reply = s.reply i; read = s.read i } in
      (ap₂ (λ (z : Answer) (l : List Answer). z ∷ l) t w.0, w.1)
