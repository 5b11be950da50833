-- The two rules in positions (E7): before a line a stretch is open exactly where a refused area is followed by deeper lines alone, and limits
-- are orphaned exactly where a dropped service has no kept line behind it. Assumes nothing.
use Rattle.std.proofs.Common.{Option, Some, None}
use Prim.Native.Nat.{ℕ, ◌<◌}
use native.Mathlib.Omega.{arith}
use native.Mathlib.Decide.{dec_lt}
use mathlib.Core.Path.{◌≡◌, refl, ap, ◌∙◌}
use mathlib.Core.Bool.{Bool, true, false, cond, false≢true}
use mathlib.Core.List.{List, [], ◌∷◌, ◌++◌}
use mathlib.Core.Logic.{◌⊎◌, inl, inr, ⊎_elim, ◌↔◌}
use lib.Dec.{ltb}
use borrow.Author.Tests.{lt-ltb, le-ltb}
use Rattle.text_pieces.specs.Piece.{Piece, line_of}
use Rattle.salvage_rule.specs.declared.Depth.{Depth}
use Rattle.salvage_rule.specs.declared.Depth.TheVariants.{Flat, Area, Service}
use Rattle.salvage_rule.specs.declared.Fate.{Fate}
use Rattle.salvage_rule.specs.declared.Fate.TheVariants.{Kept, Parent, Number}
use Rattle.salvage_rule.specs.Rule.{ended_by, begun_by, stretch_after, orphaned_after, deeper}
use Rattle.salvage_rule.specs.Salvage.{Builder, Between, fresh, takes_line, fate_of, stepped, stepped_all, fates_from}
use Rattle.salvage_rule.specs.Position.{StaysIn, NoneKept, AllStayIn, Opened, Orphaned}
use Rattle.salvage_rule.proofs.Report.{parent_taken}

-- the depth of a stretch
over : Option ℕ → ℕ
over None = 0
over (Some d) = d

is_open : Option ℕ → Bool
is_open None = false
is_open (Some d) = true

free_no : (d : ℕ) → None ≡ Some d → ⊥
unfolding is_open
free_no d e = false≢true (ap is_open e)

below_same : (a d : ℕ) → Some a ≡ Some d → a ≡ d
unfolding over
below_same a d e = ap over e

is_kept : Fate → Bool
is_kept Kept = true
is_kept Parent = false
is_kept (Number n) = false

parent_dropped : Parent ≡ Kept → ⊥
unfolding is_kept
parent_dropped e = false≢true (ap is_kept e)

pub number-dropped : (n : ℕ) → Number n ≡ Kept → ⊥
unfolding is_kept
number-dropped n e = false≢true (ap is_kept e)

-- a line that is not deep enough to end a stretch leaves it, where a deeper one is taken
stays : (d : ℕ) (x : Depth) (f : Fate) → StaysIn d x → (deeper (Some d) x ≡ true → f ≡ Parent) → stretch_after f (Some d) x ≡ Some d
stays d Flat Kept h k = refl
stays d Flat Parent h k = refl
stays d Flat (Number n) h k = refl
stays d (Area own) f h k =
    ap (λ (g : Fate). stretch_after g (Some d) (Area own)) (k (lt-ltb d own h)) ∙ rw (lt-ltb d own h)
stays d (Service own) f h k =
    ap (λ (g : Fate). stretch_after g (Some d) (Service own)) (k (lt-ltb d own h)) ∙ rw (lt-ltb d own h)

-- a stretch that a line leaves open was open, and the line is not one that ends it
cut_back_lem : (o own d : ℕ) → cond (ltb o own) (Some o) None ≡ Some d → (Some o ≡ Some d) × (d < own)
cut_back_lem o own d e =
    elim (dec_lt o own) [
      | yes h ↦
          let q : Some o ≡ Some d = rw (lt-ltb o own h) at e in
          let k = below_same o d q in
          (q, omega (arith, k, h))
      | no h ↦ absurd (free_no d (rw (le-ltb o own (omega arith)) at e))
    ]

ended-back : (s : Option ℕ) (x : Depth) (d : ℕ) → ended_by s x ≡ Some d → (s ≡ Some d) × StaysIn d x
ended-back None x d e = absurd (free_no d e)
ended-back (Some o) Flat d e = (e, tt)
ended-back (Some o) (Area own) d e = cut_back_lem o own d e
ended-back (Some o) (Service own) d e = cut_back_lem o own d e

-- or the line began it: an area of that depth that was refused
abbrev Began : ℕ → Depth → Fate → Type 0
Began d x f = (x ≡ Area d) × ((n : ℕ) × (f ≡ Number n))

open_back : (f : Fate) (s : Option ℕ) (x : Depth) (d : ℕ) → stretch_after f s x ≡ Some d → ((s ≡ Some d) × StaysIn d x) ⊎ Began d x f
open_back Kept s x d e = inl (ended-back s x d e)
open_back Parent s x d e = inl (ended-back s x d e)
open_back (Number n) s Flat d e = inl (ended-back s Flat d e)
open_back (Number n) s (Area own) d e = inr (ap Area (below_same own d e), (n, refl))
open_back (Number n) s (Service own) d e = inl (ended-back s (Service own) d e)

-- limits that a line leaves orphaned: it was dropped, and they were so before it or it is a service's
orphaned_back : (f : Fate) (o svc : Bool) → orphaned_after f o svc ≡ true → (f ≡ Kept → ⊥) × ((o ≡ true) ⊎ (svc ≡ true))
orphaned_back Kept o svc e = absurd (false≢true e)
orphaned_back Parent true svc e = (parent_dropped, inl refl)
orphaned_back Parent false svc e = (parent_dropped, inr e)
orphaned_back (Number n) true svc e = (number-dropped n, inl refl)
orphaned_back (Number n) false svc e = (number-dropped n, inr e)

orphaned_stays : (f : Fate) (svc : Bool) → (f ≡ Kept → ⊥) → orphaned_after f true svc ≡ true
orphaned_stays Kept svc h = absurd (h refl)
orphaned_stays Parent svc h = refl
orphaned_stays (Number n) svc h = refl

orphaned_begins : (f : Fate) (o : Bool) → (f ≡ Kept → ⊥) → orphaned_after f o true ≡ true
orphaned_begins Kept o h = absurd (h refl)
orphaned_begins Parent true h = refl
orphaned_begins Parent false h = refl
orphaned_begins (Number n) true h = refl
orphaned_begins (Number n) false h = refl

module _ {S : Type 0} (B : Builder S) where
  stepped_on : (s : Between S) (ps qs : List Piece) → stepped_all B s (ps ++ qs) ≡ stepped_all B (stepped_all B s ps) qs
  unfolding stepped_all
  stepped_on s [] qs = refl
  stepped_on s (p ∷ ps) qs = stepped_on (stepped B s (line_of p)) ps qs

  leaves_line
      : (s : Between S) (l : List ℕ) (d : ℕ) → s.rules.stretch ≡ Some d → StaysIn d (B.depth l) → (stepped B s l).rules.stretch ≡ Some d
  unfolding stepped takes_line
  leaves_line s l d e h =
      ap (λ (x : Option ℕ). stretch_after (fate_of B s l) x (B.depth l)) e
      ∙ stays d (B.depth l) (fate_of B s l) h (λ t. parent_taken B s l (rw (e, t)))

  leaves_lines
      : (s : Between S) (ps : List Piece) (d : ℕ) → s.rules.stretch ≡ Some d → AllStayIn B d ps
      → (stepped_all B s ps).rules.stretch ≡ Some d
  unfolding stepped_all AllStayIn
  leaves_lines s [] d e h = e
  leaves_lines s (p ∷ ps) d e h = leaves_lines (stepped B s (line_of p)) ps d (leaves_line s (line_of p) d e h.0) h.1

  begins_line
      : (s : Between S) (l : List ℕ) (d n : ℕ) → B.depth l ≡ Area d → fate_of B s l ≡ Number n → (stepped B s l).rules.stretch ≡ Some d
  unfolding stepped
  begins_line s l d n e h =
      ap (λ (f : Fate). stretch_after f s.rules.stretch (B.depth l)) h ∙ ap (λ (x : Depth). begun_by s.rules.stretch x) e

  opened_open : (s : Between S) (ps : List Piece) (d : ℕ) → Opened B s ps d → (stepped_all B s ps).rules.stretch ≡ Some d
  unfolding stepped_all
  opened_open s ps d o =
      let s' : Between S = stepped_all B s o.ahead in
      ap (λ (qs : List Piece). (stepped_all B s qs).rules.stretch) o.lines
      ∙ ap (λ (x : Between S). x.rules.stretch) (stepped_on s o.ahead (o.area ∷ o.behind))
      ∙ leaves_lines (stepped B s' (line_of o.area)) o.behind d
      (begins_line s' (line_of o.area) d o.number o.depth o.refused) o.deeper

  later_opened : (s : Between S) (p : Piece) (ps : List Piece) (d : ℕ) → Opened B (stepped B s (line_of p)) ps d → Opened B s (p ∷ ps) d
  unfolding stepped_all
  later_opened s p ps d o =
      record {
        ahead = p ∷ o.ahead;
        area = o.area;
        behind = o.behind;
        number = o.number;
        lines = ap (λ (qs : List Piece). p ∷ qs) o.lines;
        depth = o.depth;
        refused = o.refused;
        deeper = o.deeper;
      }

  open_opened
      : (s : Between S) (ps : List Piece) (d : ℕ) → (stepped_all B s ps).rules.stretch ≡ Some d
      → ((s.rules.stretch ≡ Some d) × AllStayIn B d ps) ⊎ Opened B s ps d
  unfolding stepped_all AllStayIn stepped
  open_opened s [] d e = inl (e, tt)
  open_opened s (p ∷ ps) d e =
      ⊎_elim
      (λ k.
      ⊎_elim (λ m. inl (m.0, (m.1, k.1)))
      (λ m.
      inr
      (record {
        ahead = [];
        area = p;
        behind = ps;
        number = m.1.0;
        lines = refl;
        depth = m.0;
        refused = m.1.1;
        deeper = k.1;
      }))
      (open_back (fate_of B s (line_of p)) s.rules.stretch (B.depth (line_of p)) d k.0))
      (λ o. inr (later_opened s p ps d o))
      (open_opened (stepped B s (line_of p)) ps d e)

  -- E7: a stretch below depth d is open behind these lines exactly where a well-formed `area` line of depth d among them was refused and
  -- deeper `area` and `svc` lines alone follow it;
  pub stretch_open : (s : S) (ps : List Piece) (d : ℕ) → ((stepped_all B (fresh s) ps).rules.stretch ≡ Some d) ↔ Opened B (fresh s) ps d
  stretch_open s ps d =
      (λ e. ⊎_elim (λ k. absurd (free_no d k.0)) (λ o. o) (open_opened (fresh s) ps d e), λ o. opened_open (fresh s) ps d o)

  orphaned_line
      : (s : Between S) (ps : List Piece) → s.rules.orphaned ≡ true → NoneKept (fates_from B s ps) → (stepped_all B s ps).rules.orphaned ≡ true
  unfolding stepped_all fates_from NoneKept stepped
  orphaned_line s [] e h = e
  orphaned_line s (p ∷ ps) e h =
      orphaned_line (stepped B s (line_of p)) ps
      (ap (λ (o : Bool). orphaned_after (fate_of B s (line_of p)) o (B.svc (line_of p))) e
      ∙ orphaned_stays (fate_of B s (line_of p)) (B.svc (line_of p)) h.0)
      h.1

  orphaned_is : (s : Between S) (ps : List Piece) → Orphaned B s ps → (stepped_all B s ps).rules.orphaned ≡ true
  unfolding stepped_all fates_from NoneKept stepped
  orphaned_is s ps o =
      let s' : Between S = stepped_all B s o.ahead in
      ap (λ (qs : List Piece). (stepped_all B s qs).rules.orphaned) o.lines
      ∙ ap (λ (x : Between S). x.rules.orphaned) (stepped_on s o.ahead (o.service ∷ o.behind))
      ∙ orphaned_line (stepped B s' (line_of o.service)) o.behind
      (ap (orphaned_after (fate_of B s' (line_of o.service)) s'.rules.orphaned) o.named
      ∙ orphaned_begins (fate_of B s' (line_of o.service)) s'.rules.orphaned o.dropped.0)
      o.dropped.1

  later_orphaned : (s : Between S) (p : Piece) (ps : List Piece) → Orphaned B (stepped B s (line_of p)) ps → Orphaned B s (p ∷ ps)
  unfolding stepped_all
  later_orphaned s p ps o =
      record {
        ahead = p ∷ o.ahead;
        service = o.service;
        behind = o.behind;
        lines = ap (λ (qs : List Piece). p ∷ qs) o.lines;
        named = o.named;
        dropped = o.dropped;
      }

  orphaned_by
      : (s : Between S) (ps : List Piece) → (stepped_all B s ps).rules.orphaned ≡ true
      → ((s.rules.orphaned ≡ true) × NoneKept (fates_from B s ps)) ⊎ Orphaned B s ps
  unfolding stepped_all fates_from NoneKept stepped
  orphaned_by s [] e = inl (e, tt)
  orphaned_by s (p ∷ ps) e =
      ⊎_elim
      (λ k.
      let m = orphaned_back (fate_of B s (line_of p)) s.rules.orphaned (B.svc (line_of p)) k.0 in
      ⊎_elim (λ was. inl (was, (m.0, k.1)))
      (λ svc.
      inr
      (record {
        ahead = [];
        service = p;
        behind = ps;
        lines = refl;
        named = svc;
        dropped = (m.0, k.1);
      }))
      m.1)
      (λ o. inr (later_orphaned s p ps o))
      (orphaned_by (stepped B s (line_of p)) ps e)

  -- and limits are orphaned behind them exactly where a dropped `svc` line among them has no kept line behind it.
  pub limits_orphaned : (s : S) (ps : List Piece) → ((stepped_all B (fresh s) ps).rules.orphaned ≡ true) ↔ Orphaned B (fresh s) ps
  limits_orphaned s ps =
      (λ e. ⊎_elim (λ k. absurd (false≢true k.0)) (λ o. o) (orphaned_by (fresh s) ps e), λ o. orphaned_is (fresh s) ps o)
