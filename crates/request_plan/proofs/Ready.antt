-- Where a card is sound and all elements passed, each names a block of a store that lies among the blocks in use.
use Rattle.std.proofs.Common.{Option, Some, None, Ok}
use mathlib.Core.Path.{◌≡◌}
use mathlib.Core.Bool.{Bool, true, false, not}
use mathlib.Core.List.{List, [], ◌∷◌}
use Prim.Native.Nat.{ℕ, zero, suc, ◌+◌, ◌*◌, ◌≤◌}
use native.Mathlib.Omega.{arith}
use lib.Dec.{ltb}
use lib.ListN.{length, get_or}
use borrow.Author.Tests.{ltb-false, not-false}
use Rattle.answers.specs.declared.refusal.Refusal.{Refusal}
use Rattle.answers.specs.declared.refusal.Refusal.TheVariants.{TooManyElements, TooManyCodes, ListLength, ShortStaging, ShortOutput, ShortArena, NotBuilt}
use Rattle.block_list.specs.declared.element.BlockListElement.{BlockListElement}
use Rattle.block_list.specs.Element.{ends_after}
use Rattle.card_nodes.specs.declared.node.Entry.{Entry}
use Rattle.card_nodes.specs.declared.node.Entry.TheVariants.{Area, Service}
use Rattle.card_nodes.specs.declared.node.Node.{Node}
use Rattle.card_nodes.specs.Node.{root_node, start_of, blocks_of}
use Rattle.card_nodes.specs.Find.{service_of}
use Rattle.card_build.specs.declared.card.Card.{Card}
use Rattle.card_build.specs.Card.{nodes_of, is_sound}
use Rattle.card_laws.proofs.Built.{sound_built}
use Rattle.card_laws.proofs.Laid.{Laid, laid}
use Rattle.request_check.specs.declared.table.Row.{Row}
use Rattle.request_check.specs.Row.{row_by, row_at, row_of, rows_of, row_at_index}
use Rattle.request_check.specs.Check.{checked_from}
use Rattle.request_check.proofs.Laws.{AllPass, all_pass, good}
use Rattle.request_runs.specs.Ready.{AllReady}
use Rattle.request_plan.specs.declared.Sizes.{Sizes}
use Rattle.request_plan.specs.declared.Judged.TheVariants.{Refused as NotFit, ShortData as NoData, Fit}
use Rattle.request_plan.specs.Request.{Request}
use Rattle.request_plan.specs.Plan.{write_judged, read_judged, judged_with, judged_of}
use Rattle.request_plan.proofs.Tests.{passed_over}

-- the blocks up to the end of a row's store
abbrev pub row_end : Row → ℕ
row_end w = w.start + w.blocks

module _ {ns : List Node} {used : ℕ} (l : Laid ns used) where
  -- by the entry of the service that is found
  by_entry_lem : (code : ℕ) (e : Entry) → start_of e + blocks_of e ≤ used → row_end (row_by code e) ≤ used
  by_entry_lem code (Area e) h = h
  by_entry_lem code (Service s b k) h = h

  -- by what is found
  by_found : (code : ℕ) (f : Option ℕ) → row_end (row_at ns code f) ≤ used
  by_found code (Some i) = by_entry_lem code (get_or ns i root_node).entry (l.within i)
  by_found code None = omega arith

  -- the store of a code lies among the blocks in use
  pub row_within : (code : ℕ) → row_end (row_of ns code) ≤ used
  unfolding row_of
  row_within code = by_found code (service_of ns code)

  -- so does that of each row
  pub rows_within_lem : (codes : List ℕ) (i : ℕ) → row_end (row_at_index (rows_of ns codes) i) ≤ used
  rows_within_lem [] zero = omega arith
  rows_within_lem [] (suc i) = omega arith
  rows_within_lem (k ∷ codes) zero = row_within k
  rows_within_lem (k ∷ codes) (suc i) = rows_within_lem codes i

  -- elements that pass are ready
  pass_ready : (codes : List ℕ) (write «open» : Bool) (long : ℕ) → 16 * used ≤ long → (es : List BlockListElement) →
      AllPass (rows_of ns codes) write «open» es → AllReady (rows_of ns codes) long es
  pass_ready codes write «open» long h [] p = tt
  pass_ready codes write «open» long h (e ∷ es) p = (
    record {
      stored = omega (arith, rows_within_lem codes e.index);
      block = (good (rows_of ns codes) write «open» e p.0).number;
    },
    pass_ready codes write «open» long h es p.1,
  )

module _ (c : Card) (h : length c.nodes ≡ 64) (s : is_sound c ≡ true) where
  -- the nodes of a sound card
  pub sound_laid : Laid (nodes_of c) c.used
  sound_laid = laid (sound_built c h s)

  -- all elements passed: each store lies in the blocks in use, and each block in its store
  pub all_ready : (codes : List ℕ) (write «open» : Bool) (es : List BlockListElement) →
      checked_from (rows_of (nodes_of c) codes) write «open» 0 es ≡ Ok tt → (long : ℕ) → 16 * c.used ≤ long →
      AllReady (rows_of (nodes_of c) codes) long es
  all_ready codes write «open» es e long k =
      pass_ready sound_laid codes write «open» long k es (all_pass (rows_of (nodes_of c) codes) write «open» 0 es e)

-- a request that fits, on an arena of so many bytes
pub record Fitting (c : Card) (arena_len : ℕ) (r : Request) : Type 0 where
  pub sound : is_sound c ≡ true
  pub few : r.count ≤ 512
  pub codes : length r.codes ≤ 16
  pub ends : ends_after r.list r.count ≡ true
  pub arena : 16 * c.used ≤ arena_len
  pub staging : r.write ≡ true → 16 * c.used ≤ r.room
  pub «data» : r.write ≡ true → 16 * r.count ≤ length r.«data»
  pub output : r.write ≡ false → 16 * r.count ≤ r.room

-- a refusal is no fit
not_fit : {r : Refusal} → NotFit r ≡ Fit → ⊥
not_fit e = let z : ◌≡◌ {A = ℕ} 0 1 = cc in omega arith

-- nor are short data
no_data_lem : NoData ≡ Fit → ⊥
no_data_lem e = let z : ◌≡◌ {A = ℕ} 0 1 = cc in omega arith

module _ (n : Sizes) where
  -- what is lent to a write, where it fits
  write-fits : write_judged n ≡ Fit → (16 * n.used ≤ n.room) × (16 * n.count ≤ n.«data»)
  unfolding write_judged
  write-fits e =
      let s = passed_over (not_fit {r = ShortStaging}) (ltb n.room (16 * n.used)) _ e in
      let d = passed_over no_data_lem (ltb n.«data» (16 * n.count)) Fit s.1 in
      (ltb-false n.room (16 * n.used) s.0, ltb-false n.«data» (16 * n.count) d.0)

  -- and to a read
  read_fits : read_judged n ≡ Fit → 16 * n.count ≤ n.room
  unfolding read_judged
  read_fits e = ltb-false n.room (16 * n.count) (passed_over (not_fit {r = ShortOutput}) (ltb n.room (16 * n.count)) Fit e).0

-- a request that is judged to fit
pub fits : (c : Card) (arena_len : ℕ) (r : Request) → judged_of c arena_len r ≡ Fit → Fitting c arena_len r
unfolding judged_with
fits c arena_len r e =
    let s = passed_over (not_fit {r = NotBuilt}) (not (is_sound c)) _ e in
    let m = passed_over (not_fit {r = TooManyElements}) (ltb 512 r.count) _ s.1 in
    let k = passed_over (not_fit {r = TooManyCodes}) (ltb 16 (length r.codes)) _ m.1 in
    let l = passed_over (not_fit {r = ListLength}) (not (ends_after r.list r.count)) _ k.1 in
    let a = passed_over (not_fit {r = ShortArena}) (ltb arena_len (16 * c.used)) _ l.1 in
    record {
      sound = not-false (is_sound c) s.0;
      few = ltb-false 512 r.count m.0;
      codes = ltb-false 16 (length r.codes) k.0;
      ends = not-false (ends_after r.list r.count) l.0;
      arena = ltb-false arena_len (16 * c.used) a.0;
      staging = λ w. (write-fits _ (rw w at a.1)).0;
      «data» = λ w. (write-fits _ (rw w at a.1)).1;
      output = λ w. read_fits _ (rw w at a.1);
    }
