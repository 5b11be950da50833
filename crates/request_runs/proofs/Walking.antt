-- The walk over a list's elements: what holds between runs, and in a run of which some elements are passed. Assumes nothing.
use Rattle.std.proofs.Common.{None, Result, Ok}
use Prim.Native.Nat.{ℕ, suc, ◌+◌, ◌-◌, ◌*◌, ◌≤◌, ◌<◌}
use native.Mathlib.Omega.{arith}
use native.Mathlib.Nat.{sub-zero}
use mathlib.Core.Path.{◌≡◌, refl, sym, ap, ◌∙◌}
use mathlib.Core.List.{List, [], ◌∷◌}
use lib.Arith.{lt_of_le-ne}
use lib.ListN.{length}
use Rattle.answers.specs.declared.status.Fault.{Fault}
use Rattle.service_code.specs.Code.{number_of}
use Rattle.block_list.specs.declared.element.BlockListElement.{BlockListElement}
use Rattle.block_list.specs.Element.{unpack_at, elements_from}
use Rattle.block_list.proofs.ListsLaws.{unpacked_is, elements_short, elements_element}
use Rattle.request_check.specs.declared.table.Row.{Row}
use Rattle.request_check.specs.Row.{row_in, number_in}
use Rattle.request_runs.specs.Runs.{Walked, bad, good}
use Rattle.request_runs.specs.Staged.{carried_on, closed_on, element_on, end_on, staged}
use Rattle.request_runs.specs.Ready.{Ready, AllReady, walked_to}
use Rattle.request_runs.proofs.RunLaws.{walked, after_run, within_run, run_step, run_fails_lem, run_stops_lem, run_over, end_passes, end_fails, run_starts_lem, walk-over}
use Rattle.answers.specs.Failure.{failed_at}
use Rattle.answers.specs.declared.status.Failure.{Failure}
use Rattle.block_list.specs.Unpacked.{unpacked_as}

module _ (list : List ℕ) (count : ℕ) where
  -- the elements from index i on, which stand from a place on
  abbrev pub left : ℕ → ℕ → List BlockListElement
  left i at = elements_from list (count - i) at

  -- none is left past the count
  pub left_over : (i at : ℕ) → count ≤ i → left i at ≡ []
  unfolding elements_from
  left_over i at h = let z : count - i ≡ 0 = omega arith in rw z

  module _ (i at : ℕ) (h : i < count) where
    -- none where too few bytes are left for one
    pub left_short : unpack_at list at ≡ None → left i at ≡ []
    left_short here = elements_short list at (count - i) (omega arith) here

    -- the one that stands there is the first
    pub left_element : {e : BlockListElement} {next : ℕ} → unpack_at list at ≡ unpacked_as e next → left i at ≡ e ∷ left (i + 1) next
    left_element {e} {next} here = let m : count - i ≡ suc (count - (i + 1)) = omega arith in elements_element list at m here

module _ (rows : List Row) (d list : List ℕ) (count : ℕ) where
  -- the runs of the elements that are left
  abbrev pub rest : ℕ → ℕ → List ℕ → Walked (List ℕ)
  rest i at s = walked (number_in rows) (element_on rows d) (end_on rows d) i (left list count i at) s

  -- a run that begins at index `first`: what is left of it, its end, and all that follows
  abbrev pub in_run_lem : ℕ → BlockListElement → ℕ → ℕ → List ℕ → Walked (List ℕ)
  in_run_lem first e end at s = within_run (number_in rows) (element_on rows d) (end_on rows d) first e (end - first) end s (left list count end at)

  -- its end, and all that follows
  abbrev pub past_run : ℕ → BlockListElement → ℕ → ℕ → List ℕ → Walked (List ℕ)
  past_run first e end at s = after_run (number_in rows) (element_on rows d) (end_on rows d) first e (end - first) end s (left list count end at)

  -- between runs: what is left of the walk is that of the elements from `first` on
  pub record Between (stage₀ stage : List ℕ) (start first : ℕ) : Type 0 where
    pub ends : first ≤ count
    pub long : length stage ≡ length stage₀
    pub ready : AllReady rows (length stage) (left list count first start)
    pub same : staged rows d (elements_from list count 0) stage₀ ≡ rest first start stage

  -- in a run that begins at `first` with the element `opener`: what is left of it begins at `end`
  pub record Inside (stage₀ : List ℕ) (start first : ℕ) (row : Row) (number : ℕ) (stage : List ℕ) (at end : ℕ) : Type 0 where
    pub opener : BlockListElement
    pub past : ℕ
    pub head : unpack_at list start ≡ unpacked_as opener past
    pub named : row ≡ row_in rows opener
    pub numbered : number ≡ number_in rows opener
    pub counted : first < count
    pub on : first ≤ end
    pub ends : end ≤ count
    pub begun : end ≡ first → at ≡ start
    pub long : length stage ≡ length stage₀
    pub opened : Ready rows (length stage) opener
    pub ready : AllReady rows (length stage) (left list count end at)
    pub same : rest first start stage₀ ≡ in_run_lem first opener end at stage

  -- before the first run
  pub begins : (s : List ℕ) → AllReady rows (length s) (elements_from list count 0) → Between s s 0 0
  unfolding staged
  begins s r = record { ends = omega arith; long = refl; ready = rw (sub-zero count) r; same = rw (sub-zero count) refl }

module _ {rows : List Row} {d list : List ℕ} {count : ℕ} where
  module _ {stage₀ stage : List ℕ} {start first : ℕ} (b : Between rows d list count stage₀ stage start first) where
    -- no element is left
    pub finished : left list count first start ≡ [] → staged rows d (elements_from list count 0) stage₀ ≡ good stage
    finished e = b.same ∙ rw e (walk-over (number_in rows) (element_on rows d) (end_on rows d) first stage)

    -- the next that is left is ready
    pub next_ready : first < count → {e : BlockListElement} {next : ℕ} → unpack_at list start ≡ unpacked_as e next → Ready rows (length stage) e
    next_ready h here = (rw (left_element list count first start h here) at b.ready).0

    -- a run begins with the next
    pub opens
        : first < count → {e : BlockListElement} {next : ℕ} → unpack_at list start ≡ unpacked_as e next → {w : Row} → w ≡ row_in rows e
        → {n : ℕ} → n ≡ number_of w.code → Inside rows d list count stage start first w n stage start first
    opens h {e} {next} here named numbered =
        let l = left_element list count first start h here in
        let z : first - first ≡ 0 = omega arith in
        record {
          opener = e;
          past = next;
          head = here;
          named = named;
          numbered = numbered ∙ ap (λ (v : Row). number_of v.code) named;
          counted = h;
          on = omega arith;
          ends = omega arith;
          begun = λ _. refl;
          long = refl;
          opened = next_ready h here;
          ready = b.ready;
          same = rw (l, z) (run_starts_lem (number_in rows) (element_on rows d) (end_on rows d) first stage e (left list count (first + 1) next));
        }

  module _
      {stage₀ : List ℕ} {start first : ℕ} {row : Row} {number : ℕ} {stage : List ℕ} {at end : ℕ}
      (s : Inside rows d list count stage₀ start first row number stage at end) where
    -- the run's end is reached: some element was passed, and its end and what follows are left
    abbrev pub Closing : Type 0
    Closing = (first < end) × (rest rows d list count first start stage₀ ≡ past_run rows d list count first s.opener end at stage)

    -- where the cursor is not where the run began, an element was passed
    moved : (at ≡ start → ⊥) → first < end
    moved n = lt_of_le-ne s.on (λ e. n (s.begun (sym e)))

    -- by the count
    pub counted_out : count ≤ end → Closing
    counted_out h =
        let c = s.counted in
        (omega arith, s.same ∙ rw (left_over list count end at h) (run_over (number_in rows) (element_on rows d) (end_on rows d) first s.opener (end - first) end stage))

    module _ (h : end < count) where
      -- by the list's end
      pub cut_short : unpack_at list at ≡ None → Closing
      cut_short here = (
        moved (λ e. let z : ◌≡◌ {A = ℕ} 0 1 = cc (s.head, here, e) in omega arith),
        s.same ∙ rw (left_short list count end at h here) (run_over (number_in rows) (element_on rows d) (end_on rows d) first s.opener (end - first) end stage),
      )

      -- the next that is left is ready
      pub each_ready : {f : BlockListElement} {next : ℕ} → unpack_at list at ≡ unpacked_as f next → Ready rows (length stage) f
      each_ready here = (rw (left_element list count end at h here) at s.ready).0

      module _ {f : BlockListElement} {next : ℕ} (here : unpack_at list at ≡ unpacked_as f next) {own : Row} (named : own ≡ row_in rows f) where
        -- it is the first of those left
        next-left : left list count end at ≡ f ∷ left list count (end + 1) next
        next-left = left_element list count end at h here

        -- the element's store and block
        pub fits : (16 * own.start + 16 * own.blocks ≤ length stage) × (16 * f.number + 16 ≤ 16 * own.blocks)
        fits =
            let q = each_ready here in
            let b = q.block in
            rw named (q.stored, omega arith)

        module _ {n : ℕ} (numbered : n ≡ number_of own.code) where
          -- its number, by the definition
          number_is : n ≡ number_in rows f
          number_is = numbered ∙ ap (λ (v : Row). number_of v.code) named

          -- by an element of another number
          pub other_number : (n ≡ number → ⊥) → Closing
          other_number o =
              let k : number_in rows f ≡ number_in rows s.opener → ⊥ = λ e. o (number_is ∙ e ∙ sym s.numbered) in (
                moved (λ e. let z : unpacked_as f next ≡ unpacked_as s.opener s.past = cc (s.head, here, e) in k (ap (number_in rows) (unpacked_is z).0)),
                s.same ∙ rw next-left (run_stops_lem (number_in rows) (element_on rows d) (end_on rows d) first s.opener (end - first) end stage f (left list count (end + 1) next) k),
              )

          module _ (same_number : n ≡ number) (r : Result Unit Failure) (after : List ℕ) (told : carried_on own d end f stage ≡ walked_to r after) where
            -- the element belongs to the run
            key-is : number_in rows f ≡ number_in rows s.opener
            key-is = sym number_is ∙ same_number ∙ s.numbered

            -- what becomes of it, by the definition
            told_is : element_on rows d end f stage ≡ walked_to r after
            unfolding carried_on
            told_is = rw (sym named) told

            -- it passes: one element more in the run
            pub passes : length after ≡ length stage → r ≡ Ok tt → Inside rows d list count stage₀ start first row number after next (end + 1)
            passes l done =
                let e : end + 1 - first ≡ end - first + 1 = omega (arith, s.on) in
                let o : element_on rows d end f stage ≡ good after = told_is ∙ ap (λ (x : Result Unit Failure). walked_to x after) done in
                record {
                  opener = s.opener;
                  past = s.past;
                  head = s.head;
                  named = s.named;
                  numbered = s.numbered;
                  counted = s.counted;
                  on = omega (arith, s.on);
                  ends = omega arith;
                  begun = λ z. absurd (omega (arith, s.on));
                  long = l ∙ s.long;
                  opened = rw l s.opened;
                  ready = rw l (rw next-left at s.ready).1;
                  same =
                      s.same
                      ∙ rw (next-left, e) (run_step (number_in rows) (element_on rows d) (end_on rows d) first s.opener (end - first) end stage f (left list count (end + 1) next) key-is after o);
                }

            -- it fails: so does the walk
            pub fails : {j : ℕ} {x : Fault} → r ≡ failed_at j x → rest rows d list count first start stage₀ ≡ bad j x
            fails {j} {x} refused =
                let o : element_on rows d end f stage ≡ bad j x = told_is ∙ ap (λ (y : Result Unit Failure). walked_to y after) refused in
                s.same ∙ rw next-left (run_fails_lem (number_in rows) (element_on rows d) (end_on rows d) first s.opener (end - first) end stage f (left list count (end + 1) next) key-is j x o)

    module _ (c : Closing) (r : Result Unit Failure) (after : List ℕ) (told : closed_on row d first end stage ≡ walked_to r after) where
      -- what becomes of the run's end, by the definition
      told-end : end_on rows d first s.opener (end - first) stage ≡ walked_to r after
      unfolding closed_on
      told-end = rw (sym s.named) told

      -- it fails: so does the walk
      pub end-failed : {j : ℕ} {x : Fault} → r ≡ failed_at j x → rest rows d list count first start stage₀ ≡ bad j x
      end-failed {j} {x} refused =
          let o : end_on rows d first s.opener (end - first) stage ≡ bad j x = told-end ∙ ap (λ (y : Result Unit Failure). walked_to y after) refused in
          c.1 ∙ end_fails (number_in rows) (element_on rows d) (end_on rows d) first s.opener (end - first) end stage (left list count end at) j x o

      -- it passes: between runs again
      pub closes
          : {stage₁ : List ℕ} → Between rows d list count stage₁ stage₀ start first → length after ≡ length stage → r ≡ Ok tt
          → Between rows d list count stage₁ after at end
      closes b l done =
          let o : end_on rows d first s.opener (end - first) stage ≡ good after = told-end ∙ ap (λ (x : Result Unit Failure). walked_to x after) done in
          record {
            ends = s.ends;
            long = l ∙ s.long ∙ b.long;
            ready = rw l s.ready;
            same = b.same ∙ c.1 ∙ end_passes (number_in rows) (element_on rows d) (end_on rows d) first s.opener (end - first) end stage (left list count end at) after o;
          }
