-- The loop that copies the blocks: what is left to put after i elements.
use Rattle.std.proofs.Common.{Option, None}
use mathlib.Core.Path.{◌≡◌, refl, sym, ◌∙◌, subst}
use mathlib.Core.List.{List, [], ◌∷◌, ◌++◌}
use Prim.Native.Nat.{ℕ, suc, ◌+◌, ◌-◌, ◌*◌, ◌≤◌, ◌<◌}
use native.Mathlib.Nat.{sub-zero}
use native.Mathlib.Omega.{arith}
use lib.ListN.{length, drop}
use lib.Seq.{take-length}
use Rattle.block_list.specs.declared.element.BlockListElement.{BlockListElement}
use Rattle.block_list.specs.declared.element.Unpacked.{Unpacked}
use Rattle.block_list.specs.Element.{unpack_at, elements_from}
use Rattle.block_list.proofs.ListsLaws.{elements_short, elements_element}
use Rattle.byte_parts.specs.Part.{part, put}
use Rattle.byte_parts.proofs.Part.{sets-append, length_part, length-put, put_zero, put-take, part-part}
use Rattle.request_check.specs.declared.table.Row.{Row}
use Rattle.request_check.specs.Row.{row_in}
use Rattle.request_runs.specs.Ready.{Ready, AllReady}
use Rattle.request_plan.specs.Serve.{store_in, blocks_read}
use Rattle.block_list.specs.Unpacked.{unpacked_as}

-- bytes put from a place on
abbrev pub filled : List ℕ → ℕ → List ℕ → List ℕ
filled s at t = put s at (length t) t

-- two runs are put one after the other
put-append : (s : List ℕ) (at : ℕ) (t u : List ℕ) → filled s at (t ++ u) ≡ filled (filled s at t) (at + length t) u
unfolding put
put-append s at t u = rw (take-length (t ++ u), take-length t, take-length u) (sets-append t u s at)

-- after i elements: those left are ready, and to put their blocks is all that is left
pub record Copying (rows : List Row) (arena list : List ℕ) (count : ℕ) (old out : List ℕ) (at i : ℕ) : Type 0 where
  pub most : i ≤ count
  pub long : length out ≡ length old
  pub ready : AllReady rows (length arena) (elements_from list (count - i) at)
  pub same : filled old 0 (blocks_read rows arena (elements_from list count 0))
      ≡ filled out (16 * i) (blocks_read rows arena (elements_from list (count - i) at))

-- before the first
pub begun : (rows : List Row) (arena list : List ℕ) (count : ℕ) (out : List ℕ) → AllReady rows (length arena) (elements_from list count 0) →
    Copying rows arena list count out out 0 0
begun rows arena list count out r = record { most = omega arith; long = refl; ready = rw sub-zero r; same = rw sub-zero }

module _ {rows : List Row} {arena list : List ℕ} {count : ℕ} {old out : List ℕ} {at i : ℕ} (k : Copying rows arena list count old out at i) where
  -- none is left
  pub over : count ≤ i → out ≡ filled old 0 (blocks_read rows arena (elements_from list count 0))
  unfolding blocks_read elements_from
  over h = let z : count - i ≡ 0 = omega arith in sym (k.same ∙ rw z (put_zero out (16 * i) []))

  module _ {u : Option Unpacked} (told : u ≡ unpack_at list at) (h : i < count) where
    -- too few bytes are left for one
    pub cut : u ≡ None → out ≡ filled old 0 (blocks_read rows arena (elements_from list count 0))
    unfolding blocks_read
    cut short =
        let e = elements_short list at (count - i) (omega arith) (sym told ∙ short) in sym (k.same ∙ rw e (put_zero out (16 * i) []))

    module _ {e : BlockListElement} {next : ℕ} (here : u ≡ unpacked_as e next) where
      -- it is the first of those left
      head : elements_from list (count - i) at ≡ e ∷ elements_from list (count - (i + 1)) next
      head = let n : count - i ≡ suc (count - (i + 1)) = omega arith in elements_element list at n (sym told ∙ here)

      -- all are ready
      each : AllReady rows (length arena) (e ∷ elements_from list (count - (i + 1)) next)
      each = subst (AllReady rows (length arena)) head k.ready

      -- and so is it
      pub ready_here : Ready rows (length arena) e
      ready_here = each.0

    module _ {e : BlockListElement} {next : ℕ} (here : u ≡ unpacked_as e next) {w : Row} (r : w ≡ row_in rows e) where
      -- its block lies in the arena
      within : 16 * w.start + 16 * e.number + 16 ≤ length arena
      within = let f = ready_here here in rw r (omega arith)

      -- and is a part of it
      block : part (store_in arena (row_in rows e)) (16 * e.number) 16 ≡ part arena (16 * w.start + 16 * e.number) 16
      block =
          let f = ready_here here in
          let x = row_in rows e in
          rw r (part-part arena (16 * x.start) (16 * x.blocks) (16 * e.number) 16 (omega arith))

      module _ {from : ℕ} (f : from ≡ 16 * w.start + 16 * e.number) where
        -- which begins there
        pub inside : from + 16 ≤ length arena
        inside = rw f within

        -- once it is put, those after it are left
        pub turn : {new : List ℕ} → new ≡ put out (16 * i) 16 (drop from arena) → Copying rows arena list count old new next (i + 1)
        unfolding blocks_read part
        turn {new = new} m =
            let n : new ≡ put out (16 * i) 16 (drop (16 * w.start + 16 * e.number) arena) = rw f at m in
            let p = part (store_in arena (row_in rows e)) (16 * e.number) 16 in
            let rest = blocks_read rows arena (elements_from list (count - (i + 1)) next) in
            let sixteen : length p ≡ 16 = rw block (length_part arena (16 * w.start + 16 * e.number) 16 within) in
            let made : put out (16 * i) 16 p ≡ new = rw (block, n) (put-take out (16 * i) 16 (drop (16 * w.start + 16 * e.number) arena)) in
            let on : 16 * (i + 1) ≡ 16 * i + 16 = omega arith in
            let step : filled out (16 * i) (p ++ rest) ≡ filled new (16 * (i + 1)) rest =
            put-append out (16 * i) p rest ∙ rw (sixteen, made, on) in
            record {
              most = omega arith;
              long = rw n (length-put out (16 * i) 16 (drop (16 * w.start + 16 * e.number) arena) ∙ k.long);
              ready = (each here).1;
              same = k.same ∙ rw (head here) step;
            }
