-- What reads give: the blocks that their elements name, one after the other, and how many bytes those are. Assumes nothing.
use Rattle.std.proofs.Common.{Result, Ok, Err}
use Prim.Native.Nat.{ℕ, zero, suc, ◌+◌, ◌*◌, ◌≤◌, ◌<◌}
use native.Mathlib.Omega.{arith}
use mathlib.Core.Path.{◌≡◌, refl, ◌∙◌}
use mathlib.Core.Bool.{Bool, true, false}
use mathlib.Core.List.{List, [], ◌∷◌}
use lib.ListN.{length, take, get_or, length-append}
use lib.Seq.{take_at, drop-append-add}
use Rattle.block_list.specs.declared.element.BlockListElement.{BlockListElement}
use Rattle.block_list.specs.Element.{ends_after}
use Rattle.block_list.proofs.ListsLaws.{ends-count}
use Rattle.byte_parts.specs.Part.{part}
use Rattle.byte_parts.proofs.Part.{length_part, part-part}
use Rattle.card_build.specs.declared.card.Card.{Card}
use Rattle.request_check.specs.declared.table.Row.{Row}
use Rattle.request_check.specs.Row.{row_in}
use Rattle.request_check.specs.Check.{checked_from}
use Rattle.request_runs.specs.Runs.{Walked, bad, good}
use Rattle.request_runs.specs.Staged.{staged}
use Rattle.request_runs.specs.Ready.{Ready, AllReady}
use Rattle.request_plan.specs.declared.Judged.{Judged}
use Rattle.request_plan.specs.declared.Judged.TheVariants.{Refused as NotFit, ShortData as NoData, Fit}
use Rattle.request_plan.specs.Request.{Request, read_request, write_request}
use Rattle.request_plan.specs.Plan.{judged_of, rows_in, elements_in, checked_plan, judged_plan, plan_of}
use Rattle.request_plan.specs.Serve.{Served, store_in, blocks_read, committed, carried, plan_served, serve, length_read}
use Rattle.request_plan.proofs.Ready.{fits, all_ready}
use Rattle.request_plan.proofs.Accepted.{nothing}
use Rattle.answers.specs.declared.status.Failure.{Failure}

-- The blocks read, element by element.
module _ (rows : List Row) (a : List ℕ) where
  -- one of them
  read-block : (e : BlockListElement) → Ready rows (length a) e →
      part (store_in a (row_in rows e)) (16 * e.number) 16 ≡ part a (16 * (row_in rows e).start + 16 * e.number) 16
  read-block e f = let w = row_in rows e in part-part a (16 * w.start) (16 * w.blocks) (16 * e.number) 16 (let b = f.block in omega arith)

  -- has sixteen bytes
  sixteen : (e : BlockListElement) → Ready rows (length a) e → length (part (store_in a (row_in rows e)) (16 * e.number) 16) ≡ 16
  sixteen e f =
      rw (read-block e f) (length_part a (16 * (row_in rows e).start + 16 * e.number) 16 (let b = f.block in let s = f.stored in omega arith))

  -- all of them
  pub read-long : (es : List BlockListElement) → AllReady rows (length a) es → length (blocks_read rows a es) ≡ 16 * length es
  unfolding blocks_read
  read-long [] f = refl
  read-long (e ∷ es) f = simp length-append (omega (arith, sixteen e f.0, read-long es f.1))

  -- each stands at its own place
  pub read_at : (es : List BlockListElement) (j : ℕ) → AllReady rows (length a) es → j < length es →
      let e = get_or es j nothing in part (blocks_read rows a es) (16 * j) 16 ≡ part a (16 * (row_in rows e).start + 16 * e.number) 16
  unfolding blocks_read part
  read_at [] j f h = absurd (omega arith)
  read_at (e ∷ es) zero f h =
      take_at (part (store_in a (row_in rows e)) (16 * e.number) 16) (blocks_read rows a es) 16 (sixteen e f.0) ∙ read-block e f.0
  read_at (e ∷ es) (suc j) f h =
      let p = part (store_in a (row_in rows e)) (16 * e.number) 16 in
      let q : 16 * suc j ≡ length p + 16 * j = omega (arith, sixteen e f.0) in
      rw (q, drop-append-add p (blocks_read rows a es) (16 * j)) (read_at es j f.1 (omega arith))

-- What a read says: the arena is as it was, and the bytes read are sixteen for each element, which the output has room for, or none.
pub record ReadSaid (a : List ℕ) (r : Request) (x : Served) : Type 0 where
  pub kept : x.arena ≡ a
  pub long : length x.read ≡ length_read x.reply r.count
  pub room : length x.read ≤ r.room
  pub most : length x.read ≤ 8192

module _ (c : Card) (a : List ℕ) («open» : Bool) (codes : List ℕ) (count : ℕ) (list : List ℕ) (room : ℕ) (h : length c.nodes ≡ 64) where
  -- the read
  abbrev reading : Request
  reading = read_request «open» codes count list room

  -- by how its elements are checked
  by_check
      : judged_of c (length a) reading ≡ Fit → (k : Result Unit Failure)
      → checked_from (rows_in c reading) false «open» 0 (elements_in reading) ≡ k
      → ReadSaid a reading (plan_served c a reading (checked_plan (elements_in reading) k))
  unfolding carried ends_after
  by_check j (Err failure) e = record { kept = refl; long = refl; room = omega arith; most = omega arith }
  by_check j (Ok tt) e =
      let f = fits c (length a) reading j in
      let es = elements_in reading in
      let g = all_ready c h f.sound codes false «open» es e (length a) f.arena in
      let n = ends-count list count 0 f.ends in
      let l : length (blocks_read (rows_in c reading) a es) ≡ 16 * count = omega (arith, read-long (rows_in c reading) a es g, n) in
      record { kept = refl; long = l; room = omega (arith, f.output refl); most = omega (arith, f.few) }

  -- by how it is judged
  by_judgement : (j : Judged) → judged_of c (length a) reading ≡ j → ReadSaid a reading (plan_served c a reading (judged_plan c reading j))
  by_judgement (NotFit x) e = record { kept = refl; long = refl; room = omega arith; most = omega arith }
  by_judgement NoData e = record { kept = refl; long = refl; room = omega arith; most = omega arith }
  by_judgement Fit e = by_check e (checked_from (rows_in c reading) false «open» 0 (elements_in reading)) refl

  -- what any read says
  pub read-said : ReadSaid a reading (serve c a reading)
  unfolding serve plan_of
  read-said = by_judgement (judged_of c (length a) reading) refl

-- No bytes are read where stores are committed.
committed-read : (size : ℕ) (a : List ℕ) (w : Walked (List ℕ)) → (committed size a w).read ≡ []
unfolding committed
committed-read size a (bad i f) = refl
committed-read size a (good s) = refl

module _ (c : Card) (a : List ℕ) («open» : Bool) (codes : List ℕ) (count : ℕ) (list «data» : List ℕ) (room : ℕ) where
  -- the write
  abbrev writing : Request
  writing = write_request «open» codes count list «data» room

  -- by how its elements are checked
  check_read : (k : Result Unit Failure) → (plan_served c a writing (checked_plan (elements_in writing) k)).read ≡ []
  unfolding carried
  check_read (Err failure) = refl
  check_read (Ok tt) = committed-read (16 * c.used) a (staged (rows_in c writing) «data» (elements_in writing) (take (16 * c.used) a))

  -- by how it is judged
  judgement_read : (j : Judged) → (plan_served c a writing (judged_plan c writing j)).read ≡ []
  judgement_read (NotFit x) = refl
  judgement_read NoData = refl
  judgement_read Fit = check_read (checked_from (rows_in c writing) true «open» 0 (elements_in writing))

  -- no bytes are read by a write
  pub write_read : (serve c a writing).read ≡ []
  unfolding serve plan_of
  write_read = judgement_read (judged_of c (length a) writing)
