-- What a whole read comes to, once it is judged to fit.
use Rattle.std.proofs.Common.{Result, Ok}
use mathlib.Core.Path.{◌≡◌, refl}
use mathlib.Core.Bool.{Bool, false}
use mathlib.Core.List.{List}
use Prim.Native.Nat.{ℕ, ◌*◌, ◌≤◌}
use lib.ListN.{length, take}
use Rattle.answers.specs.declared.status.Fault.{Fault}
use Rattle.block_list.specs.Element.{elements_from}
use Rattle.byte_parts.specs.Part.{put}
use Rattle.card_build.specs.declared.card.Card.{Card}
use Rattle.card_build.specs.Card.{nodes_of}
use Rattle.request_check.specs.declared.table.Table.{Table}
use Rattle.request_check.specs.Row.{row_table}
use Rattle.request_check.specs.Check.{checked_from}
use Rattle.request_runs.specs.Ready.{AllReady}
use Rattle.request_plan.specs.declared.Reply.TheVariants.{Done, Failed}
use Rattle.request_plan.specs.declared.Judged.TheVariants.{Fit}
use Rattle.request_plan.specs.Request.{Request, read_request}
use Rattle.request_plan.specs.Plan.{judged_of}
use Rattle.request_plan.specs.Serve.{blocks_read, carried, serve, output_after}
use Rattle.request_plan.proofs.Ready.{all_ready}
use Rattle.request_plan.proofs.Serves.{failed, passed, unread}
use Rattle.request_plan.proofs.Fits.{fit, rows, checked}
use Rattle.answers.specs.Failure.{failed_at}
use Rattle.answers.specs.declared.status.Failure.{Failure}

module _ (c : Card) (a out : List ℕ) («open» : Bool) (codes : List ℕ) (count : ℕ) (list : List ℕ)
    (j : judged_of c (length a) (read_request «open» codes count list (length out)) ≡ Fit) {t : Table} (made : t ≡ row_table (nodes_of c) codes)
    {k : Result Unit Failure} (e : k ≡ checked_from (take t.count t.rows) false «open» 0 (elements_from list count 0)) where
  -- the request
  abbrev asked : Request
  asked = read_request «open» codes count list (length out)

  -- an element that fails
  pub read-failed : {i : ℕ} {f : Fault} → k ≡ failed_at i f → (Failed i f ≡ (serve c a asked).reply) × (out ≡ output_after out (serve c a asked))
  read-failed h = unread out (failed c a asked j (checked c a asked j made e h))

  -- all pass: the output holds their blocks, and each is there
  pub read_ready : length c.nodes ≡ 64 → k ≡ Ok tt →
      (16 * count ≤ length out) × AllReady (take t.count t.rows) (length a) (elements_from list count 0)
  read_ready h p =
      let f = fit c a asked j in (
        f.output refl,
        rw (rows c a asked j made)
            (all_ready c h f.sound codes false «open» (elements_from list count 0) (checked c a asked j made e p) (length a) f.arena),
      )

  -- they are copied
  pub read_done : {new : List ℕ} → k ≡ Ok tt →
      new ≡ put out 0 (length (blocks_read (take t.count t.rows) a (elements_from list count 0))) (blocks_read (take t.count t.rows) a (elements_from list count 0)) →
      (Done ≡ (serve c a asked).reply) × (new ≡ output_after out (serve c a asked))
  unfolding carried
  read_done p n = rw (passed c a asked j (checked c a asked j made e p)) (refl, rw (rows c a asked j made) at n)
