-- What an accepted read gives: each element's block, at the element's own place of the output.
use Prim.Native.Nat.{ℕ, ◌+◌, ◌*◌, ◌<◌}
use native.Mathlib.Omega.{arith}
use native.Mathlib.Nat.{zero-add}
use mathlib.Core.Path.{◌≡◌, refl}
use mathlib.Core.Bool.{false}
use mathlib.Core.List.{List}
use lib.ListN.{length}
use Rattle.byte_parts.specs.Part.{part}
use Rattle.card_build.specs.declared.card.Card.{Card}
use Rattle.request_check.specs.Row.{row_in}
use Rattle.request_runs.specs.Ready.{AllReady}
use Rattle.request_plan.specs.declared.Reply.TheVariants.{Done}
use Rattle.request_plan.specs.Request.{Request}
use Rattle.request_plan.specs.Plan.{rows_in, elements_in}
use Rattle.request_plan.specs.Serve.{blocks_read, serve, output_after}
use Rattle.request_plan.proofs.Ready.{all_ready}
use Rattle.request_plan.proofs.Accepted.{accepted, counted, blocks_given}
use Rattle.request_plan.proofs.ReadLaws.{read-long, read_at}
use Rattle.law_terminals.specs.Last.{element_at}
use Rattle.law_terminals.proofs.Stored.{part_of_put}

-- what an accepted read gives for an element, in the output that it is lent
module _ (c : Card) (a : List ℕ) (q : Request) (t : q.write ≡ false) (e : (serve c a q).reply ≡ Done) (h : length c.nodes ≡ 64) where
  ready : AllReady (rows_in c q) (length a) (elements_in q)
  ready =
      let k = accepted c a q e in
      all_ready c h k.fit.sound q.codes q.write q.«open» (elements_in q) k.checked (length a) k.fit.arena

  -- what the read gives, at the element's place
  pub given : (j : ℕ) → j < length (elements_in q) →
      part (serve c a q).read (16 * j) 16 ≡ part a (16 * (row_in (rows_in c q) (element_at q j)).start + 16 * (element_at q j).number) 16
  given j l = rw (blocks_given c a q e t) (read_at (rows_in c q) a (elements_in q) j ready l)

  -- the same of the output that it is lent
  pub put_out : (j : ℕ) (out : List ℕ) → j < length (elements_in q) → length out ≡ q.room →
      part (output_after out (serve c a q)) (16 * j) 16 ≡ part (serve c a q).read (16 * j) 16
  put_out j out l o =
      let k = accepted c a q e in
      let bytes = blocks_read (rows_in c q) a (elements_in q) in
      let long : length bytes ≡ 16 * length (elements_in q) = read-long (rows_in c q) a (elements_in q) ready in
      let room = k.fit.output t in
      let whole = part_of_put out 0 (length bytes) bytes (16 * j) 16 (omega (arith, long, room, counted k, o)) refl (omega (arith, long, l)) in
      rw (blocks_given c a q e t) (rw (zero-add (16 * j)) at whole)
