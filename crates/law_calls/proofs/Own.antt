-- The program's own `read` and `write`: they promise to be calls of which the laws on runs speak, and those laws hold of them.
use Prim.Native.Nat.{◌*◌}
use mathlib.Core.Path.{◌≡◌, refl, sym, ap, ◌∙◌}
use lib.ListN.{length}
use seplogic.Ra.Ura.{Ura}
use base.Logic.{SProp}
use prog.Memory.{Memory}
use prog.Routine.{Routine}
use types.Logic.{Logic}
use contract.Monad.{Fun}
use Rattle.card_build.specs.declared.card.Card.{Card}
use Rattle.request_plan.specs.declared.Reply.{Reply}
use Rattle.request_plan.specs.declared.Reply.TheVariants.{Done}
use Rattle.request_plan.specs.Serve.{staging_by}
use Rattle.request_plan.proofs.Accepted.{read_leaves}
use Rattle.law_terminals.specs.Two.{Answer}
use Rattle.law_terminals.specs.Runs.{Call, reads, writes, request_of, Left, left_by, Leaves, TwoRuns, TowerRuns}
use Rattle.law_terminals.proofs.Runs.{two_runs, tower_runs}
use Rattle.law_calls.specs.Promise.{Promises}
use Rattle.law_calls.proofs.Kept.{of_one}
use Rattle.request_serve.specs.contracts.reading.read as read
use Rattle.request_serve.specs.contracts.writing.write as write

-- they leave their caller the reply itself
abbrev pub own_left : Card → Call → Answer → Left Reply
own_left c = left_by (λ (x : Reply). x) c

module _ {M : Type 1} {𝓤 : Ura M} (𝓛 : Logic 𝓤) (mem : Memory → SProp 𝓤) (run : Routine → Fun 𝓤) where
  -- a read, on an arena that it is lent for reading only
  pub read_is_call
      : Promises 𝓤 read.ended (read.clauses 𝓛 mem run) (λ κs (card, (arena, (out, («open», (codes, (count, (list, _))))))) r ws.
      Leaves card request_of (own_left card) arena.now (reads «open» codes.now count list.now out.now)
      (record { reply = r; buffer = ws.1.1.0 }) arena.now)
  read_is_call κs a g r ws = of_one 𝓤 (λ p. (λ i. record { reply = p.0 i; buffer = p.1 i }, sym (read_leaves _ _ _ refl)))

  pub write_is_call
      : Promises 𝓤 write.ended (write.clauses 𝓛 mem run) (λ κs (card, (arena, (staging, («open», (codes, (count, (list, («data», _)))))))) r ws.
      Leaves card request_of (own_left card) arena.now (writes «open» codes.now count list.now «data».now staging.now)
      (record { reply = r; buffer = ws.1.1.0 }) ws.1.0)
  write_is_call κs a g r ws = of_one 𝓤 (λ p.
      let t = p.1.1 ∙ ap (λ (x : Reply). staging_by x (16 * a.0.used) a.1.1.0.now) p.0 in
      (λ i. record { reply = p.0 i; buffer = t i }, p.1.0))

module _ (c : Card) (z : length c.nodes ≡ 64) where
  -- two terminals' runs of them are apart
  pub own_two : TwoRuns c request_of (own_left c)
  own_two = two_runs c request_of (own_left c) z

  -- a call leaves `Done` where its answer does
  pub same_reply : (k : Call) (x : Answer) → (own_left c k x).reply ≡ x.reply
  same_reply (reads «open» codes count list out) x = refl
  same_reply (writes «open» codes count list «data» staging) x = refl

  -- the tower's read is left what was written last
  pub own_tower : TowerRuns c request_of (own_left c) (λ x. x.reply ≡ Done)
  own_tower =
      tower_runs c request_of (own_left c) z (λ x. x.reply ≡ Done)
      (λ k x e. sym (same_reply k x) ∙ e) (λ k x w e. same_reply k x ∙ e)
