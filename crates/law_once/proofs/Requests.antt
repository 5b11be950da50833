-- One answer only: requests: codes and elements, runs, reads and writes, single blocks.
use Rattle.std.proofs.Common.{Result, Ok, Err}
use mathlib.Core.Path.{◌≡◌, refl, sym, ◌∙◌}
use Prim.Native.Nat.{ℕ, ◌*◌}
use native.Mathlib.Omega.{arith}
use mathlib.Core.List.{List}
use seplogic.Ra.Ura.{Ura}
use base.Logic.{SProp, ent, sep}
use prog.Memory.{Memory}
use prog.Routine.{Routine}
use types.Logic.{Logic}
use contract.Lifetimes.{Lfts}
use contract.Monad.{Fun, fact}
use denote.Triple.Clauses.{Lasts}
use denote.Triple.Entry.{Args}
use Rattle.request_runs.specs.Ready.{walked_to}
use Rattle.request_plan.specs.Serve.{staging_by}
use Rattle.request_plan.specs.declared.Reply.{Reply}
use Rattle.law_once.specs.One.{Promised, OneAnswer, OneSeen}
use Rattle.law_once.proofs.Law.{once, once_by, of_one, of_two, result}
use Rattle.request_check.specs.contracts.walk.check_all as request_check·check-all
use Rattle.request_check.specs.contracts.table.row_of as request_check·row-of
use Rattle.request_check.specs.contracts.table.table_of as request_check·table-of
use Rattle.request_rules.specs.contracts.element_on as request_rules·element-on
use Rattle.request_rules.specs.contracts.end_on as request_rules·end-on
use Rattle.request_runs.specs.contracts.run.apply as request_runs·apply
use Rattle.request_plan.specs.contracts.Reply.response as request_plan·Reply·response
use Rattle.request_plan.specs.contracts.Reply.cause as request_plan·Reply·cause
use Rattle.request_plan.specs.contracts.judge as request_plan·judge
use Rattle.request_block.specs.contracts.find_block as request_block·find-block
use Rattle.request_block.specs.contracts.judge_block as request_block·judge-block
use Rattle.request_block.specs.contracts.set_block as request_block·set-block
use Rattle.request_block.specs.contracts.stored_block as request_block·stored-block
use Rattle.request_serve.specs.contracts.reading.read as request_serve·read
use Rattle.request_serve.specs.contracts.writing.write as request_serve·write
use Rattle.answers.specs.declared.status.Failure.{Failure}

-- what was walked to is one answer: the same, and where it is done also the same stage
walked_once : {S : Type 0} (r r' : Result Unit Failure) (s s' : S) → walked_to r s ≡ walked_to r' s' → (r ≡ r') × (r ≡ Ok tt → s ≡ s')
walked_once (Ok u) (Ok v) s s' e = (refl, λ d. cc)
walked_once (Ok u) (Err failure) s s' e = let z : ◌≡◌ {A = ℕ} 0 1 = cc in absurd (omega arith)
walked_once (Err failure) (Ok u) s s' e = let z : ◌≡◌ {A = ℕ} 0 1 = cc in absurd (omega arith)
walked_once (Err f) (Err g) s s' e =
    let x : f.index ≡ g.index = cc in
    let y : f.fault ≡ g.fault = cc in
    (λ i. Err (record { index = x i; fault = y i }), λ d. let z : ◌≡◌ {A = ℕ} 0 1 = cc in absurd (omega arith))

-- staging goes by the reply
staged_once : {x x' : Reply} {t t' : List ℕ} (n : ℕ) (s : List ℕ) → x ≡ x' → t ≡ staging_by x n s → t' ≡ staging_by x' n s → t ≡ t'
staged_once n s e p q = once_by (λ (x : Reply). staging_by x n s) e p q

module _ {M : Type 1} {𝓤 : Ura M} (𝓛 : Logic 𝓤) (mem : Memory → SProp 𝓤) (run : Routine → Fun 𝓤) where
  pub request_check·check-all-once : OneAnswer 𝓤 request_check·check-all.ended (request_check·check-all.clauses 𝓛 mem run)
  request_check·check-all-once κs a g r r' ws ws' = result 𝓤 refl

  pub request_check·row-of-once : OneAnswer 𝓤 request_check·row-of.ended (request_check·row-of.clauses 𝓛 mem run)
  request_check·row-of-once κs a g r r' ws ws' = result 𝓤 refl

  pub request_check·table-of-once : OneAnswer 𝓤 request_check·table-of.ended (request_check·table-of.clauses 𝓛 mem run)
  request_check·table-of-once κs a g r r' ws ws' = result 𝓤 refl

  pub request_rules·element-on-once : OneAnswer 𝓤 request_rules·element-on.ended (request_rules·element-on.clauses 𝓛 mem run)
  request_rules·element-on-once κs a g r r' ws ws' = of_two 𝓤 (λ p p' q q'. (once p q, λ i. (once p' q' i, (tt, (tt, (tt, (tt, tt)))))))

  pub request_rules·end-on-once : OneAnswer 𝓤 request_rules·end-on.ended (request_rules·end-on.clauses 𝓛 mem run)
  request_rules·end-on-once κs a g r r' ws ws' = of_two 𝓤 (λ p p' q q'. (once p q, λ i. (once p' q' i, (tt, (tt, tt)))))

  -- after a failure nothing is said of the stage
  pub request_runs·apply-once
      : (κs : Lfts 3) (a : Args request_runs·apply.signature κs) (r r' : Result Unit Failure) (ws ws' : Lasts request_runs·apply.ended κs a)
      → ent 𝓤 (sep 𝓤 (Promised 𝓤 request_runs·apply.ended (request_runs·apply.clauses 𝓛 mem run) κs a tt r ws) (Promised 𝓤 request_runs·apply.ended (request_runs·apply.clauses 𝓛 mem run) κs a tt r' ws'))
      (fact 𝓤 ((r ≡ r') × (r ≡ Ok tt → ws ≡ ws')))
  request_runs·apply-once κs a r r' ws ws' = of_one 𝓤 (λ p q. let w = walked_once r r' ws.0 ws'.0 (sym p ∙ q) in (w.0, λ d i. (w.1 d i, (tt, (tt, (tt, (tt, tt)))))))

  pub request_plan·Reply·response-once : OneAnswer 𝓤 request_plan·Reply·response.ended (request_plan·Reply·response.clauses 𝓛 mem run)
  request_plan·Reply·response-once κs a g r r' ws ws' = result 𝓤 refl

  pub request_plan·Reply·cause-once : OneAnswer 𝓤 request_plan·Reply·cause.ended (request_plan·Reply·cause.clauses 𝓛 mem run)
  request_plan·Reply·cause-once κs a g r r' ws ws' = result 𝓤 refl

  pub request_plan·judge-once : OneAnswer 𝓤 request_plan·judge.ended (request_plan·judge.clauses 𝓛 mem run)
  request_plan·judge-once κs a g r r' ws ws' = result 𝓤 refl

  pub request_block·find-block-once : OneAnswer 𝓤 request_block·find-block.ended (request_block·find-block.clauses 𝓛 mem run)
  request_block·find-block-once κs a g r r' ws ws' = result 𝓤 refl

  pub request_block·judge-block-once : OneAnswer 𝓤 request_block·judge-block.ended (request_block·judge-block.clauses 𝓛 mem run)
  request_block·judge-block-once κs a g r r' ws ws' = result 𝓤 refl

  pub request_block·set-block-once : OneAnswer 𝓤 request_block·set-block.ended (request_block·set-block.clauses 𝓛 mem run)
  request_block·set-block-once κs a g r r' ws ws' = of_two 𝓤 (λ p p' q q'. (once p q, λ i. (tt, (once p' q' i, (tt, (tt, (tt, tt)))))))

  -- a part of the lent arena: its bytes are one answer, and nothing is said of where they lie
  pub request_block·stored-block-once : OneSeen 𝓤 request_block·stored-block.ended (request_block·stored-block.clauses 𝓛 mem run) (λ κs x. x.now)
  request_block·stored-block-once κs a g r r' ws ws' = result 𝓤 refl

  pub request_serve·read-once : OneAnswer 𝓤 request_serve·read.ended (request_serve·read.clauses 𝓛 mem run)
  request_serve·read-once κs a g r r' ws ws' = of_one 𝓤 (λ p q. (once p.0 q.0, λ i. (tt, (tt, (once p.1 q.1 i, (tt, (tt, (tt, (tt, tt)))))))))

  pub request_serve·write-once : OneAnswer 𝓤 request_serve·write.ended (request_serve·write.clauses 𝓛 mem run)
  request_serve·write-once κs a g r r' ws ws' =
      of_one 𝓤 (λ p q.
      let staged = staged_once (16 * a.0.used) a.1.1.0.now (once p.0 q.0) p.1.1 q.1.1 in
      (once p.0 q.0, λ i. (tt, (once p.1.0 q.1.0 i, (staged i, (tt, (tt, (tt, (tt, (tt, tt))))))))))
