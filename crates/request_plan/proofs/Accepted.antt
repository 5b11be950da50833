-- What an accepted request comes to; and that only an accepted write changes the arena. Assumes nothing.
use Rattle.std.proofs.Common.{Result, Ok, Err}
use Prim.Native.Nat.{ℕ, zero, suc, ◌*◌, ◌<◌}
use native.Mathlib.Omega.{arith}
use mathlib.Core.Path.{◌≡◌, refl, sym, ap, ◌∙◌}
use mathlib.Core.Bool.{Bool, true, false}
use mathlib.Core.List.{List, [], ◌∷◌}
use mathlib.Core.Logic.{◌⊎◌, inl, inr}
use lib.ListN.{length, get_or, take}
use Rattle.block_list.specs.declared.element.BlockListElement.{BlockListElement}
use Rattle.block_list.specs.Element.{ends_after}
use Rattle.block_list.proofs.ListsLaws.{ends-count}
use Rattle.card_build.specs.declared.card.Card.{Card}
use Rattle.card_build.specs.Card.{is_sound}
use Rattle.byte_parts.specs.Part.{put}
use Rattle.request_check.specs.declared.table.Row.{Row}
use Rattle.request_check.specs.Check.{checked_from}
use Rattle.request_check.proofs.Laws.{AllPass, all_pass, Good, good}
use Rattle.request_runs.specs.Runs.{Walked, bad, good as walked}
use Rattle.request_runs.specs.Staged.{staged}
use Rattle.request_plan.specs.declared.Reply.TheVariants.{Done, Failed}
use Rattle.request_plan.specs.declared.Judged.{Judged}
use Rattle.request_plan.specs.declared.Judged.TheVariants.{Refused as NotFit, ShortData as NoData, Fit}
use Rattle.request_plan.specs.Request.{Request}
use Rattle.request_plan.specs.Plan.{Plan, stop, go, judged_with, plan_of, rows_in, elements_in, judged_of, judged_plan, checked_plan}
use Rattle.request_plan.specs.Serve.{Served, blocks_read, committed, carried, plan_served, serve}
use Rattle.request_plan.proofs.Ready.{Fitting, fits}
use Rattle.request_plan.proofs.Serves.{passed}
use Rattle.answers.specs.declared.status.Failure.{Failure}

module _ (c : Card) (a : List ℕ) (r : Request) where
  -- an accepted request fits, all its elements passed, and so it is carried out
  pub record Accepted : Type 0 where
    pub fit : Fitting c (length a) r
    pub checked : checked_from (rows_in c r) r.write r.«open» 0 (elements_in r) ≡ Ok tt
    pub carries : serve c a r ≡ carried r.write (rows_in c r) (16 * c.used) r.«data» a (elements_in r)

  pub accepted : (serve c a r).reply ≡ Done → Accepted
  unfolding serve plan_of
  accepted e = by_judged (judged_of c (length a) r) refl e
    where
      by_checked : (k : Result Unit Failure) → (plan_served c a r (checked_plan (elements_in r) k)).reply ≡ Done → k ≡ Ok tt
      by_checked (Ok tt) e = refl
      by_checked (Err failure) e = absurd (let z : ◌≡◌ {A = ℕ} 0 1 = cc in (omega arith))

      by_judged : (j : Judged) → judged_of c (length a) r ≡ j → (plan_served c a r (judged_plan c r j)).reply ≡ Done → Accepted
      by_judged (NotFit x) q e = absurd (let z : ◌≡◌ {A = ℕ} 0 1 = cc in (omega arith))
      by_judged NoData q e = absurd (let z : ◌≡◌ {A = ℕ} 0 1 = cc in (omega arith))
      by_judged Fit q e =
          let k = by_checked (checked_from (rows_in c r) r.write r.«open» 0 (elements_in r)) e in
          record { fit = fits c (length a) r q; checked = k; carries = passed c a r q k }

  -- what is not done leaves the arena
  pub done_or_left : ((serve c a r).reply ≡ Done) ⊎ ((serve c a r).arena ≡ a)
  unfolding serve carried committed
  done_or_left = by_plan (plan_of c (length a) r)
    where
      by_walked : (x : Walked (List ℕ)) → ((committed (16 * c.used) a x).reply ≡ Done) ⊎ ((committed (16 * c.used) a x).arena ≡ a)
      by_walked (bad i f) = inr refl
      by_walked (walked s) = inl refl

      by_write : (w : Bool) (es : List BlockListElement) →
          let x = carried w (rows_in c r) (16 * c.used) r.«data» a es in (x.reply ≡ Done) ⊎ (x.arena ≡ a)
      by_write true es = by_walked (staged (rows_in c r) r.«data» es (take (16 * c.used) a))
      by_write false es = inr refl

      by_plan : (p : Plan) → ((plan_served c a r p).reply ≡ Done) ⊎ ((plan_served c a r p).arena ≡ a)
      by_plan (stop x) = inr refl
      by_plan (go es) = by_write r.write es

  -- a read leaves it
  pub read_leaves : r.write ≡ false → (serve c a r).arena ≡ a
  unfolding serve carried
  read_leaves w = by_plan (plan_of c (length a) r)
    where
      by_plan : (p : Plan) → (plan_served c a r p).arena ≡ a
      by_plan (stop x) = refl
      by_plan (go es) = rw w

  -- so does every request on a card that was not built
  pub unsound_left : is_sound c ≡ false → (serve c a r).arena ≡ a
  unfolding serve plan_of judged_with
  unsound_left s = rw s

  module _ (e : (serve c a r).reply ≡ Done) where
    -- an accepted read gives the blocks that its elements name
    pub blocks_given : r.write ≡ false → (serve c a r).read ≡ blocks_read (rows_in c r) a (elements_in r)
    unfolding carried
    blocks_given w = ap (λ (x : Served). x.read) (accepted e).carries ∙ rw w

    -- an accepted write puts the staged stores, after all runs, into the arena
    pub stores_put_lem : r.write ≡ true → (s : List ℕ) ×
        (staged (rows_in c r) r.«data» (elements_in r) (take (16 * c.used) a) ≡ walked s) × ((serve c a r).arena ≡ put a 0 (16 * c.used) s)
    unfolding carried committed
    stores_put_lem w = by_walked (staged (rows_in c r) r.«data» (elements_in r) (take (16 * c.used) a)) refl ((accepted e).carries ∙ rw w)
      where
        by_walked : (x : Walked (List ℕ)) → staged (rows_in c r) r.«data» (elements_in r) (take (16 * c.used) a) ≡ x →
            serve c a r ≡ committed (16 * c.used) a x → (s : List ℕ) ×
            (staged (rows_in c r) r.«data» (elements_in r) (take (16 * c.used) a) ≡ walked s) × ((serve c a r).arena ≡ put a 0 (16 * c.used) s)
        by_walked (bad i f) q k =
            let z : Failed i f ≡ Done = sym (ap (λ (x : Served). x.reply) k) ∙ e in
            absurd (let n : ◌≡◌ {A = ℕ} 0 1 = cc in (omega arith))
        by_walked (walked s) q k = (s, q, ap (λ (x : Served). x.arena) k)

-- what is read where there is no element
abbrev pub nothing : BlockListElement
nothing = record { number = 0; index = 0; mode = 0 }

-- each of the elements that passed is good
pub good_at : (rows : List Row) (write «open» : Bool) (es : List BlockListElement) (i : ℕ) → AllPass rows write «open» es → i < length es →
    Good rows write (get_or es i nothing)
good_at rows write «open» [] i p h = absurd (omega arith)
good_at rows write «open» (e ∷ es) zero p h = good rows write «open» e p.0
good_at rows write «open» (e ∷ es) (suc i) p h = good_at rows write «open» es i p.1 (omega arith)

module _ {c : Card} {a : List ℕ} {r : Request} (k : Accepted c a r) where
  -- an accepted request has as many elements as it says
  pub counted : length (elements_in r) ≡ r.count
  unfolding ends_after
  counted = ends-count r.list r.count 0 k.fit.ends

  -- they passed
  pub each_passed : AllPass (rows_in c r) r.write r.«open» (elements_in r)
  each_passed = all_pass (rows_in c r) r.write r.«open» 0 (elements_in r) k.checked
