-- Runs that passed pass again on what they left, and leave it, if the runs of each number do so on its own store. Assumes nothing.
use Prim.Native.Nat.{ℕ, ◌+◌, ◌-◌, ◌*◌, ◌≤◌, ◌<◌}
use native.Mathlib.Omega.{arith}
use mathlib.Core.Path.{◌≡◌, refl, sym, ap, ◌∙◌}
use mathlib.Core.List.{List}
use lib.ListN.{length, get_or}
use Rattle.block_list.specs.declared.element.BlockListElement.{BlockListElement}
use Rattle.byte_parts.proofs.Part.{get_d_part}
use Rattle.request_check.specs.declared.table.Row.{Row}
use Rattle.request_check.specs.Row.{row_in, number_in}
use Rattle.request_runs.specs.Runs.{Walked, bad, good}
use Rattle.request_runs.specs.Staged.{staged}
use Rattle.request_runs.specs.Own.{own_runs}
use Rattle.request_runs.proofs.Steps.{failure}
use Rattle.request_runs.proofs.WalkSteps.{AllFrom}
use Rattle.request_runs.proofs.OwnRuns.{store_of, Owns, staged_leads, store_alone, store_fails}
use Rattle.request_plan.proofs.Same.{Same, same_refl, same_trans_lem, same_whole, put_spare}

-- Elements of which each is `Ok`, on a stage of `size` bytes; each one's row is that of its number.
module _ (rows : List Row) (d : List ℕ) (size : ℕ) (Ok : BlockListElement → Type 0) (es : List BlockListElement)
    (fine : AllFrom (λ i x. Ok x) 0 es) (own : (x : BlockListElement) → Ok x → Owns rows d size Ok (number_in rows x) (row_in rows x)) where
  -- the store of an element's number
  abbrev view_of : BlockListElement → List ℕ → List ℕ
  view_of x = store_of (row_in rows x)

  -- byte i is one of a store that is named
  abbrev Named : ℕ → Type 0
  Named i = (x : BlockListElement) × Ok x × (16 * (row_in rows x).start ≤ i) × (i < 16 * (row_in rows x).start + 16 * (row_in rows x).blocks)

  -- runs that leave each store that they name as it was leave the stage
  stores_whole : (s t : List ℕ) → length s ≡ size → staged rows d es s ≡ good t →
      ((x : BlockListElement) → Ok x → view_of x t ≡ view_of x s) → t ≡ s
  stores_whole s t l e h =
      let N : ℕ → Type 0 = λ i. Named i → ⊥ in
      let w = staged_leads rows d size Ok es fine (Same N) (same_refl N) (same_trans_lem N)
      (λ x u v k m. put_spare N u (16 * (row_in rows x).start) (16 * (row_in rows x).blocks) v (λ i a b n. n (x, k, a, b))) s t l e in
      sym (same_whole Named s t (record {
        long = l ∙ sym w.0;
        each = λ i (x, k, a, b).
            let r = row_in rows x in
            let m : 16 * r.start + (i - 16 * r.start) ≡ i = omega arith in
            let f : (u : List ℕ) → get_or (view_of x u) (i - 16 * r.start) 0 ≡ get_or u i 0 =
            λ u. get_d_part u (16 * r.start) (16 * r.blocks) (i - 16 * r.start) (omega arith) ∙ rw m in
            sym (f s) ∙ ap (λ (u : List ℕ). get_or u (i - 16 * r.start) 0) (sym (h x k)) ∙ f t;
      }) w.1)

  pub staged-long : (s t : List ℕ) → length s ≡ size → staged rows d es s ≡ good t → length t ≡ size
  staged-long s t l e = (staged_leads rows d size Ok es fine (λ u v. Unit {0}) (λ u. tt) (λ u v w p q. tt) (λ x u v k m. tt) s t l e).0

  -- Runs that passed pass again on what they left, and leave it, if the runs of each number do so on its own store.
  pub staged-again : (s t : List ℕ) → length s ≡ size → staged rows d es s ≡ good t →
      ((x : BlockListElement) → Ok x → (u : List ℕ) → own_runs rows d (number_in rows x) es (view_of x s) ≡ good u →
      own_runs rows d (number_in rows x) es u ≡ good u) →
      staged rows d es t ≡ good t
  staged-again s t l e again = by_walked (staged rows d es t) refl
    where
      own_again : (x : BlockListElement) → Ok x → own_runs rows d (number_in rows x) es (view_of x t) ≡ good (view_of x t)
      own_again x k = again x k (view_of x t) (store_alone rows d size Ok es fine (number_in rows x) (row_in rows x) s t (own x k) l e).1

      same : {u v : List ℕ} → good u ≡ good v → u ≡ v
      same q = cc

      long : length t ≡ size
      long = staged-long s t l e

      by_walked : (w : Walked (List ℕ)) → staged rows d es t ≡ w → w ≡ good t
      by_walked (bad i f) q =
          let m = store_fails rows d size Ok es fine own t i f long q in
          failure (sym m.2 ∙ own_again m.0 m.1)
      by_walked (good u) q =
          ap good (stores_whole t u long q (λ x k.
          same (sym (store_alone rows d size Ok es fine (number_in rows x) (row_in rows x) t u (own x k) long q).1 ∙ own_again x k)))
