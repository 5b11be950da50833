-- What the runs of a write leave of a block of a random store: what the elements that name it bring, one after the other.
use Rattle.std.proofs.Common.{Option, Some, false}
use Prim.Native.Nat.{ℕ, ◌+◌, ◌*◌, ◌≤◌, ◌<◌}
use native.Mathlib.Omega.{arith}
use native.Mathlib.Decide.{ℕ_discrete, dec_lt}
use mathlib.Core.Path.{◌≡◌, refl, sym, ap, ◌∙◌}
use mathlib.Core.Bool.{Bool, true, ◌&&◌, cond, false≢true}
use mathlib.Core.List.{List}
use mathlib.Core.Logic.{◌⊎◌, inl, inr, ⊎_elim}
use lib.Dec.{eqb}
use lib.ListN.{length, get_or}
use lib.Seq.{take_all}
use borrow.Author.Tests.{eq-eqb, ne_eqb}
use Rattle.service_code.specs.declared.code.ServiceKind.TheVariants.{Random}
use Rattle.service_code.specs.declared.code.ServiceAttribute.{ServiceAttribute}
use Rattle.service_code.specs.declared.code.ServiceAttribute.TheVariants.{RandomReadWrite, RandomReadOnly, CyclicReadWrite, CyclicReadOnly, PurseDirect, PurseCashback, PurseDecrement, PurseReadOnly}
use Rattle.service_code.specs.Code.{number_of, attribute_of, code_kind_of, kind_of, decoded_kind_of, allows_write}
use Rattle.block_list.specs.declared.element.BlockListElement.{BlockListElement}
use Rattle.byte_parts.specs.Part.{part, put}
use Rattle.byte_parts.proofs.Part.{length_part, length-put, part-put, part-put_apart, part-part, put-part}
use Rattle.answers.specs.Outcome.{Outcome, passed}
use Rattle.card_nodes.specs.declared.node.Node.{Node}
use Rattle.card_laws.proofs.Laid.{Laid}
use Rattle.request_check.specs.declared.table.Row.{Row}
use Rattle.request_check.specs.Row.{rows_of, row_in, number_in}
use Rattle.request_check.proofs.Laws.{Good}
use Rattle.request_rules.specs.Rules.{element_by, end_by, on_store}
use Rattle.request_runs.specs.Runs.{good, runs_of}
use Rattle.request_runs.specs.Staged.{at_index, element_on, end_on, staged}
use Rattle.request_runs.proofs.WalkSteps.{AllFrom, flat_runs}
use Rattle.request_runs.proofs.OwnRuns.{step_put}
use Rattle.law_terminals.proofs.Owned.{ServiceRow, good-service, one_store, two_stores}
use Rattle.law_terminals.proofs.Folds.{folded, replaced, walk_tracks}

-- a part of what was put
pub part_of_put : (s : List ℕ) (at n : ℕ) (t : List ℕ) (from m : ℕ) → at + n ≤ length s → length t ≡ n → from + m ≤ n →
    part (put s at n t) (at + from) m ≡ part t from m
part_of_put s at n t from m h l k =
    sym (part-part (put s at n t) at n from m k)
    ∙ ap (λ (u : List ℕ). part u from m) (part-put s at n t h (omega (arith, l)) ∙ take_all n t (omega (arith, l)))

-- a block of a store, once a block of that store was put: that one, or as it was
module _ (s : List ℕ) (at n x b : ℕ) (t : List ℕ) (h : at + n ≤ length s) (hx : 16 * x + 16 ≤ n) (hb : 16 * b + 16 ≤ n) (l : length t ≡ 16) where
  -- the store that is put
  abbrev store : List ℕ
  store = put (part s at n) (16 * x) 16 t

  long : length store ≡ n
  long = length-put (part s at n) (16 * x) 16 t ∙ length_part s at n h

  pub block-put : part (put s at n store) (at + 16 * b) 16 ≡ cond (eqb x b) t (part s (at + 16 * b) 16)
  block-put =
      part_of_put s at n store (16 * b) 16 h long hb
      ∙ elim (ℕ_discrete x b) [
        | yes e ↦ rw (eq-eqb x b e, ← e) (part-put (part s at n) (16 * x) 16 t (rw (length_part s at n h) hx) (omega (arith, l)) ∙ take_all 16 t (omega (arith, l)))
        | no e ↦
            rw (ne_eqb x b e)
            (part-put_apart (part s at n) (16 * x) 16 t (16 * b) 16 (sides e) ∙ part-part s at n (16 * b) 16 hb)
      ]
    where
      sides : (x ≡ b → ⊥) → (16 * b + 16 ≤ 16 * x) ⊎ (16 * x + 16 ≤ 16 * b)
      sides e = elim (dec_lt x b) [ yes k ↦ inr (omega arith) | no k ↦ inl (omega arith) ]

-- of the random kind only one attribute may be written
pub random-writes : (a : ServiceAttribute) → Some (kind_of a) ≡ Some Random → allows_write a ≡ true → Some a ≡ Some RandomReadWrite
random-writes RandomReadWrite k w = refl
random-writes RandomReadOnly k w = absurd (false≢true w)
random-writes CyclicReadWrite k w = absurd (let z : ◌≡◌ {A = ℕ} 0 1 = cc in (omega arith))
random-writes CyclicReadOnly k w = absurd (false≢true w)
random-writes PurseDirect k w = absurd (let z : ◌≡◌ {A = ℕ} 0 1 = cc in (omega arith))
random-writes PurseCashback k w = absurd (let z : ◌≡◌ {A = ℕ} 0 1 = cc in (omega arith))
random-writes PurseDecrement k w = absurd (let z : ◌≡◌ {A = ℕ} 0 1 = cc in (omega arith))
random-writes PurseReadOnly k w = absurd (false≢true w)

-- an outcome that passes has one result
one_result : {o : Outcome} {s t : List ℕ} → o ≡ passed s → o ≡ passed t → t ≡ s
one_result e f = let k : passed _ ≡ passed _ = sym f ∙ e in cc

module _ (i : ℕ) (w : Row) (a : w.attribute ≡ Some RandomReadWrite) (s t : List ℕ) where
  -- an element on a random store puts its block
  random_element : (number mode : ℕ) (block : List ℕ) →
      at_index i (on_store w (element_by w.attribute w.limit number mode block) s) ≡ good t →
      t ≡ put s (16 * w.start) (16 * w.blocks) (put (part s (16 * w.start) (16 * w.blocks)) (16 * number) 16 block)
  unfolding element_by
  random_element number mode block e =
      let q = step_put i w (element_by w.attribute w.limit number mode block) s t e in
      q.2 ∙ ap (put s (16 * w.start) (16 * w.blocks)) (one_result (puts w.attribute a) q.1)
    where
      puts : (d : Option ServiceAttribute) → d ≡ Some RandomReadWrite →
          element_by d w.limit number mode block (part s (16 * w.start) (16 * w.blocks))
          ≡ passed (put (part s (16 * w.start) (16 * w.blocks)) (16 * number) 16 block)
      puts d k = rw k

  -- the end of a run changes nothing of it
  random-end : (run : List ℕ) → at_index i (on_store w (end_by w.attribute run) s) ≡ good t → t ≡ s
  unfolding end_by
  random-end run e =
      let q = step_put i w (end_by w.attribute run) s t e in
      q.2 ∙ ap (put s (16 * w.start) (16 * w.blocks)) (one_result (leaves w.attribute a) q.1)
      ∙ put-part s (16 * w.start) (16 * w.blocks)
    where
      leaves : (d : Option ServiceAttribute) → d ≡ Some RandomReadWrite →
          end_by d run (part s (16 * w.start) (16 * w.blocks)) ≡ passed (part s (16 * w.start) (16 * w.blocks))
      leaves d k = rw k

-- whether an element of a request of these codes names block b of the number n
abbrev pub hits : List ℕ → ℕ → ℕ → BlockListElement → Bool
hits codes n b x = eqb (number_of (get_or codes x.index 0)) n && eqb x.number b

-- the sixteen bytes that element i brings
abbrev pub data_at : List ℕ → ℕ → List ℕ
data_at d i = part d (16 * i) 16

-- element i of a write passed its check, and its data are there
pub record Checks (rows : List Row) (d : List ℕ) (i : ℕ) (x : BlockListElement) : Type 0 where
  pub passes : Good rows true x
  pub brings : 16 * i + 16 ≤ length d

-- Block b of a random store, that of the service `own`, in a stage of `size` bytes, over a write of the codes and the data d.
module _ {ns : List Node} {used : ℕ} (l : Laid ns used) (codes d : List ℕ) {own : ℕ} (random : code_kind_of own ≡ Some Random) {v : Row}
    (o : ServiceRow ns own v) (size b : ℕ) (fits : 16 * v.start + 16 * v.blocks ≤ size) (here : b < v.blocks) where
  abbrev rows : List Row
  rows = rows_of ns codes

  -- the code that an element names
  abbrev code_of : BlockListElement → ℕ
  code_of x = get_or codes x.index 0

  -- the block as it is in a stage
  abbrev pub block_in : List ℕ → List ℕ
  block_in s = part s (16 * v.start + 16 * b) 16

  -- what it becomes by element i
  abbrev pub becomes : ℕ → BlockListElement → List ℕ → List ℕ
  becomes = replaced (hits codes (number_of own) b) (data_at d)

  module _ (x : BlockListElement) (g : Good rows true x) where
    -- a service of the same number is written at random
    written : number_of (code_of x) ≡ number_of own → (row_in rows x).attribute ≡ Some RandomReadWrite
    unfolding code_kind_of
    written same =
        let p = good-service ns codes g in
        let a : attribute_of (code_of x) ≡ Some g.attribute = sym p.attribute ∙ g.defined in
        g.defined
        ∙ random-writes g.attribute (sym (ap decoded_kind_of a) ∙ (one_store l p o same).2 ∙ random) (g.writable refl)

    -- a service of another number leaves the block, whatever the rule is
    others : (number_of (code_of x) ≡ number_of own → ⊥) → (i : ℕ) (rule : List ℕ → Outcome) (s t : List ℕ) →
        at_index i (on_store (row_in rows x) rule s) ≡ good t → (length t ≡ length s) × (block_in t ≡ block_in s)
    others other i rule s t e =
        let w = row_in rows x in
        let q = step_put i w rule s t e in
        let k = two_stores l (good-service ns codes g) o other in
        rw q.2 (
          length-put s (16 * w.start) (16 * w.blocks) q.0,
          part-put_apart s (16 * w.start) (16 * w.blocks) q.0 (16 * v.start + 16 * b) 16
              (⊎_elim (λ z. inr (omega arith)) (λ z. inl (omega arith)) k),
        )

  -- an element that passes changes the block if it names it
  element_is : (i : ℕ) (x : BlockListElement) (s t : List ℕ) → Checks rows d i x → length s ≡ size → element_on rows d i x s ≡ good t →
      (length t ≡ size) × (block_in t ≡ becomes i x (block_in s))
  element_is i x s t g f e =
      elim (ℕ_discrete (number_of (code_of x)) (number_of own)) [
        | yes same ↦
            let k = one_store l (good-service ns codes g.passes) o same in
            let p = rw (k.0, k.1) at
            (random_element i (row_in rows x) (written x g.passes same) s t x.number x.mode (data_at d i) e) in
            let n : x.number < v.blocks = rw k.1 at g.passes.number in
            rw (p, eq-eqb (number_of (code_of x)) (number_of own) same) (
              length-put s (16 * v.start) (16 * v.blocks) (put (part s (16 * v.start) (16 * v.blocks)) (16 * x.number) 16 (data_at d i)) ∙ f,
              block-put s (16 * v.start) (16 * v.blocks) x.number b (data_at d i) (omega arith) (omega arith) (omega arith)
                  (length_part d (16 * i) 16 g.brings),
            )
        | no other ↦
            let q = others x g.passes other i _ s t e in
            rw (ne_eqb (number_of (code_of x)) (number_of own) other) (q.0 ∙ f, q.1)
      ]

  -- the end of a run leaves it
  end_is : (i : ℕ) (x : BlockListElement) (n : ℕ) (s t : List ℕ) → Checks rows d i x → length s ≡ size → end_on rows d i x n s ≡ good t →
      (length t ≡ size) × (block_in t ≡ block_in s)
  end_is i x n s t g f e =
      elim (ℕ_discrete (number_of (code_of x)) (number_of own)) [
        | yes same ↦ rw (random-end i (row_in rows x) (written x g.passes same) s t (part d (16 * i) (16 * n)) e) (f, refl)
        | no other ↦ let q = others x g.passes other i _ s t e in (q.0 ∙ f, q.1)
      ]

  -- so all runs leave of it what the elements that name it bring, one after the other
  pub block-staged : (es : List BlockListElement) (s t : List ℕ) → AllFrom (Checks rows d) 0 es → length s ≡ size →
      staged rows d es s ≡ good t → (length t ≡ size) × (block_in t ≡ folded becomes 0 es (block_in s))
  unfolding staged
  block-staged es s t p f e =
      rw (flat_runs (number_in rows) es) at
      (walk_tracks (Checks rows d) becomes (element_on rows d) (end_on rows d) (λ u. length u ≡ size) block_in
      (record { one_is_lem = element_is; close_is = end_is }) 0 (runs_of (number_in rows) es) s t (rw (flat_runs (number_in rows) es) p) f e)
