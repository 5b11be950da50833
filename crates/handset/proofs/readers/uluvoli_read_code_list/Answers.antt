-- Both lists find room, or nothing is written; what is told is what the reader made of the bytes.
use Rattle.std.proofs.Common.{Result, Ok}
use mathlib.Core.Path.{◌≡◌, sym, ◌∙◌}
use mathlib.Core.Bool.{Bool}
use mathlib.Core.List.{List}
use Prim.Native.Nat.{ℕ, ◌+◌, ◌*◌, ◌≤◌}
use native.Mathlib.Omega.{arith}
use lib.ListN.{length, length-take}
use borrow.Author.Rules.{rules}
use Rattle.node_messages.specs.declared.code_list.Listed.{Listed}
use Rattle.node_messages.specs.CodeList.{read_code_list}
use Rattle.handset_words.specs.Outcome.{answer_as}
use Rattle.handset_words.specs.Message.{told_by, roomed}
use Rattle.handset_words.proofs.Reading.{list-few, list_longs, both_find_room, as_told, list-told, list-kept}
use Rattle.handset.proofs.readers.uluvoli_read_code_list.Goals as goal
use Rattle.answers.specs.declared.refusal.Refusal.{Refusal}

-- what was read has few entries, and arrays of their lengths
few : (s : List ℕ) {x : Listed} → x ≡ read_code_list s → x.list.areas + x.list.services ≤ 16
few s e = rw e (list-few s)

long : (s : List ℕ) {x : Listed} → x ≡ read_code_list s → (length x.list.ranges ≡ 32) × (length x.list.codes ≡ 16)
long s e = rw e (list_longs s)

-- how the lists fit
abbrev ask : (areas services : ℕ) → Listed → Result Unit Refusal
ask areas services x = roomed x.answer (2 * x.list.areas) areas x.list.services services

-- the call is done: both lists find room
both : (areas services : ℕ) (x : Listed) {said : Result Unit Refusal} → said ≡ ask areas services x → said ≡ Ok tt → (2 * x.list.areas ≤ areas) × (x.list.services ≤ services)
both areas services x e d = both_find_room x.answer (2 * x.list.areas) areas x.list.services services (sym d ∙ e)

pub overflow_mul-list : goal.overflow_mul-list
overflow_mul-list c = omega (arith, few _ c.read_code_list-read.ensures)

pub overflow_mul-list-in-Ok : goal.overflow_mul-list-in-Ok
overflow_mul-list-in-Ok c = omega (arith, few _ c.read_code_list-read.ensures)

pub fill-requires : goal.fill-requires
fill-requires c =
    let b = both _ _ c.read_code_list-read.result c.judged-answer.ensures c.in-Ok.is in
    let l = long _ c.read_code_list-read.ensures in
    simp length-take (omega (arith, b.0, few _ c.read_code_list-read.ensures, l.0), b.0)

pub fill-requires-in-Ok : goal.fill-requires-in-Ok
fill-requires-in-Ok c =
    let b = both _ _ c.read_code_list-read.result c.judged-answer.ensures c.in-Ok.is in
    let l = long _ c.read_code_list-read.ensures in
    simp length-take (omega (arith, b.1, few _ c.read_code_list-read.ensures, l.1), b.1)

pub slice_bounds-fill-end : goal.slice_bounds-fill-end
slice_bounds-fill-end c = let l = long _ c.read_code_list-read.ensures in omega (arith, l.0)

pub slice_bounds-fill-end-in-Ok : goal.slice_bounds-fill-end-in-Ok
slice_bounds-fill-end-in-Ok c = let l = long _ c.read_code_list-read.ensures in omega (arith, l.1)

pub returns-in-Err : goal.returns-in-Err
returns-in-Err c =
    let a = c.args in
    let e = c.read_code_list-read.ensures in
    let q = ask (length a.areas.now) (length a.services.now) in
    let k = sym c.in-Err.is ∙ c.judged-answer.ensures in
    record {
      value = c.refused.ensures ∙ as_told e q k (λ (z : Listed) (b : Result Unit Refusal). answer_as b);
      areas_after = list-kept e q k a.areas.now (λ z. 2 * z.list.areas) (λ z. z.list.ranges);
      services_after = list-kept e q k a.services.now (λ z. z.list.services) (λ z. z.list.codes);
      area_count_after = as_told e q k (λ (z : Listed) (b : Result Unit Refusal). told_by {A = ℕ} b a.area_count.now z.list.areas);
      service_count_after = as_told e q k (λ (z : Listed) (b : Result Unit Refusal). told_by {A = ℕ} b a.service_count.now z.list.services);
      more_after = as_told e q k (λ (z : Listed) (b : Result Unit Refusal). told_by {A = Bool} b a.more.now z.list.more);
    }

pub returns-in-Ok : goal.returns-in-Ok
returns-in-Ok c =
    let a = c.args in
    let e = c.read_code_list-read.ensures in
    let q = ask (length a.areas.now) (length a.services.now) in
    let k = sym c.in-Ok.is ∙ c.judged-answer.ensures in
    let h = few _ e in
    record {
      value = as_told e q k (λ (z : Listed) (b : Result Unit Refusal). answer_as b);
      areas_after = list-told e q k a.areas.now 32 (λ z. 2 * z.list.areas) (λ z. z.list.ranges) (omega (arith, h)) c.fill.ensures;
      services_after = list-told e q k a.services.now 16 (λ z. z.list.services) (λ z. z.list.codes) (omega (arith, h)) c.fill-in-Ok.ensures;
      area_count_after = as_told e q k (λ (z : Listed) (b : Result Unit Refusal). told_by {A = ℕ} b a.area_count.now z.list.areas);
      service_count_after = as_told e q k (λ (z : Listed) (b : Result Unit Refusal). told_by {A = ℕ} b a.service_count.now z.list.services);
      more_after = as_told e q k (λ (z : Listed) (b : Result Unit Refusal). told_by {A = Bool} b a.more.now z.list.more);
    }
