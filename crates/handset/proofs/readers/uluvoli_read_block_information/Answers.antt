-- Both lists find room, or nothing is written; what is told is what the reader made of the bytes.
use Rattle.std.proofs.Common.{Result, Ok}
use mathlib.Core.Path.{◌≡◌, sym, ◌∙◌}
use mathlib.Core.List.{List}
use Prim.Native.Nat.{ℕ, ◌≤◌}
use native.Mathlib.Omega.{arith}
use lib.ListN.{length, length-take}
use borrow.Author.Rules.{rules}
use Rattle.node_messages.specs.declared.information.Informed.{Informed}
use Rattle.node_messages.specs.Information.{read_information}
use Rattle.handset_words.specs.Outcome.{answer_as}
use Rattle.handset_words.specs.Message.{told_by, roomed}
use Rattle.handset_words.proofs.Reading.{nodes-few, counts-long, both_find_room, as_told, list-told, list-kept}
use Rattle.handset.proofs.readers.uluvoli_read_block_information.Goals as goal
use Rattle.answers.specs.declared.refusal.Refusal.{Refusal}

-- what was read has few nodes, and arrays of their lengths
few : (s : List ℕ) {x : Informed} → x ≡ read_information s → x.told.count ≤ 32
few s e = rw e (nodes-few s)

long : (s : List ℕ) {x : Informed} → x ≡ read_information s → (length x.told.assigned ≡ 32) × (length x.told.free ≡ 32)
long s e = rw e (counts-long s)

-- how the lists fit
abbrev ask : (assigned free : ℕ) → Informed → Result Unit Refusal
ask assigned free x = roomed x.answer x.told.count assigned x.told.count free

-- the call is done: both lists find room
both : (assigned free : ℕ) (x : Informed) {said : Result Unit Refusal} → said ≡ ask assigned free x → said ≡ Ok tt → (x.told.count ≤ assigned) × (x.told.count ≤ free)
both assigned free x e d = both_find_room x.answer x.told.count assigned x.told.count free (sym d ∙ e)

pub fill-requires : goal.fill-requires
fill-requires c =
    let b = both _ _ c.read_information-read.result c.judged-answer.ensures c.in-Ok.is in
    let l = long _ c.read_information-read.ensures in
    simp length-take (omega (arith, b.0, few _ c.read_information-read.ensures, l.0), b.0)

pub fill-requires-in-Ok : goal.fill-requires-in-Ok
fill-requires-in-Ok c =
    let b = both _ _ c.read_information-read.result c.judged-answer.ensures c.in-Ok.is in
    let l = long _ c.read_information-read.ensures in
    simp length-take (omega (arith, b.1, few _ c.read_information-read.ensures, l.1), b.1)

pub slice_bounds-fill-end : goal.slice_bounds-fill-end
slice_bounds-fill-end c = let l = long _ c.read_information-read.ensures in omega (arith, l.0)

pub slice_bounds-fill-end-in-Ok : goal.slice_bounds-fill-end-in-Ok
slice_bounds-fill-end-in-Ok c = let l = long _ c.read_information-read.ensures in omega (arith, l.1)

pub returns-in-Err : goal.returns-in-Err
returns-in-Err c =
    let a = c.args in
    let e = c.read_information-read.ensures in
    let q = ask (length a.assigned.now) (length a.free.now) in
    let k = sym c.in-Err.is ∙ c.judged-answer.ensures in
    record {
      value = c.refused.ensures ∙ as_told e q k (λ (z : Informed) (b : Result Unit Refusal). answer_as b);
      assigned_after = list-kept e q k a.assigned.now (λ z. z.told.count) (λ z. z.told.assigned);
      free_after = list-kept e q k a.free.now (λ z. z.told.count) (λ z. z.told.free);
      nodes_after = as_told e q k (λ (z : Informed) (b : Result Unit Refusal). told_by {A = ℕ} b a.nodes.now z.told.count);
    }

pub returns-in-Ok : goal.returns-in-Ok
returns-in-Ok c =
    let a = c.args in
    let e = c.read_information-read.ensures in
    let q = ask (length a.assigned.now) (length a.free.now) in
    let k = sym c.in-Ok.is ∙ c.judged-answer.ensures in
    let h = few _ e in
    record {
      value = as_told e q k (λ (z : Informed) (b : Result Unit Refusal). answer_as b);
      assigned_after = list-told e q k a.assigned.now 32 (λ z. z.told.count) (λ z. z.told.assigned) h c.fill.ensures;
      free_after = list-told e q k a.free.now 32 (λ z. z.told.count) (λ z. z.told.free) h c.fill-in-Ok.ensures;
      nodes_after = as_told e q k (λ (z : Informed) (b : Result Unit Refusal). told_by {A = ℕ} b a.nodes.now z.told.count);
    }
