-- What a reader of messages tells, whatever the bytes: its counts are small, and its lists find room.
use Rattle.std.proofs.Common.{Result, Ok, Err}
use Prim.Native.Nat.{ℕ, ◌+◌, ◌*◌, ◌≤◌}
use native.Mathlib.Omega.{arith}
use mathlib.Core.Path.{◌≡◌, refl, sym, ◌∙◌, ap}
use mathlib.Core.Bool.{Bool, true, false, cond, ◌&&◌}
use mathlib.Core.List.{List}
use lib.Dec.{leb}
use lib.ListN.{length, take}
use lib.Seq.{take-take}
use borrow.Author.Tests.{leb-true}
use Rattle.answers.specs.declared.refusal.Refusal.{Refusal}
use Rattle.answers.specs.declared.refusal.Refusal.TheVariants.{NotAMessage}
use Rattle.node_messages.specs.CodeList.{is_code_list, code_list_in, list_told, list_refused, read_code_list}
use Rattle.node_messages.specs.Information.{is_information, information_in, information_told, information_refused, read_information}
use Rattle.byte_parts.specs.Part.{put}
use Rattle.byte_parts.proofs.Part.{put_zero}
use Rattle.node_messages.proofs.NumberLaws.{padded-long}
use Rattle.node_messages.proofs.Takes.{list-bytes, information_bytes_lem}
use Rattle.handset_words.specs.Message.{told_by, numbers_told, roomed_by, roomed}

pub list-few : (s : List ℕ) → (read_code_list s).list.areas + (read_code_list s).list.services ≤ 16
unfolding read_code_list
list-few s = by (is_code_list s) refl
  where
    by : (t : Bool) → is_code_list s ≡ t → (let x = cond t (list_told (code_list_in s)) (list_refused NotAMessage) in x.list.areas + x.list.services ≤ 16)
    by true e = (list-bytes s e).few
    by false e = omega arith

pub nodes-few : (s : List ℕ) → (read_information s).told.count ≤ 32
unfolding read_information
nodes-few s = by (is_information s) refl
  where
    by : (t : Bool) → is_information s ≡ t → (cond t (information_told (information_in s)) (information_refused NotAMessage)).told.count ≤ 32
    by true e = (information_bytes_lem s e).few
    by false e = omega arith

-- arrays of their lengths
pub list_longs : (s : List ℕ) → (length (read_code_list s).list.ranges ≡ 32) × (length (read_code_list s).list.codes ≡ 16)
unfolding read_code_list
list_longs s = by (is_code_list s)
  where
    by : (t : Bool) → (let x = cond t (list_told (code_list_in s)) (list_refused NotAMessage) in (length x.list.ranges ≡ 32) × (length x.list.codes ≡ 16))
    by true = (padded-long 32 _, padded-long 16 _)
    by false = (refl, refl)

pub counts-long : (s : List ℕ) → (length (read_information s).told.assigned ≡ 32) × (length (read_information s).told.free ≡ 32)
unfolding read_information
counts-long s = by (is_information s)
  where
    by : (t : Bool) → (let x = cond t (information_told (information_in s)) (information_refused NotAMessage) in (length x.told.assigned ≡ 32) × (length x.told.free ≡ 32))
    by true = (padded-long 32 _, padded-long 32 _)
    by false = (refl, refl)

-- both lists find room
both-roomed : (a : Result Unit Refusal) (n room m rest : ℕ) → (told_by (roomed a n room m rest) 0 n ≤ room) × (told_by (roomed a n room m rest) 0 m ≤ rest)
unfolding roomed
both-roomed (Err r) n room m rest = (omega arith, omega arith)
both-roomed (Ok tt) n room m rest = by (leb n room) (leb m rest) refl refl
  where
    by : (t u : Bool) → leb n room ≡ t → leb m rest ≡ u → (told_by (roomed_by (Ok tt) (t && u)) 0 n ≤ room) × (told_by (roomed_by (Ok tt) (t && u)) 0 m ≤ rest)
    by true true e f = (leb-true n room e, leb-true m rest f)
    by true false e f = (omega arith, omega arith)
    by false u e f = (omega arith, omega arith)

pub both_find_room : (a : Result Unit Refusal) (n room m rest : ℕ) {b : Result Unit Refusal} → b ≡ roomed a n room m rest → (told_by b 0 n ≤ room) × (told_by b 0 m ≤ rest)
both_find_room a n room m rest e = rw e (both-roomed a n room m rest)

-- no more of a list is written than there is of it
put-within : (d : List ℕ) (n m : ℕ) (t : List ℕ) → n ≤ m → put d 0 n (take m t) ≡ put d 0 n t
unfolding put
put-within d n m t h = rw (take-take n m t h)

-- what a reader makes of its message x, told by the definitions of y, which is the same
module _ {Y : Type 0} {x y : Y} (e : x ≡ y) (ask : Y → Result Unit Refusal) {a : Result Unit Refusal} (j : a ≡ ask x) where
  pub as_told : {B : Type 0} (f : Y → Result Unit Refusal → B) → f x a ≡ f y (ask y)
  as_told f = ap (f x) j ∙ ap (λ (z : Y). f z (ask z)) e

-- a reader that is done has written the numbers of its list
pub list-told : {Y : Type 0} {x y : Y} (e : x ≡ y) (ask : Y → Result Unit Refusal) (j : (Ok tt) ≡ ask x) (old : List ℕ) (m : ℕ) (count : Y → ℕ) (list : Y → List ℕ) {after : List ℕ} →
    count x ≤ m → after ≡ put old 0 (count x) (take m (list x)) → after ≡ numbers_told (ask y) old (count y) (list y)
list-told {Y = Y} {x = x} e ask j old m count list h q =
    q ∙ put-within old (count x) m (list x) h ∙ as_told e ask j (λ (z : Y) (b : Result Unit Refusal). numbers_told b old (count z) (list z))

-- one that refuses has left them
pub list-kept : {Y : Type 0} {x y : Y} (e : x ≡ y) (ask : Y → Result Unit Refusal) {r : Refusal} (j : Err r ≡ ask x) (old : List ℕ) (count : Y → ℕ) (list : Y → List ℕ) →
    old ≡ numbers_told (ask y) old (count y) (list y)
list-kept {Y = Y} {x = x} e ask j old count list =
    sym (put_zero old 0 (list x)) ∙ as_told e ask j (λ (z : Y) (b : Result Unit Refusal). numbers_told b old (count z) (list z))
