-- Laws of where fields end: what stands between two ends is a field, and how many there are. Assumes nothing.
use Prim.Native.Nat.{ℕ, zero, suc, ◌+◌, ◌-◌, ◌≤◌, ◌<◌}
use native.Mathlib.Omega.{arith}
use native.Mathlib.Decide.{dec_lt}
use mathlib.Core.Path.{◌≡◌, sym, ◌∙◌}
use mathlib.Core.Logic.{⊎_elim}
use mathlib.Core.List.{List, []}
use lib.ListN.{length, get_or, take, drop, drop_of_length-le}
use borrow.Author.Tests.{lt-ltb, le-ltb}
use Rattle.byte_scan.specs.Bytes.{index_of, slice}
use Rattle.text_fields.specs.declared.Ends.{Ends}
use Rattle.text_fields.specs.Field.{split, field_end, ends_of}
use Rattle.text_fields.proofs.FieldLaws.{end_cut, field_here, field-none, field_next}

-- Behind the end of a text there is an empty field at most.
none-behind : (b : ℕ) (s : List ℕ) (from k : ℕ) → length s < from → get_or (split b (drop from s)) k [] ≡ []
unfolding split
none-behind b s from zero h = let l : length s ≤ from = omega arith in rw (drop_of_length-le s l)
none-behind b s from (suc k) h = let l : length s ≤ from = omega arith in rw (drop_of_length-le s l)

module _ (b : ℕ) (s : List ℕ) (from : ℕ) where
  -- The end is where a search ends,
  pub end-found : from ≤ length s → field_end b from s ≡ from + index_of b (slice from (length s) s)
  unfolding field_end
  end-found h = rw (le-ltb (length s) from h)

  -- or where the text ends.
  pub end-past : length s < from → field_end b from s ≡ length s
  unfolding field_end
  end-past h = rw (lt-ltb (length s) from h)

  -- It lies within the text.
  pub end-within : field_end b from s ≤ length s
  end-within =
      elim (dec_lt (length s) from) [
        | yes h ↦ omega (arith, end-past h)
        | no h ↦ ⊎_elim (λ w. omega (arith, w.0)) (λ w. omega (arith, w.0)) (end_cut b from s (omega arith) (field_end b from s) (end-found (omega arith)))
      ]

  -- An end at a separator lies no lower than its field.
  pub end_after : field_end b from s < length s → from ≤ field_end b from s
  end_after g =
      elim (dec_lt (length s) from) [
        | yes h ↦ absurd (omega (arith, end-past h))
        | no h ↦ omega (arith, end-found (omega arith))
      ]

  -- The field at a place goes to its end.
  pub end_here : take (field_end b from s - from) (drop from s) ≡ get_or (split b (drop from s)) 0 []
  end_here =
      elim (dec_lt (length s) from) [
        | yes h ↦ let z : field_end b from s - from ≡ 0 = omega (arith, end-past h) in rw z (sym (none-behind b s from 0 h))
        | no h ↦ field_here b from s (omega arith) (field_end b from s) (end-found (omega arith))
      ]

  -- The fields after it start behind that.
  pub end-next : (k : ℕ) → get_or (split b (drop from s)) (suc k) [] ≡ get_or (split b (drop (field_end b from s + 1) s)) k []
  end-next k =
      elim (dec_lt (length s) from) [
        | yes h ↦ none-behind b s from (suc k) h ∙ sym (none-behind b s (field_end b from s + 1) k (omega (arith, end-past h)))
        | no h ↦
            let e = end-found (omega arith) in
            elim (dec_lt (field_end b from s) (length s)) [
              | yes g ↦ field_next b from s (omega arith) (field_end b from s) e k g
              | no g ↦
                  field-none b from s (omega arith) (field_end b from s) e (suc k) (omega arith) (omega arith)
                  ∙ sym (none-behind b s (field_end b from s + 1) k (omega arith))
            ]
      ]

  -- One that ends at a separator is one more than those.
  pub count_cut : field_end b from s < length s → length (split b (drop from s)) ≡ 1 + length (split b (drop (field_end b from s + 1) s))
  count_cut g =
      let h : from ≤ length s = omega (arith, end_after g) in
      ⊎_elim (λ w. absurd (omega (arith, w.0))) (λ w. rw w.1 (omega arith)) (end_cut b from s h (field_end b from s) (end-found h))

  -- One that ends with the text is the last.
  pub count-last : from ≤ length s → length s ≤ field_end b from s → length (split b (drop from s)) ≡ 1
  count-last h g =
      ⊎_elim (λ w. rw w.1 (omega arith)) (λ w. absurd (omega (arith, w.0))) (end_cut b from s h (field_end b from s) (end-found h))

-- One of n + 1 fields starts behind a.
module _ (b : ℕ) (s : List ℕ) (n a z : ℕ) (q : z ≡ field_end b (a + 1) s) (p : a < length s → length (split b s) ≡ n + length (split b (drop (a + 1) s))) where
  -- If it ends at a separator, others start behind that.
  one_more : z < length s → length (split b s) ≡ suc n + length (split b (drop (z + 1) s))
  one_more g =
      let i : field_end b (a + 1) s < length s = omega (arith, q) in
      let j : a < length s = omega (arith, end_after b s (a + 1) i) in
      let m : length (split b (drop (a + 1) s)) ≡ 1 + length (split b (drop (z + 1) s)) = rw q (count_cut b s (a + 1) i) in
      omega (arith, p j, m)

  -- If it ends with the text, it is the last.
  the_last : a < length s → length s ≤ z → suc n ≡ length (split b s)
  the_last j g =
      let l : length s ≤ field_end b (a + 1) s = omega (arith, q) in
      omega (arith, p j, count-last b s (a + 1) (omega arith) l)

-- Of the ends of the first six fields.
module _ (b : ℕ) (s : List ℕ) (x : Ends) (e : x ≡ ends_of b s) where
  -- Each lies within the text.
  pub ends-within
      : (x.first ≤ length s)
      × ((x.second ≤ length s) × ((x.third ≤ length s) × ((x.fourth ≤ length s) × ((x.fifth ≤ length s) × (x.sixth ≤ length s)))))
  unfolding ends_of
  ends-within =
      let one = field_end b 0 s in
      let two = field_end b (one + 1) s in
      let three = field_end b (two + 1) s in
      let four = field_end b (three + 1) s in
      rw e
      (end-within b s 0, (end-within b s (one + 1), (end-within b s (two + 1), (end-within b s (three + 1), (end-within b s (four + 1), end-within b s (field_end b (four + 1) s + 1))))))

  -- What stands between two of them is a field.
  pub first_field : take (x.first - 0) (drop 0 s) ≡ get_or (split b s) 0 []
  unfolding ends_of
  first_field = rw e (end_here b s 0)

  pub second_field : take (x.second - (x.first + 1)) (drop (x.first + 1) s) ≡ get_or (split b s) 1 []
  unfolding ends_of
  second_field = rw e (end_here b s (field_end b 0 s + 1) ∙ sym (end-next b s 0 0))

  pub third_field : take (x.third - (x.second + 1)) (drop (x.second + 1) s) ≡ get_or (split b s) 2 []
  unfolding ends_of
  third_field =
      let one = field_end b 0 s in
      rw e (end_here b s (field_end b (one + 1) s + 1) ∙ sym (end-next b s 0 1 ∙ end-next b s (one + 1) 0))

  pub fourth_field : take (x.fourth - (x.third + 1)) (drop (x.third + 1) s) ≡ get_or (split b s) 3 []
  unfolding ends_of
  fourth_field =
      let one = field_end b 0 s in
      let two = field_end b (one + 1) s in
      rw e (end_here b s (field_end b (two + 1) s + 1) ∙ sym (end-next b s 0 2 ∙ end-next b s (one + 1) 1 ∙ end-next b s (two + 1) 0))

  pub fifth_field : take (x.fifth - (x.fourth + 1)) (drop (x.fourth + 1) s) ≡ get_or (split b s) 4 []
  unfolding ends_of
  fifth_field =
      let one = field_end b 0 s in
      let two = field_end b (one + 1) s in
      let three = field_end b (two + 1) s in
      rw e
      (end_here b s (field_end b (three + 1) s + 1)
      ∙ sym (end-next b s 0 3 ∙ end-next b s (one + 1) 2 ∙ end-next b s (two + 1) 1 ∙ end-next b s (three + 1) 0))

  pub sixth_field : take (x.sixth - (x.fifth + 1)) (drop (x.fifth + 1) s) ≡ get_or (split b s) 5 []
  unfolding ends_of
  sixth_field =
      let one = field_end b 0 s in
      let two = field_end b (one + 1) s in
      let three = field_end b (two + 1) s in
      let four = field_end b (three + 1) s in
      rw e
      (end_here b s (field_end b (four + 1) s + 1)
      ∙ sym (end-next b s 0 4 ∙ end-next b s (one + 1) 3 ∙ end-next b s (two + 1) 2 ∙ end-next b s (three + 1) 1 ∙ end-next b s (four + 1) 0))

  -- Each is where the field behind the one before it ends.
  first-end : x.first ≡ field_end b 0 s
  unfolding ends_of
  first-end = rw e

  second-end : x.second ≡ field_end b (x.first + 1) s
  unfolding ends_of
  second-end = rw e

  third_end : x.third ≡ field_end b (x.second + 1) s
  unfolding ends_of
  third_end = rw e

  fourth_end : x.fourth ≡ field_end b (x.third + 1) s
  unfolding ends_of
  fourth_end = rw e

  fifth_end : x.fifth ≡ field_end b (x.fourth + 1) s
  unfolding ends_of
  fifth_end = rw e

  sixth_end : x.sixth ≡ field_end b (x.fifth + 1) s
  unfolding ends_of
  sixth_end = rw e

  -- Each that is a separator's is one field more.
  behind_one : x.first < length s → length (split b s) ≡ 1 + length (split b (drop (x.first + 1) s))
  behind_one = rw first-end (count_cut b s 0)

  behind_two : x.second < length s → length (split b s) ≡ 2 + length (split b (drop (x.second + 1) s))
  behind_two = one_more b s 1 x.first x.second second-end behind_one

  behind_three : x.third < length s → length (split b s) ≡ 3 + length (split b (drop (x.third + 1) s))
  behind_three = one_more b s 2 x.second x.third third_end behind_two

  behind_four : x.fourth < length s → length (split b s) ≡ 4 + length (split b (drop (x.fourth + 1) s))
  behind_four = one_more b s 3 x.third x.fourth fourth_end behind_three

  behind_five : x.fifth < length s → length (split b s) ≡ 5 + length (split b (drop (x.fifth + 1) s))
  behind_five = one_more b s 4 x.fourth x.fifth fifth_end behind_four

  -- One that is the text's is the last.
  pub count_one : length s ≤ x.first → 1 ≡ length (split b s)
  count_one h = let l : length s ≤ field_end b 0 s = omega (arith, first-end) in sym (count-last b s 0 (omega arith) l)

  pub count_two : x.first < length s → length s ≤ x.second → 2 ≡ length (split b s)
  count_two = the_last b s 1 x.first x.second second-end behind_one

  pub count_three : x.second < length s → length s ≤ x.third → 3 ≡ length (split b s)
  count_three = the_last b s 2 x.second x.third third_end behind_two

  pub count_four : x.third < length s → length s ≤ x.fourth → 4 ≡ length (split b s)
  count_four = the_last b s 3 x.third x.fourth fourth_end behind_three

  pub count_five : x.fourth < length s → length s ≤ x.fifth → 5 ≡ length (split b s)
  count_five = the_last b s 4 x.fourth x.fifth fifth_end behind_four

  pub count_six : x.fifth < length s → length s ≤ x.sixth → 6 ≡ length (split b s)
  count_six = the_last b s 5 x.fifth x.sixth sixth_end behind_five
