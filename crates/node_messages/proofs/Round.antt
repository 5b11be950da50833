-- What was written is read back, and what a reader takes is what the writer writes of it.
use Prim.Native.Nat.{ℕ, zero, suc, ◌+◌, ◌*◌, ◌≤◌}
use native.Mathlib.Omega.{arith}
use native.Mathlib.Decide.{dec_lt}
use mathlib.Core.Path.{◌≡◌, refl, sym, ap, ◌∙◌}
use mathlib.Core.Bool.{Bool, true, false}
use mathlib.Core.List.{List, [], ◌∷◌, ◌++◌, append-nil}
use lib.Dec.{eqb}
use lib.ListN.{length, get_or, take, drop, length-append, length-drop, length-take, take-append-drop, get_or-eq_default}
use lib.Seq.{get_or_at, drop_at, get_or-take, get_or-drop, take_all, split_at, drop-append-add}
use borrow.Author.Tests.{le-leb, eq-eqb}
use Rattle.byte_parts.specs.Values.{flag_of, Bytes}
use Rattle.byte_parts.specs.Part.{padded}
use Rattle.node_messages.specs.declared.code_list.CodeList.{CodeList}
use Rattle.node_messages.specs.declared.information.BlockInformation.{BlockInformation}
use Rattle.node_messages.specs.Numbers.{numbers_bytes, numbers_in}
use Rattle.node_messages.specs.CodeList.{areas_of, services_of, ranges_of, codes_listed, code_list_bytes, areas_in, services_in, is_code_list, code_list_in, list_told, read_code_list}
use Rattle.node_messages.specs.Information.{node_count, information_bytes, node_count_in, is_information, information_in, information_told, read_information}
use Rattle.node_messages.specs.Kept.{Halves, list_kept, ListFits, ListWhole, information_kept, InformationFits, InformationWhole}
use Rattle.node_messages.proofs.NumberLaws.{length-bytes, length_in, numbers_back, numbers_say, padded_front}
use Rattle.node_messages.proofs.Writes.{ListSized, ranges-long, codes-long, InformationSized, assigned-long, free-long}
use Rattle.node_messages.proofs.Takes.{list-bytes, information_bytes_lem}

-- parts of numbers and of bytes
pub halves_take : (n : ℕ) (vs : List ℕ) → Halves vs → Halves (take n vs)
halves_take n vs h i =
    elim (dec_lt i n) [
      | yes k ↦ rw (get_or-take n vs i 0 k) (h i)
      | no k ↦ let l : length (take n vs) ≤ i = simp length-take (omega arith) in rw (get_or-eq_default (take n vs) 0 l) (omega arith)
    ]

bytes_drop : (n : ℕ) (s : List ℕ) → Bytes s → Bytes (drop n s)
bytes_drop n s b i = rw (get_or-drop n s i 0) (b (n + i))

-- a flag's byte is 1 where it is set
flag-back : (more : Bool) → eqb (flag_of more) 1 ≡ more
flag-back true = refl
flag-back false = refl

flag_small : (more : Bool) → flag_of more ≤ 1
flag_small true = omega arith
flag_small false = omega arith

flag_says : (x : ℕ) → x ≤ 1 → flag_of (eqb x 1) ≡ x
flag_says zero h = refl
flag_says (suc zero) h = refl
flag_says (suc (suc x)) h = absurd (omega arith)

-- a list of a areas and of services, as bytes
module _ (more : Bool) (a : ℕ) (rs cs : List ℕ) (p : length rs ≡ 2 * a) where
  abbrev bytes : List ℕ
  bytes = flag_of more ∷ a ∷ numbers_bytes rs ++ (length cs ∷ numbers_bytes cs)

  front : length (numbers_bytes rs) ≡ 4 * a
  front = omega (arith, length-bytes rs)

  -- its count of services
  bytes-services : get_or bytes (2 + 4 * a) 0 ≡ length cs
  bytes-services =
      let e : 2 + 4 * a ≡ suc (suc (4 * a)) = omega arith in
      rw e (get_or_at (numbers_bytes rs) (length cs) (numbers_bytes cs) 0 (4 * a) front)

  bytes-long : length bytes ≡ 3 + 4 * a + 2 * length cs
  bytes-long = omega (arith, length-append (numbers_bytes rs) (length cs ∷ numbers_bytes cs), front, length-bytes cs)

  -- it is one
  bytes-list : a + length cs ≤ 16 → is_code_list bytes ≡ true
  unfolding is_code_list
  bytes-list h =
      rw (bytes-services, le-leb (flag_of more) 1 (flag_small more), le-leb (a + length cs) 16 h, eq-eqb (length bytes) (3 + 4 * a + 2 * length cs) bytes-long)

  -- its areas and services are read back
  bytes-ranges : Halves rs → numbers_in (2 * a) (drop 2 bytes) ≡ rs
  bytes-ranges h = rw (sym p) (numbers_back rs (length cs ∷ numbers_bytes cs) h)

  bytes-codes : Halves cs → numbers_in (length cs) (drop (3 + 4 * a) bytes) ≡ cs
  bytes-codes h =
      let e : 3 + 4 * a ≡ suc (suc (4 * a + 1)) = omega arith in
      let q : length (numbers_bytes rs) + 1 ≡ 4 * a + 1 = omega (arith, front) in
      let d : drop (4 * a + 1) (numbers_bytes rs ++ (length cs ∷ numbers_bytes cs)) ≡ numbers_bytes cs =
      rw q at (drop-append-add (numbers_bytes rs) (length cs ∷ numbers_bytes cs) 1) in
      rw (e, d) (rw (append-nil (numbers_bytes cs)) at (numbers_back cs [] h))

  bytes_read : Halves rs → Halves cs → code_list_in bytes ≡ record { more = more; areas = a; ranges = padded 32 rs; services = length cs; codes = padded 16 cs }
  bytes_read h k = rw (bytes-services, bytes-ranges h, bytes-codes k, flag-back more)

module _ {m : CodeList} (z : ListSized m) where
  list_is : code_list_bytes m ≡ bytes m.more (areas_of m) (ranges_of m) (codes_listed m) (ranges-long z)
  unfolding code_list_bytes
  list_is = rw (codes-long z)

  -- whatever the list, what is written of it is a message
  pub written_is : is_code_list (code_list_bytes m) ≡ true
  written_is = rw list_is (bytes-list m.more (areas_of m) (ranges_of m) (codes_listed m) (ranges-long z) (omega (arith, codes-long z)))

-- a list of the type, written and read, is what is kept of it
pub list_back : {m : CodeList} → ListFits m → read_code_list (code_list_bytes m) ≡ list_told (list_kept m)
unfolding read_code_list
list_back {m = m} f =
    let z : ListSized m = record { ranges = f.ranges; codes = f.codes } in
    rw (written_is z)
    (ap list_told (ap code_list_in (list_is z)
    ∙ bytes_read m.more (areas_of m) (ranges_of m) (codes_listed m) (ranges-long z) (halves_take (2 * areas_of m) m.ranges f.ends) (halves_take (services_of m) m.codes f.services)
    ∙ rw (codes-long z)))

-- and that is the list itself where it has at most sixteen entries and unused ones are 0
pub list-whole : {m : CodeList} → ListWhole m → list_kept m ≡ m
list-whole {m = m} w =
    let a : areas_of m ≡ m.areas = omega (arith, w.few) in
    let s : services_of m ≡ m.services = omega (arith, w.few) in
    let r : padded 32 (ranges_of m) ≡ m.ranges = rw a (sym w.ranges) in
    let c : padded 16 (codes_listed m) ≡ m.codes = rw s (sym w.codes) in
    λ i. record { more = m.more; areas = a i; ranges = r i; services = s i; codes = c i }

-- bytes, part by part
list_parts_lem : (s : List ℕ) (a n : ℕ) → length s ≡ 3 + 4 * a + 2 * n →
    get_or s 0 0 ∷ get_or s 1 0 ∷ take (2 * (2 * a)) (drop 2 s) ++ (get_or s (2 + 4 * a) 0 ∷ take (2 * n) (drop (3 + 4 * a) s)) ≡ s
list_parts_lem [] a n h = absurd (omega arith)
list_parts_lem (x ∷ []) a n h = absurd (omega arith)
list_parts_lem (x ∷ y ∷ rest) a n h =
    let four : 2 * (2 * a) ≡ 4 * a = omega arith in
    let at : 2 + 4 * a ≡ suc (suc (4 * a)) = omega arith in
    let past : 3 + 4 * a ≡ suc (suc (suc (4 * a))) = omega arith in
    let all : take (2 * n) (drop (suc (4 * a)) rest) ≡ drop (suc (4 * a)) rest = take_all (2 * n) (drop (suc (4 * a)) rest) (simp length-drop (omega arith)) in
    rw (four, at, past, all) (ap (λ (l : List ℕ). x ∷ y ∷ l) (sym (split_at rest (4 * a) 0 (omega arith))))

module _ (s : List ℕ) (e : is_code_list s ≡ true) where
  abbrev rs : List ℕ
  rs = numbers_in (2 * areas_in s) (drop 2 s)

  abbrev cs : List ℕ
  cs = numbers_in (services_in s) (drop (3 + 4 * areas_in s) s)

  rs_front : take (2 * areas_in s) (padded 32 rs) ≡ rs
  rs_front = padded_front 32 (2 * areas_in s) rs (length_in (2 * areas_in s) (drop 2 s)) (omega (arith, (list-bytes s e).few))

  cs_front : take (services_in s) (padded 16 cs) ≡ cs
  cs_front = padded_front 16 (services_in s) cs (length_in (services_in s) (drop (3 + 4 * areas_in s) s)) (omega (arith, (list-bytes s e).few))

  -- what is read has at most sixteen entries, and unused ones are 0
  pub list-read-whole : ListWhole (code_list_in s)
  list-read-whole = record { few = (list-bytes s e).few; ranges = rw rs_front; codes = rw cs_front }

  -- what a reader takes is what the writer writes of it
  pub list_says : Bytes s → code_list_bytes (code_list_in s) ≡ s
  unfolding code_list_bytes
  list_says b =
      let l = list-bytes s e in
      let a : areas_of (code_list_in s) ≡ areas_in s = omega (arith, l.few) in
      let n : services_of (code_list_in s) ≡ services_in s = omega (arith, l.few) in
      let r : numbers_bytes rs ≡ take (2 * (2 * areas_in s)) (drop 2 s) = numbers_say (2 * areas_in s) (drop 2 s) (bytes_drop 2 s b) (simp length-drop (omega (arith, l.long))) in
      let c : numbers_bytes cs ≡ take (2 * services_in s) (drop (3 + 4 * areas_in s) s) =
      numbers_say (services_in s) (drop (3 + 4 * areas_in s) s) (bytes_drop (3 + 4 * areas_in s) s b) (simp length-drop (omega (arith, l.long))) in
      rw (n, a, rs_front, cs_front, r, c, flag_says (get_or s 0 0) l.flag) (list_parts_lem s (areas_in s) (services_in s) l.long)

-- block information of n nodes, as bytes
module _ (v w : List ℕ) (p : length w ≡ length v) where
  abbrev told : List ℕ
  told = length v ∷ numbers_bytes v ++ numbers_bytes w

  told-long : length told ≡ 1 + 4 * length v
  told-long = omega (arith, length-append (numbers_bytes v) (numbers_bytes w), length-bytes v, length-bytes w)

  -- it is one
  told_is : length v ≤ 32 → is_information told ≡ true
  unfolding is_information
  told_is h = rw (le-leb (length v) 32 h, eq-eqb (length told) (1 + 4 * length v) told-long)

  -- its counts are read back
  told-read : Halves v → Halves w → information_in told ≡ record { count = length v; assigned = padded 32 v; free = padded 32 w }
  told-read h k =
      let e : 1 + 2 * length v ≡ suc (2 * length v) = omega arith in
      let d : drop (2 * length v) (numbers_bytes v ++ numbers_bytes w) ≡ numbers_bytes w = drop_at (numbers_bytes v) (numbers_bytes w) (2 * length v) (length-bytes v) in
      let x : numbers_in (length v) (numbers_bytes w) ≡ w = rw (sym p) (rw (append-nil (numbers_bytes w)) at (numbers_back w [] k)) in
      rw (e, d, numbers_back v (numbers_bytes w) h, x)

module _ {m : BlockInformation} (z : InformationSized m) where
  abbrev assigned_of : List ℕ
  assigned_of = take (node_count m) m.assigned

  abbrev free_of : List ℕ
  free_of = take (node_count m) m.free

  as_long : length free_of ≡ length assigned_of
  as_long = free-long z ∙ sym (assigned-long z)

  information_is : information_bytes m ≡ told assigned_of free_of as_long
  unfolding information_bytes
  information_is = rw (assigned-long z)

  -- whatever the information, what is written of it is a message
  pub information_written : is_information (information_bytes m) ≡ true
  information_written = rw information_is (told_is assigned_of free_of as_long (omega (arith, assigned-long z)))

-- block information of the type, written and read, is what is kept of it
pub information_back : {m : BlockInformation} → InformationFits m → read_information (information_bytes m) ≡ information_told (information_kept m)
unfolding read_information
information_back {m = m} f =
    let z : InformationSized m = record { assigned = f.assigned; free = f.free } in
    rw (information_written z)
    (ap information_told (ap information_in (information_is z)
    ∙ told-read (assigned_of z) (free_of z) (as_long z) (halves_take (node_count m) m.assigned f.counts) (halves_take (node_count m) m.free f.frees)
    ∙ rw (assigned-long z)))

-- and that is the information itself where it has at most 32 nodes and unused entries are 0
pub information_whole : {m : BlockInformation} → InformationWhole m → information_kept m ≡ m
information_whole {m = m} w =
    let n : node_count m ≡ m.count = omega (arith, w.few) in
    let a : padded 32 (take (node_count m) m.assigned) ≡ m.assigned = rw n (sym w.assigned) in
    let f : padded 32 (take (node_count m) m.free) ≡ m.free = rw n (sym w.free) in
    λ i. record { count = n i; assigned = a i; free = f i }

-- bytes, part by part
information_parts : (s : List ℕ) (n : ℕ) → length s ≡ 1 + 4 * n → get_or s 0 0 ∷ take (2 * n) (drop 1 s) ++ take (2 * n) (drop (1 + 2 * n) s) ≡ s
information_parts [] n h = absurd (omega arith)
information_parts (x ∷ rest) n h =
    let past : 1 + 2 * n ≡ suc (2 * n) = omega arith in
    let all : take (2 * n) (drop (2 * n) rest) ≡ drop (2 * n) rest = take_all (2 * n) (drop (2 * n) rest) (simp length-drop (omega arith)) in
    rw (past, all) (ap (λ (l : List ℕ). x ∷ l) (take-append-drop (2 * n) rest))

module _ (s : List ℕ) (e : is_information s ≡ true) where
  abbrev asg : List ℕ
  asg = numbers_in (node_count_in s) (drop 1 s)

  abbrev fs : List ℕ
  fs = numbers_in (node_count_in s) (drop (1 + 2 * node_count_in s) s)

  as_front : take (node_count_in s) (padded 32 asg) ≡ asg
  as_front = padded_front 32 (node_count_in s) asg (length_in (node_count_in s) (drop 1 s)) (information_bytes_lem s e).few

  fs_front : take (node_count_in s) (padded 32 fs) ≡ fs
  fs_front = padded_front 32 (node_count_in s) fs (length_in (node_count_in s) (drop (1 + 2 * node_count_in s) s)) (information_bytes_lem s e).few

  -- what is read has at most 32 nodes, and unused entries are 0
  pub information_read-whole : InformationWhole (information_in s)
  information_read-whole = record { few = (information_bytes_lem s e).few; assigned = rw as_front; free = rw fs_front }

  -- what a reader takes is what the writer writes of it
  pub information_says : Bytes s → information_bytes (information_in s) ≡ s
  unfolding information_bytes
  information_says b =
      let l = information_bytes_lem s e in
      let n : node_count (information_in s) ≡ node_count_in s = omega (arith, l.few) in
      let a : numbers_bytes asg ≡ take (2 * node_count_in s) (drop 1 s) = numbers_say (node_count_in s) (drop 1 s) (bytes_drop 1 s b) (simp length-drop (omega (arith, l.long))) in
      let f : numbers_bytes fs ≡ take (2 * node_count_in s) (drop (1 + 2 * node_count_in s) s) =
      numbers_say (node_count_in s) (drop (1 + 2 * node_count_in s) s) (bytes_drop (1 + 2 * node_count_in s) s b) (simp length-drop (omega (arith, l.long))) in
      rw (n, as_front, fs_front, a, f) (information_parts s (node_count_in s) l.long)
