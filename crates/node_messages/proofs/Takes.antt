-- What a reader takes: the facts that its test gives, and the value that it reads.
use Prim.Native.Nat.{ℕ, ◌+◌, ◌*◌, ◌≤◌, ◌<◌}
use native.Mathlib.Omega.{arith}
use mathlib.Core.Path.{◌≡◌}
use mathlib.Core.Bool.{Bool, true, false, and-eq-true_iff}
use mathlib.Core.List.{List}
use lib.Dec.{leb, eqb}
use lib.ListN.{length, get_or, drop, replicate}
use borrow.Author.Tests.{leb-true, eqb-true, le-leb, lt-leb}
use Rattle.answers.specs.declared.refusal.Refusal.TheVariants.{NotAMessage}
use Rattle.byte_parts.specs.Part.{put}
use Rattle.node_messages.specs.Numbers.{numbers_in}
use Rattle.node_messages.specs.CodeList.{areas_in, services_in, is_counted, is_code_list, list_told, list_refused, read_code_list}
use Rattle.node_messages.specs.Information.{node_count_in, is_information, information_told, information_refused, read_information}
use Rattle.node_messages.proofs.NumberLaws.{length_in, put-padded}

-- the bytes of a code list
pub record ListBytes (s : List ℕ) : Type 0 where
  pub flag : get_or s 0 0 ≤ 1
  pub few : areas_in s + services_in s ≤ 16
  pub long : length s ≡ 3 + 4 * areas_in s + 2 * services_in s

pub list-bytes : (s : List ℕ) → is_code_list s ≡ true → ListBytes s
unfolding is_code_list
list-bytes s e =
    let a = (and-eq-true_iff (leb (get_or s 0 0) 1) _).0 e in
    let b = (and-eq-true_iff (leb (areas_in s + services_in s) 16) _).0 a.1 in
    record { flag = leb-true (get_or s 0 0) 1 a.0; few = leb-true (areas_in s + services_in s) 16 b.0; long = eqb-true (length s) _ b.1 }

-- its parts lie in them
pub list-fits : (s : List ℕ) {a b : ℕ} → is_code_list s ≡ true → a ≡ get_or s 1 0 → b ≡ get_or s (2 + 4 * a) 0 →
    (2 + 2 * (2 * a) ≤ length s) × (2 * a ≤ 32) × (3 + 4 * a + 2 * b ≤ length s) × (b ≤ 16)
list-fits s {b = b} e ea eb =
    let l = list-bytes s e in
    let k : b ≡ services_in s = rw ea at eb in
    (omega (arith, l.few, l.long), omega (arith, l.few), omega (arith, l.few, l.long), omega (arith, l.few))

-- the test, one after the other: the flag, the count of entries, the length
pub flag_above : (s : List ℕ) {f : ℕ} → f ≡ get_or s 0 0 → 1 < f → false ≡ is_code_list s
unfolding is_code_list
flag_above s e h = rw (lt-leb (get_or s 0 0) 1 (omega arith))

pub flag-within : (s : List ℕ) {f : ℕ} {r : Bool} → f ≡ get_or s 0 0 → f ≤ 1 → r ≡ is_counted s → r ≡ is_code_list s
unfolding is_code_list is_counted
flag-within s e h c = rw (le-leb (get_or s 0 0) 1 (omega arith)) c

module _ (s : List ℕ) {a b : ℕ} (ea : a ≡ get_or s 1 0) (eb : b ≡ get_or s (2 + 4 * a) 0) where
  pub too_many : 16 < a + b → false ≡ is_counted s
  unfolding is_counted
  too_many k =
      let eb' : b ≡ services_in s = rw ea at eb in
      rw (lt-leb (areas_in s + services_in s) 16 (omega arith))

  pub by_length : a + b ≤ 16 → eqb (length s) (3 + 4 * a + 2 * b) ≡ is_counted s
  unfolding is_counted
  by_length k =
      let eb' : b ≡ services_in s = rw ea at eb in
      rw (eb', ea, le-leb (areas_in s + services_in s) 16 (omega arith))

-- no list, and 47
pub list-none : (s : List ℕ) → is_code_list s ≡ false → list_refused NotAMessage ≡ read_code_list s
unfolding read_code_list
list-none s e = rw e

-- what is read of them
pub list_read : (s : List ℕ) {first areas services : ℕ} {ranges codes : List ℕ} → is_code_list s ≡ true → first ≡ get_or s 0 0 → areas ≡ get_or s 1 0 →
    services ≡ get_or s (2 + 4 * areas) 0 → ranges ≡ put (replicate 32 0) 0 (2 * areas) (numbers_in (2 * areas) (drop 2 s)) →
    codes ≡ put (replicate 16 0) 0 services (numbers_in services (drop (3 + 4 * areas) s)) →
    list_told (record { more = eqb first 1; areas = areas; ranges = ranges; services = services; codes = codes }) ≡ read_code_list s
unfolding read_code_list
list_read s e f a b r c =
    let l = list-bytes s e in
    let x : 2 * areas_in s ≤ 32 = omega (arith, l.few) in
    let y : services_in s ≤ 16 = omega (arith, l.few) in
    rw (e, c, r, b, a, f, put-padded 32 (2 * areas_in s) (numbers_in (2 * areas_in s) (drop 2 s)) (length_in (2 * areas_in s) (drop 2 s)) x, put-padded 16 (services_in s) (numbers_in (services_in s) (drop (3 + 4 * areas_in s) s)) (length_in (services_in s) (drop (3 + 4 * areas_in s) s)) y)

-- the bytes of block information
pub record InformationBytes (s : List ℕ) : Type 0 where
  pub few : node_count_in s ≤ 32
  pub long : length s ≡ 1 + 4 * node_count_in s

pub information_bytes_lem : (s : List ℕ) → is_information s ≡ true → InformationBytes s
unfolding is_information
information_bytes_lem s e =
    let a = (and-eq-true_iff (leb (node_count_in s) 32) _).0 e in
    record { few = leb-true (node_count_in s) 32 a.0; long = eqb-true (length s) _ a.1 }

-- its parts lie in them
pub information_fits : (s : List ℕ) {n : ℕ} → is_information s ≡ true → n ≡ get_or s 0 0 → (1 + 2 * n + 2 * n ≤ length s) × (n ≤ 32)
information_fits s e en = let l = information_bytes_lem s e in (omega (arith, l.few, l.long), omega (arith, l.few))

-- the test: the count, the length
pub nodes_above : (s : List ℕ) {n : ℕ} → n ≡ get_or s 0 0 → 32 < n → false ≡ is_information s
unfolding is_information
nodes_above s e h = rw (lt-leb (get_or s 0 0) 32 (omega arith))

pub nodes-within : (s : List ℕ) {n : ℕ} → n ≡ get_or s 0 0 → n ≤ 32 → eqb (length s) (1 + 4 * n) ≡ is_information s
unfolding is_information
nodes-within s e h = rw (e, le-leb (get_or s 0 0) 32 (omega arith))

-- no information, and 47
pub information_none : (s : List ℕ) → is_information s ≡ false → information_refused NotAMessage ≡ read_information s
unfolding read_information
information_none s e = rw e

-- what is read of them
pub information_read_lem : (s : List ℕ) {n : ℕ} {assigned free : List ℕ} → is_information s ≡ true → n ≡ get_or s 0 0 →
    assigned ≡ put (replicate 32 0) 0 n (numbers_in n (drop 1 s)) → free ≡ put (replicate 32 0) 0 n (numbers_in n (drop (1 + 2 * n) s)) →
    information_told (record { count = n; assigned = assigned; free = free }) ≡ read_information s
unfolding read_information
information_read_lem s e n a f =
    let l = information_bytes_lem s e in
    rw (e, f, a, n, put-padded 32 (node_count_in s) (numbers_in (node_count_in s) (drop 1 s)) (length_in (node_count_in s) (drop 1 s)) l.few, put-padded 32 (node_count_in s) (numbers_in (node_count_in s) (drop (1 + 2 * node_count_in s) s)) (length_in (node_count_in s) (drop (1 + 2 * node_count_in s) s)) l.few)
