-- The stores that write a message, put together.
use Rattle.std.proofs.Common.{Result, Ok, Err}
use Prim.Native.Nat.{ℕ, ◌+◌, ◌-◌, ◌*◌, ◌≤◌, ◌<◌}
use native.Mathlib.Omega.{arith}
use native.Mathlib.Nat.{zero-add}
use mathlib.Core.Path.{◌≡◌, sym, ◌∙◌}
use mathlib.Core.List.{List, [], ◌∷◌, ◌++◌, append_assoc}
use lib.ListN.{length, set, take, length-append, length-take}
use borrow.Author.Tests.{lt-ltb, le-ltb}
use Rattle.byte_parts.specs.Values.{flag_of}
use Rattle.answers.specs.declared.refusal.Refusal.TheVariants.{ShortOutput}
use Rattle.byte_parts.specs.Part.{put}
use Rattle.byte_parts.proofs.Part.{length-put}
use Rattle.byte_parts.proofs.Put.{put_one, put_two, put_snoc, put-append}
use Rattle.node_messages.specs.declared.code_list.CodeList.{CodeList}
use Rattle.node_messages.specs.declared.information.BlockInformation.{BlockInformation}
use Rattle.node_messages.specs.Numbers.{numbers_bytes}
use Rattle.node_messages.specs.Message.{message_put, message_after}
use Rattle.node_messages.specs.CodeList.{areas_of, services_of, ranges_of, codes_listed, code_list_bytes}
use Rattle.node_messages.specs.Information.{node_count, information_bytes}
use Rattle.node_messages.proofs.NumberLaws.{length-bytes}
use Rattle.answers.specs.declared.refusal.Refusal.{Refusal}

-- what a writer answers, and the output after it
abbrev pub Writes : List ℕ → List ℕ → Result ℕ Refusal → List ℕ → Type 0
Writes message out said after = (said ≡ message_put message (length out)) × (after ≡ message_after message out)

module _ (message out : List ℕ) {size : ℕ} (e : length message ≡ size) where
  -- the output is too short
  pub short : length out < size → Writes message out (Err ShortOutput) out
  unfolding message_put message_after
  short h = (rw (e, lt-ltb (length out) size h), rw (e, lt-ltb (length out) size h))

  -- it is not
  pub whole : {after : List ℕ} → size ≤ length out → after ≡ put out 0 (length message) message → Writes message out (Ok size) after
  unfolding message_put message_after
  whole h a = (rw (e, le-ltb (length out) size h), rw (e, le-ltb (length out) size h) (a ∙ rw e))

-- one byte, numbers, one byte, numbers
bytes-put : (out t vs ws : List ℕ) (s : ℕ) →
    let n = length (t ++ numbers_bytes vs) in
    put (set (put (put out 0 (length t) t) (length t) (length (numbers_bytes vs)) (numbers_bytes vs)) n s) (n + 1) (length (numbers_bytes ws)) (numbers_bytes ws)
    ≡ put out 0 (length (t ++ numbers_bytes vs ++ (s ∷ numbers_bytes ws))) (t ++ numbers_bytes vs ++ (s ∷ numbers_bytes ws))
bytes-put out t vs ws s =
    let u = t ++ numbers_bytes vs in
    let w = u ++ (s ∷ []) in
    let p : put (put out 0 (length t) t) (length t) (length (numbers_bytes vs)) (numbers_bytes vs) ≡ put out 0 (length u) u =
    rw (zero-add (length t)) at (put-append out 0 t (numbers_bytes vs)) in
    let q : set (put out 0 (length u) u) (length u) s ≡ put out 0 (length w) w = rw (zero-add (length u)) at (put_snoc out 0 u s) in
    let k : length u + 1 ≡ length w = omega (arith, length-append u (s ∷ [])) in
    let l : w ++ numbers_bytes ws ≡ u ++ (s ∷ numbers_bytes ws) = append_assoc u (s ∷ []) (numbers_bytes ws) in
    let r : put (put out 0 (length w) w) (length w) (length (numbers_bytes ws)) (numbers_bytes ws) ≡ put out 0 (length (w ++ numbers_bytes ws)) (w ++ numbers_bytes ws) =
    rw (zero-add (length w)) at (put-append out 0 w (numbers_bytes ws)) in
    rw (p, q, k) (r ∙ rw l)

-- the arrays of a list have their lengths
pub record ListSized (m : CodeList) : Type 0 where
  pub ranges : length m.ranges ≡ 32
  pub codes : length m.codes ≡ 16

module _ {m : CodeList} (z : ListSized m) where
  pub ranges-long : length (ranges_of m) ≡ 2 * areas_of m
  ranges-long = simp length-take (omega (arith, z.ranges))

  pub codes-long : length (codes_listed m) ≡ services_of m
  codes-long = simp length-take (omega (arith, z.codes))

  -- how long the message is
  pub list-long : length (code_list_bytes m) ≡ 3 + 4 * areas_of m + 2 * services_of m
  unfolding code_list_bytes
  list-long =
      omega (arith, length-append (flag_of m.more ∷ areas_of m ∷ numbers_bytes (ranges_of m)) (services_of m ∷ numbers_bytes (codes_listed m)), length-bytes (ranges_of m), length-bytes (codes_listed m), ranges-long, codes-long)

  -- its parts, one after the other, as they are lent
  pub list_put : (out : List ℕ) {f a s : ℕ} {second third : List ℕ} → f ≡ flag_of m.more → a ≡ areas_of m → s ≡ services_of m →
      second ≡ put (set (set out 0 f) 1 a) 2 (2 * length (take (2 * a - 0) m.ranges)) (numbers_bytes (take (2 * a - 0) m.ranges)) →
      third ≡ put (set second (2 + 4 * a) s) (2 + 4 * a + 1) (2 * length (take (s - 0) m.codes)) (numbers_bytes (take (s - 0) m.codes)) →
      third ≡ put out 0 (length (code_list_bytes m)) (code_list_bytes m)
  unfolding code_list_bytes
  list_put out {f = f} {a = a} {s = s} ef ea es e2 e3 =
      let t = flag_of m.more ∷ areas_of m ∷ [] in
      let two : set (set out 0 (flag_of m.more)) 1 (areas_of m) ≡ put out 0 2 t = put_two out 0 (flag_of m.more) (areas_of m) in
      let n : 2 + 4 * areas_of m ≡ length (t ++ numbers_bytes (ranges_of m)) = omega (arith, length-append t (numbers_bytes (ranges_of m)), length-bytes (ranges_of m), ranges-long) in
      let x : 2 * length (ranges_of m) ≡ length (numbers_bytes (ranges_of m)) = sym (length-bytes (ranges_of m)) in
      let y : 2 * length (codes_listed m) ≡ length (numbers_bytes (codes_listed m)) = sym (length-bytes (codes_listed m)) in
      let v : 2 * areas_of m - 0 ≡ 2 * areas_of m = omega arith in
      let w : services_of m - 0 ≡ services_of m = omega arith in
      e3 ∙ rw (e2, ef, ea, es, v, w, two, x, y, n) (bytes-put out t (ranges_of m) (codes_listed m) (services_of m))

-- the arrays of block information have their lengths
pub record InformationSized (m : BlockInformation) : Type 0 where
  pub assigned : length m.assigned ≡ 32
  pub free : length m.free ≡ 32

module _ {m : BlockInformation} (z : InformationSized m) where
  pub assigned-long : length (take (node_count m) m.assigned) ≡ node_count m
  assigned-long = simp length-take (omega (arith, z.assigned))

  pub free-long : length (take (node_count m) m.free) ≡ node_count m
  free-long = simp length-take (omega (arith, z.free))

  -- how long the message is
  pub information_long : length (information_bytes m) ≡ 1 + 4 * node_count m
  unfolding information_bytes
  information_long =
      let v = take (node_count m) m.assigned in
      let w = take (node_count m) m.free in
      omega (arith, length-append (node_count m ∷ numbers_bytes v) (numbers_bytes w), length-bytes v, length-bytes w, assigned-long, free-long)

  -- its parts, one after the other, as they are lent
  pub information_put : (out : List ℕ) {n : ℕ} {first second : List ℕ} → n ≡ node_count m →
      first ≡ put (set out 0 n) 1 (2 * length (take (n - 0) m.assigned)) (numbers_bytes (take (n - 0) m.assigned)) →
      second ≡ put first (1 + 2 * n) (2 * length (take (n - 0) m.free)) (numbers_bytes (take (n - 0) m.free)) →
      second ≡ put out 0 (length (information_bytes m)) (information_bytes m)
  unfolding information_bytes
  information_put out {n = n} en e1 e2 =
      let v = take (node_count m) m.assigned in
      let w = take (node_count m) m.free in
      let t = node_count m ∷ [] in
      let z : node_count m - 0 ≡ node_count m = omega arith in
      let one : set out 0 (node_count m) ≡ put out 0 1 t = put_one out 0 (node_count m) in
      let u = t ++ numbers_bytes v in
      let x : 2 * length v ≡ length (numbers_bytes v) = sym (length-bytes v) in
      let y : 2 * length w ≡ length (numbers_bytes w) = sym (length-bytes w) in
      let p : put (put out 0 1 t) 1 (length (numbers_bytes v)) (numbers_bytes v) ≡ put out 0 (length u) u = put-append out 0 t (numbers_bytes v) in
      let k : 1 + 2 * node_count m ≡ length u = omega (arith, length-append t (numbers_bytes v), length-bytes v, assigned-long) in
      let r : put (put out 0 (length u) u) (length u) (length (numbers_bytes w)) (numbers_bytes w) ≡ put out 0 (length (u ++ numbers_bytes w)) (u ++ numbers_bytes w) =
      rw (zero-add (length u)) at (put-append out 0 u (numbers_bytes w)) in
      e2 ∙ rw (e1, en, z, one, x, y, p, k) r

-- a put leaves the length
pub put-long : (out : List ℕ) (at n : ℕ) (t : List ℕ) {after : List ℕ} → after ≡ put out at n t → length after ≡ length out
put-long out at n t e = rw e (length-put out at n t)
