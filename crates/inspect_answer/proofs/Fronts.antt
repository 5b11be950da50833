-- What stands at the front of a buffer that was lent. Assumes nothing.
use Rattle.std.specs.Prelude.{Err, Ok}
use Rattle.std.proofs.Common.{Result}
use Prim.Native.Nat.{ℕ, ◌-◌, ◌≤◌, min}
use native.Mathlib.Omega.{arith}
use native.Mathlib.Decide.{dec_lt}
use mathlib.Core.Path.{◌≡◌, refl, sym, ap}
use mathlib.Core.List.{List}
use lib.ListN.{length, take, drop, replicate, length-take, length-replicate}
use lib.Seq.{take-length, take_all}
use borrow.Author.Tests.{lt-ltb, le-ltb}
use Rattle.byte_parts.specs.Part.{part}
use Rattle.text_numbers.specs.Hex.{hex_text}
use Rattle.node_messages.specs.Message.{message_put, message_after}
use Rattle.node_messages.proofs.Beyond.{stands}
use Rattle.card_build.specs.declared.card.Card.{Card}
use Rattle.card_build.specs.Card.{nodes_of}
use Rattle.request_check.specs.Row.{row_of}
use Rattle.request_block.specs.Block.{block_place, block_judged, block_by, stored_block}
use Rattle.card_lists.specs.Packet.{put_answered, out_answered}
use Rattle.text_print.specs.Print.{closed}
use Rattle.inspect_answer.specs.Fields.{put_fields, size_of}
use Rattle.answers.specs.declared.refusal.Refusal.{Refusal}

-- What a writer says has room in its output, and what it wrote there is printed as these fields.
abbrev pub Tells : Result ℕ Refusal → List ℕ → ℕ → List ℕ → Type 0
Tells put after room fields = (size_of put ≤ room) × (put_fields (take (size_of put) after) put ≡ fields)

put-shown : (message out : List ℕ) → let put = message_put message (length out) in Tells put (message_after message out) (length out) (put_fields message put)
unfolding message_put
put-shown message out =
    elim (dec_lt (length out) (length message)) [
      | yes h ↦ rw (lt-ltb (length out) (length message) h) (omega arith, refl)
      | no h ↦
          let g : length message ≤ length out = omega arith in
          rw (le-ltb (length out) (length message) g) (g, ap (λ (t : List ℕ). closed 10 (hex_text t)) (stands message out g))
    ]

answer-shown
    : (x : Result Unit Refusal) (message out : List ℕ) → let put = put_answered x message (length out) in
    Tells put (out_answered x message out) (length out) (put_fields message put)
answer-shown (Ok tt) message out = put-shown message out
answer-shown (Err r) message out = (omega arith, refl)

pub shown
    : (x : Result Unit Refusal) (message out : List ℕ) {put : Result ℕ Refusal} {after : List ℕ} → put ≡ put_answered x message (length out) → after ≡ out_answered x message out
    → Tells put after (length out) (put_fields message (put_answered x message (length out)))
shown x message out p q = rw (p, q) (answer-shown x message out)

-- The first bytes of an arena, as many as there are.
pub first_lent : (n : ℕ) (arena : List ℕ) → take (min n (length arena)) arena ≡ take n arena
first_lent n arena =
    elim (dec_lt n (length arena)) [
      | yes h ↦ let k : min n (length arena) ≡ n = omega arith in rw k refl
      | no h ↦
          let k : min n (length arena) ≡ length arena = omega arith in
          let g : length arena ≤ n = omega arith in
          rw (k, take-length arena) (sym (take_all n arena g))
    ]

-- A stored block has sixteen bytes at most.
block-long : (c : Card) (a : List ℕ) (code number : ℕ) (x : Result Unit Refusal) → length (block_by c a code number x) ≤ 16
unfolding part
block-long c a code number (Ok tt) = omega (arith, length-take 16 (drop (block_place (row_of (nodes_of c) code) number) a))
block-long c a code number (Err r) = omega arith

pub stored-long : (c : Card) (a : List ℕ) (code number : ℕ) → length (stored_block c a code number) ≤ 16
unfolding stored_block
stored-long c a code number = block-long c a code number (block_judged c (length a) code number)

-- The part of a buffer of zeros that is lent is as long as it is said to be.
pub lent_long : (n most : ℕ) → n ≤ most → length {A = ℕ} (take (n - 0) (replicate most 0)) ≡ n
lent_long n most h = simp (length-take, length-replicate) (omega arith)
