-- Codes and bytes of a question, at the front of a buffer. Assumes nothing.
use Prim.Native.Nat.{ℕ, ◌+◌, ◌-◌, ◌≤◌, min}
use native.Mathlib.Omega.{arith}
use native.Mathlib.Nat.{sub-zero}
use mathlib.Core.Path.{◌≡◌, refl, sym, ap, ◌∙◌}
use mathlib.Core.List.{List, []}
use lib.ListN.{length, take}
use lib.Seq.{take-length}
use Rattle.byte_parts.specs.Part.{part, put}
use Rattle.byte_parts.proofs.Part.{part-put}
use Rattle.text_fields.proofs.FieldLaws.{field_long}
use Rattle.text_numbers.specs.Hex.{unhex}
use Rattle.text_numbers.specs.Codes.{codes_of}
use Rattle.text_numbers.proofs.HexLaws.{length-unhex}
use Rattle.text_numbers.proofs.CodeLaws.{length-codes}
use Rattle.inspect_fields.specs.Fields.{field_one}

-- What was put to the front of a buffer stands there.
pub front_put : (old t : List ℕ) {r : ℕ} {new : List ℕ} → length t ≤ length old → r ≡ length t → new ≡ put old 0 (length t) t → take (r - 0) new ≡ t
unfolding part
front_put old t {r} h e p = rw (sub-zero r, e, p) (part-put old 0 (length t) t (omega arith) (omega arith) ∙ take-length t)

module _ (line : List ℕ) (short : length line ≤ 32768) where
  -- The codes of a line have room.
  pub codes-put : (old : List ℕ) {r : ℕ} {new : List ℕ} → let t = codes_of (field_one line) in length old ≡ 8192 → r ≡ min (length old) (length t)
      → new ≡ put old 0 r t → ((r ≡ length t) × (r ≤ 8192)) × (new ≡ put old 0 (length t) t)
  codes-put old {r} h e p =
      let t = codes_of (field_one line) in
      let n = length-codes (field_one line) in
      let l = field_long 9 line 1 in
      let k : r ≡ length t = omega arith in
      ((k, omega arith), p ∙ ap (λ (m : ℕ). put old 0 m t) k)

  -- The bytes of a line have room.
  pub bytes-room : length (unhex (field_one line)) ≤ 16384
  bytes-room = omega (arith, length-unhex (field_one line), field_long 9 line 1)
