-- 32 hex digits are a hex field, and spell sixteen bytes.
use mathlib.Core.Path.{◌≡◌, ◌∙◌}
use mathlib.Core.Bool.{true, and-eq-true_iff}
use mathlib.Core.List.{List, append-nil}
use Prim.Native.Nat.{ℕ, ◌/◌}
use native.Mathlib.Omega.{arith}
use lib.Dec.{eqb}
use lib.ListN.{length, drop_of_length-le}
use lib.Seq.{take_all}
use borrow.Author.Tests.{eqb-true}
use Rattle.byte_parts.specs.Part.{put}
use Rattle.byte_parts.proofs.Part.{put-split}
use Rattle.text_numbers.specs.Hex.{hex_field, unhex}
use Rattle.text_numbers.proofs.HexLaws.{length-unhex}
use Rattle.line_image.specs.Line.{hex32}

-- what was tested
pub record Digits (s : List ℕ) : Type 0 where
  pub long : length s ≡ 32
  pub field : hex_field s ≡ true

pub digits : (s : List ℕ) → hex32 s ≡ true → Digits s
unfolding hex32
digits s h =
    let k = (and-eq-true_iff (eqb (length s) 32) (hex_field s)).0 h in
    record { long = eqb-true (length s) 32 k.0; field = k.1 }

-- put over sixteen bytes they are all there is
pub whole : (z s : List ℕ) → length z ≡ 16 → hex32 s ≡ true → put z 0 (length s / 2) (unhex s) ≡ unhex s
whole z s e h =
    let d = digits s h in
    let n : length s / 2 ≡ 16 = omega arith in
    let k : length (unhex s) ≡ 16 = length-unhex s ∙ n in
    rw (n, put-split z 0 16 (unhex s) (omega arith) (omega arith), take_all 16 (unhex s) (omega arith), drop_of_length-le z {i = 16} (omega arith))
    (append-nil (unhex s))
