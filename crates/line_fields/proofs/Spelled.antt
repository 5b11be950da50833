-- The bytes of a field are those that it spells. Assumes nothing.
use Prim.Native.Nat.{ℕ, ◌+◌, ◌/◌}
use mathlib.Core.Path.{◌≡◌}
use mathlib.Core.List.{List}
use lib.ListN.{length}
use Rattle.byte_parts.specs.Part.{put}
use Rattle.text_numbers.specs.Hex.{unhex}
use Rattle.text_numbers.proofs.HexLaws.{length-unhex}

-- Where f is the field.
pub spelled
    : (f s old : List ℕ) (at : ℕ) {r : ℕ} {new : List ℕ} → f ≡ s → r ≡ at + length f / 2 → new ≡ put old at (length f / 2) (unhex f)
    → (r ≡ at + length (unhex s)) × (new ≡ put old at (length (unhex s)) (unhex s))
spelled f s old at e p q = rw (← e, length-unhex f) (p, q)
