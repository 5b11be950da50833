-- Fields that are written one after the other. Assumes nothing.
use mathlib.Core.Path.{◌≡◌, refl, ◌∙◌}
use mathlib.Core.List.{List, [], ◌∷◌, ◌++◌, append-nil}
use Prim.Native.Nat.{ℕ, ◌+◌, ◌≤◌}
use native.Mathlib.Omega.{arith}
use lib.ListN.{length, replicate, length-replicate, drop_of_length-le}
use lib.Seq.{take_all}
use Rattle.byte_parts.specs.Part.{put}
use Rattle.byte_parts.proofs.Part.{length-put, put-split}
use Rattle.handset_bytes.specs.Field.{Field, fields_put}
use Rattle.handset_bytes.specs.Card.{zero_bytes}

-- more of them
pub put-more : (fs gs : List Field) (s : List ℕ) → fields_put (fs ++ gs) s ≡ fields_put gs (fields_put fs s)
unfolding fields_put
put-more [] gs s = refl
put-more (f ∷ fs) gs s = put-more fs gs (put s f.place (length f.bytes) f.bytes)

-- they keep the length
pub fields_long : (fs : List Field) (s : List ℕ) → length (fields_put fs s) ≡ length s
unfolding fields_put
fields_long [] s = refl
fields_long (f ∷ fs) s =
    fields_long fs (put s f.place (length f.bytes) f.bytes) ∙ length-put s f.place (length f.bytes) f.bytes

-- zeros over all bytes
pub all_zero_lem : (s : List ℕ) → put s 0 (length s) (replicate (length s) 0) ≡ zero_bytes (length s)
unfolding zero_bytes
all_zero_lem s =
    let z : List ℕ = replicate (length s) 0 in
    let long : length z ≡ length s = length-replicate (length s) 0 in
    let past : length s ≤ 0 + length s = omega arith in
    put-split s 0 (length s) z (omega arith) (omega arith) ∙ rw (take_all (length s) z (omega arith), drop_of_length-le s past) (append-nil z)
