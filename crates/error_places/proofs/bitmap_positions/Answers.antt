-- The places are written in front of zeros, and counted.
use native.Mathlib.Omega.{arith}
use Rattle.error_places.proofs.Bitmap.{bitmap}
use Rattle.error_places.proofs.bitmap_positions.Goals as goal

pub returns : goal.returns
returns c = bitmap _ _ _ (omega arith) c.put_places.ensures c.count_places.ensures
