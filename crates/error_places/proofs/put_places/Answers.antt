-- Both runs of places have room: at most eight places, then at most seven.
use Prim.Native.Nat.{◌%◌}
use native.Mathlib.Omega.{arith}
use lib.Count.{ones-le}
use Rattle.error_places.proofs.Bitmap.{both_runs}
use Rattle.error_places.proofs.put_places.Goals as goal

pub put_second-requires : goal.put_second-requires
put_second-requires c =
    let v = c.args.value in
    omega (arith, ones-le 8 v (omega arith), ones-le 7 (v % 128) (omega arith), c.places_from.auto.places)

pub returns : goal.returns
returns c =
    let a = c.args in
    both_runs a.places.now a.value _ _ (omega arith) c.places_from.ensures c.put_second.ensures
