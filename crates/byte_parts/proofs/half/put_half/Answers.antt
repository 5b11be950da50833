-- Two stores are a put of two bytes.
use native.Mathlib.Omega.{arith}
use native.Mathlib.Numerals.{add-one}
use mathlib.Core.Path.{refl}
use lib.ListN.{length-set}
use Rattle.byte_parts.specs.Part.{put}
use Rattle.byte_parts.specs.Half.{half_bytes}
use Rattle.byte_parts.proofs.half.put_half.Goals as goal

pub returns : goal.returns
unfolding put half_bytes
returns c = rw (add-one c.args.at) refl

pub bounds-s-at-2 : goal.bounds-s-at-2
bounds-s-at-2 c = simp length-set (omega arith)
