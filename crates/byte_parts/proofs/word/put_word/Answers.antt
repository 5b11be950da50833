-- `word::put_word` meets its contract: four stores are a put of four bytes. Assumes nothing.
use native.Mathlib.Omega.{arith}
use native.Mathlib.Numerals.{add-one, add-two, add-three}
use mathlib.Core.Path.{refl}
use lib.ListN.{length-set}
use Rattle.byte_parts.specs.Part.{put}
use Rattle.byte_parts.specs.Word.{word_bytes}
use Rattle.byte_parts.proofs.word.put_word.Goals as goal

pub bounds-s-at-2 : goal.bounds-s-at-2
bounds-s-at-2 c = simp length-set (omega arith)

pub bounds-s-at-3 : goal.bounds-s-at-3
bounds-s-at-3 c = simp length-set (omega arith)

pub bounds-s-at-4 : goal.bounds-s-at-4
bounds-s-at-4 c = simp length-set (omega arith)

pub returns : goal.returns
unfolding put word_bytes
returns c = rw (add-one c.args.at, add-two c.args.at, add-three c.args.at) refl
