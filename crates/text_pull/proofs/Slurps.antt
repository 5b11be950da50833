-- A whole text in a lent buffer, read by read. Assumes nothing.
use Prim.Native.Nat.{ℕ, ◌-◌, ◌≤◌, ◌<◌}
use native.Mathlib.Omega.{arith}
use native.Mathlib.Decide.{ℕ_discrete, dec_lt}
use mathlib.Core.Path.{◌≡◌, refl}
use mathlib.Core.Bool.{true, false, cond}
use lib.Dec.{ltb}
use lib.IntN.{ℤ}
use Rattle.std.specs.Prelude.{Result}
use Rattle.text_pull.specs.declared.Stage.TheVariants.{Reading}
use borrow.Author.Tests.{eq-eqb, ne_eqb, lt-ltb, ltb-true}
use Rattle.text_pull.specs.declared.Flow.{Flow}
use Rattle.text_pull.specs.Pull.{flow_start, is_read, is_reading, more_of, More, lacks_of, settled_of, Slurped}
use Rattle.text_pull.proofs.Stages.{never, apart, both, read_none, stage-read, moved_room}

-- bytes held of a text
pub record Slurping (room : ℕ) (f : Flow) : Type 0 where
  pub filled : f.filled ≤ room
  pub stage : is_read f.stage ≡ true
  pub within : (f.stage ≡ Reading → ⊥) → f.filled < room
  pub read : f.read ≡ f.filled
  pub whole : f.whole ≡ false
  pub made : f.made ≡ 0
  pub written : f.written ≡ 0

pub slurp_start : (room : ℕ) → Slurping room flow_start
slurp_start room = record {
  filled = omega arith;
  stage = refl;
  within = λ z. absurd (z refl);
  read = refl;
  whole = refl;
  made = refl;
  written = refl;
}

more_slurping
    : (room : ℕ) (f : Flow) (got : Result ℕ ℤ) → Slurping room f → 1 ≤ f.turns → f.filled < room
    → Slurping room (more_of f got (room - f.filled)) × ((more_of f got (room - f.filled)).turns < f.turns)
unfolding more_of
more_slurping room f got x h l =
    let r = moved_room got (room - f.filled) in (
      record {
        filled = omega (arith, x.filled);
        stage = stage-read got;
        within = λ z. omega (arith, read_none got (room - f.filled) z);
        read = omega (arith, x.read);
        whole = x.whole;
        made = x.made;
        written = x.written;
      },
      omega arith,
    )

pub lacking : (f : Flow) (room : ℕ) → lacks_of f room ≡ true → (1 ≤ f.turns) × (f.filled < room)
unfolding lacks_of
lacking f room e =
    let p = both (ltb 0 f.turns) (cond (is_reading f.stage) (ltb f.filled room) false) e in
    (ltb-true 0 f.turns p.0, ltb-true f.filled room (both (is_reading f.stage) (ltb f.filled room) p.1).1)

pub slurp_more : (room : ℕ) (f g : Flow) → Slurping room f → lacks_of f room ≡ true → More (room - f.filled) f g → Slurping room g × (g.turns < f.turns)
slurp_more room f g x e m = let l = lacking f room e in rw m.flow (more_slurping room f m.got x l.0 l.1)

-- Where the reading stops though bytes may come and the buffer is not full, the reads are used up.
reads-used : (f : Flow) (room : ℕ) → lacks_of f room ≡ false → f.stage ≡ Reading → f.filled < room → f.turns ≡ 0
unfolding lacks_of
reads-used f room e z h =
    elim (dec_lt 0 f.turns) [
      | yes i ↦ never refl (rw (lt-ltb 0 f.turns i, z, lt-ltb f.filled room h) at e)
      | no i ↦ omega arith
    ]

settled : (room : ℕ) (f : Flow) → Slurping room f → lacks_of f room ≡ false → Slurped room (settled_of f room)
unfolding settled_of
settled room f x e =
    elim (ℕ_discrete f.filled room) [
      | yes i ↦
          rw (eq-eqb f.filled room i) record {
            within = λ z. never z refl;
            full = λ z. (refl, i);
            turns = λ z. apart z (λ n. omega arith);
            read = x.read;
            whole = x.whole;
            made = x.made;
            written = x.written;
          }
      | no i ↦
          let l : f.filled < room = elim (dec_lt f.filled room) [ yes j ↦ j | no j ↦ absurd (i (omega (arith, x.filled))) ] in
          rw (ne_eqb f.filled room i) record {
            within = λ z. l;
            full = λ z. never x.stage z;
            turns = λ z. reads-used f room e z l;
            read = x.read;
            whole = x.whole;
            made = x.made;
            written = x.written;
          }
    ]

pub slurped : (room : ℕ) (f g : Flow) → Slurping room f → lacks_of f room ≡ false → g ≡ settled_of f room → Slurped room g
slurped room f g x e s = rw s (settled room f x e)
