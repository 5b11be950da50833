-- What a request is judged to be, in each case.
use Rattle.std.proofs.Common.{Result, Ok, Err}
use mathlib.Core.Path.{◌≡◌, refl, sym, ◌∙◌}
use mathlib.Core.Bool.{Bool, true, false, cond, not}
use mathlib.Core.List.{List}
use Prim.Native.Nat.{ℕ, ◌*◌}
use lib.Dec.{ltb}
use Rattle.answers.specs.declared.refusal.Refusal.{Refusal}
use Rattle.answers.specs.declared.refusal.Refusal.TheVariants.{TooManyElements, TooManyCodes, ListLength, ShortArena, NotBuilt}
use Rattle.block_list.specs.Element.{ends_after}
use Rattle.request_plan.specs.declared.Sizes.{Sizes}
use Rattle.request_plan.specs.declared.Judged.{Judged}
use Rattle.request_plan.specs.declared.Judged.TheVariants.{Refused as NotFit}
use Rattle.request_plan.specs.Plan.{bounds_judged, write_judged, read_judged, lent_judged, judged_with, bounded, judged_ending}

module _ (ends : Bool) (n : Sizes) where
  -- too many elements
  pub elements_refused : ltb 512 n.count ≡ true → Err TooManyElements ≡ bounds_judged ends n
  unfolding bounds_judged
  elements_refused h = rw h

  module _ (f : ltb 512 n.count ≡ false) where
    -- too many codes
    pub codes-refused : ltb 16 n.codes ≡ true → Err TooManyCodes ≡ bounds_judged ends n
    unfolding bounds_judged
    codes-refused h = rw (f, h)

    module _ (g : ltb 16 n.codes ≡ false) where
      -- Whether the list ends decides.
      pub by_list_lem : {a : Result Unit Refusal} → a ≡ cond (not ends) (Err ListLength) (Ok tt) → a ≡ bounds_judged ends n
      unfolding bounds_judged
      by_list_lem h = rw (f, g) h

module _ (write : Bool) (n : Sizes) where
  -- the blocks in use do not fit the arena
  pub short_arena : ltb n.arena (16 * n.used) ≡ true → NotFit ShortArena ≡ lent_judged write n
  unfolding lent_judged
  short_arena h = rw h

  module _ (a : ltb n.arena (16 * n.used) ≡ false) {j : Judged} where
    -- then what is lent to a write
    pub to_write : write ≡ true → j ≡ write_judged n → j ≡ lent_judged write n
    unfolding lent_judged write_judged read_judged
    to_write w k = rw (a, w) k

    -- or to a read
    pub to_read : write ≡ false → j ≡ read_judged n → j ≡ lent_judged write n
    unfolding lent_judged write_judged read_judged
    to_read w k = rw (a, w) k

module _ (sound write ends : Bool) (n : Sizes) where
  -- a card that was not built
  pub not_built : sound ≡ false → NotFit NotBuilt ≡ judged_ending sound write ends n
  unfolding judged_ending
  not_built s = rw s

  module _ (s : sound ≡ true) {b : Result Unit Refusal} (told : b ≡ bounds_judged ends n) where
    -- out of bounds
    pub no_bounds : {x : Refusal} → b ≡ Err x → NotFit x ≡ judged_ending sound write ends n
    unfolding judged_ending
    no_bounds h = rw (s, sym told ∙ h)

    -- in bounds
    pub to_lent : {j : Judged} → b ≡ Ok tt → j ≡ lent_judged write n → j ≡ judged_ending sound write ends n
    unfolding judged_ending
    to_lent h k = rw (s, sym told ∙ h) k

-- by the list itself
pub ending_with : (sound write : Bool) (list : List ℕ) (n : Sizes) → judged_ending sound write (ends_after list n.count) n ≡ judged_with sound write list n
unfolding judged_ending judged_with bounds_judged lent_judged
ending_with sound write list n =
    by_tests sound (ltb 512 n.count) (ltb 16 n.codes) (ends_after list n.count)
    (cond (ltb n.arena (16 * n.used)) (NotFit ShortArena) (cond write (write_judged n) (read_judged n)))
  where
    by_tests : (s e c l : Bool) (more : Judged) →
        cond (not s) (NotFit NotBuilt) (bounded (cond e (Err TooManyElements) (cond c (Err TooManyCodes) (cond (not l) (Err ListLength) (Ok tt)))) more)
        ≡ cond (not s) (NotFit NotBuilt) (cond e (NotFit TooManyElements) (cond c (NotFit TooManyCodes) (cond (not l) (NotFit ListLength) more)))
    by_tests false e c l more = refl
    by_tests true true c l more = refl
    by_tests true false true l more = refl
    by_tests true false false true more = refl
    by_tests true false false false more = refl
