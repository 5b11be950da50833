-- Judged by other blocks in use and another arena, a request is judged the same, or one of the two judgements is 4 or 7. Assumes nothing.
use Prim.Native.Nat.{ℕ, ◌*◌, ◌≤◌}
use native.Mathlib.Omega.{arith}
use mathlib.Core.Path.{◌≡◌, refl}
use mathlib.Core.Bool.{Bool, true, false, cond, not, ◌&&◌}
use mathlib.Core.List.{List}
use mathlib.Core.Logic.{◌⊎◌, inl, inr}
use lib.Dec.{ltb}
use lib.ListN.{length}
use borrow.Author.Tests.{ltb-false}
use Rattle.answers.specs.declared.refusal.Refusal.{Refusal}
use Rattle.answers.specs.declared.refusal.Refusal.TheVariants.{TooManyElements, TooManyCodes, ListLength, ShortStaging, ShortArena, NotBuilt}
use Rattle.block_list.specs.Element.{ends_after}
use Rattle.request_plan.specs.declared.Sizes.{Sizes}
use Rattle.request_plan.specs.declared.Judged.{Judged}
use Rattle.request_plan.specs.declared.Judged.TheVariants.{Refused as NotFit, Fit}
use Rattle.request_plan.specs.Request.{Request}
use Rattle.request_plan.specs.Plan.{write_judged, read_judged, judged_with}
use Rattle.law_systems.specs.On.{judged_on}

-- judged 4 or 7
abbrev pub LentJudged : Judged → Type 0
LentJudged x = (x ≡ NotFit ShortStaging) ⊎ (x ≡ NotFit ShortArena)

-- judged the same, but that either may be 4 or 7
abbrev pub Close : Judged → Judged → Type 0
Close x y = LentJudged x ⊎ (LentJudged y ⊎ (x ≡ y))

-- the same test ahead of both
same_test : (b : Bool) (z x y : Judged) → Close x y → Close (cond b z x) (cond b z y)
same_test true z x y h = inr (inr refl)
same_test false z x y h = h

-- a test of each that ends in 4 or 7
own_test : (b p : Bool) (z x y : Judged) → LentJudged z → Close x y → Close (cond b z x) (cond p z y)
own_test true p z x y l h = inl l
own_test false true z x y l h = inr (inl l)
own_test false false z x y l h = h

-- a test that both ask for writes alone
by_kind : (b : Bool) (x y z : Judged) → Close x y → Close (cond b x z) (cond b y z)
by_kind true x y z h = h
by_kind false x y z h = inr (inr refl)

-- all tests
pub judged_close : (sound : Bool) (used blocks long size : ℕ) (r : Request) →
    Close (judged_on sound used long r) (judged_on sound blocks size r)
unfolding judged_with write_judged read_judged
judged_close sound used blocks long size r =
    same_test (not sound) _ _ _
    (same_test (ltb 512 r.count) _ _ _
    (same_test (ltb 16 (length r.codes)) _ _ _
    (same_test (not (ends_after r.list r.count)) _ _ _
    (own_test (ltb long (16 * used)) (ltb size (16 * blocks)) _ _ _ (inr refl)
    (by_kind r.write _ _ _
    (own_test (ltb r.room (16 * used)) (ltb r.room (16 * blocks)) _ _ _ (inl refl)
    (inr (inr refl))))))))

-- where a request is judged to fit, the arena holds the blocks in use
pub judged_arena : (sound : Bool) (used long : ℕ) (r : Request) → judged_on sound used long r ≡ Fit → 16 * used ≤ long
unfolding judged_with
judged_arena sound used long r e =
    ltb-false long (16 * used)
    (past (ltb long (16 * used)) _ ShortArena
    (after (not (ends_after r.list r.count)) _ ListLength
    (after (ltb 16 (length r.codes)) _ TooManyCodes
    (after (ltb 512 r.count) _ TooManyElements
    (after (not sound) _ NotBuilt e)))))
  where
    not_fit : {B : Type 0} {x : Refusal} → NotFit x ≡ Fit → B
    not_fit e = absurd (let z : ◌≡◌ {A = ℕ} 0 1 = cc in (omega arith))

    after : (b : Bool) (y : Judged) (x : Refusal) → cond b (NotFit x) y ≡ Fit → y ≡ Fit
    after true y x h = not_fit h
    after false y x h = h

    past : (b : Bool) (y : Judged) (x : Refusal) → cond b (NotFit x) y ≡ Fit → b ≡ false
    past true y x h = not_fit h
    past false y x h = refl

-- A refusal that is asked ahead of all others, and of sound cards alone, comes straight after 8.
pub straight_after-eight : (unknown : Refusal) (sound known write : Bool) (list : List ℕ) (n : Sizes) →
    cond (sound && not known) (NotFit unknown) (judged_with sound write list n)
    ≡ cond (not sound) (NotFit NotBuilt) (cond (not known) (NotFit unknown) (judged_with true write list n))
unfolding judged_with
straight_after-eight unknown true true write list n = refl
straight_after-eight unknown true false write list n = refl
straight_after-eight unknown false known write list n = refl
