-- More than sixteen codes are refused alike, whatever they are. Assumes nothing.
use Prim.Native.Nat.{ℕ, ◌≤◌, ◌<◌}
use native.Mathlib.Omega.{arith}
use native.Mathlib.Decide.{dec_lt}
use mathlib.Core.Path.{◌≡◌, refl, sym, ◌∙◌}
use mathlib.Core.Bool.{Bool, true, false, cond, not}
use mathlib.Core.List.{List}
use lib.Dec.{ltb}
use lib.ListN.{length, take, length-take}
use lib.Seq.{take_all}
use borrow.Author.Tests.{lt-ltb}
use Rattle.answers.specs.declared.refusal.Refusal.{Refusal}
use Rattle.answers.specs.declared.refusal.Refusal.TheVariants.{TooManyElements, TooManyCodes, NotBuilt}
use Rattle.card_build.specs.declared.card.Card.{Card}
use Rattle.card_build.specs.Card.{is_sound}
use Rattle.request_plan.specs.declared.Reply.TheVariants.{Refused}
use Rattle.request_plan.specs.declared.Judged.TheVariants.{Refused as NotFit}
use Rattle.request_plan.specs.Request.{Request}
use Rattle.request_plan.specs.Plan.{judged_with}
use Rattle.request_plan.specs.Serve.{answered_only, serve}
use Rattle.request_plan.proofs.Serves.{refused}

-- The refusal of a request of more than sixteen codes: 8, 1, 2.
abbrev many_refusal : Bool → Bool → Refusal
many_refusal true true = TooManyElements
many_refusal true false = TooManyCodes
many_refusal false e = NotBuilt

-- It is refused so.
many_judged
    : (s e : Bool) → cond (not s) (NotFit NotBuilt) (cond e (NotFit TooManyElements) (NotFit TooManyCodes)) ≡ NotFit (many_refusal s e)
many_judged true true = refl
many_judged true false = refl
many_judged false true = refl
many_judged false false = refl

-- a request with other codes
abbrev pub coded : Request → List ℕ → Request
coded r codes = record {
  write = r.write;
  «open» = r.«open»;
  codes = codes;
  count = r.count;
  list = r.list;
  «data» = r.«data»;
  room = r.room;
}

module _ (c : Card) (a : List ℕ) (r : Request) where
  -- more than sixteen codes are refused, whatever they are
  many : (codes : List ℕ) → 16 < length codes → serve c a (coded r codes) ≡ answered_only a (Refused (many_refusal (is_sound c) (ltb 512 r.count)))
  unfolding judged_with
  many codes h = refused c a (coded r codes) (rw (lt-ltb 16 (length codes) h) (many_judged (is_sound c) (ltb 512 r.count)))

  -- seventeen of them are as good as all
  pub cut : (codes : List ℕ) → serve c a (coded r (take 17 codes)) ≡ serve c a (coded r codes)
  cut codes =
      elim (dec_lt 17 (length codes)) [
        | yes h ↦ many (take 17 codes) (simp length-take (omega arith)) ∙ sym (many codes (omega arith))
        | no h ↦ let g : length codes ≤ 17 = omega arith in rw (take_all 17 codes g)
      ]
