-- All that is settled before a stored byte is read. Of the arena only its length is asked, so no stored byte can change a refusal.
use Rattle.std.specs.Prelude.{ℕ, List, Bool, cond, not, ltb, length, Result, Ok, Err}
use Rattle.byte_parts.specs.Sizes.{most_elements, most_codes}
use Rattle.block_list.specs.declared.element.BlockListElement.{BlockListElement}
use Rattle.answers.specs.declared.refusal.Refusal.TheVariants.{TooManyElements, TooManyCodes, ListLength, ShortStaging, ShortOutput, ShortArena, NotBuilt}
use Rattle.block_list.specs.Element.{ends_after, elements_from}
use Rattle.card_build.specs.declared.card.Card.{Card}
use Rattle.card_build.specs.Card.{nodes_of, is_sound, too_short, is_short}
use Rattle.request_check.specs.declared.table.Row.{Row}
use Rattle.request_check.specs.Row.{rows_of}
use Rattle.request_check.specs.Check.{checked_from}
use Rattle.request_plan.specs.declared.Reply.{Reply}
use Rattle.request_plan.specs.declared.Reply.TheVariants.{Refused, ShortData, Failed}
use Rattle.request_plan.specs.declared.Sizes.{Sizes}
use Rattle.request_plan.specs.declared.Judged.{Judged}
use Rattle.request_plan.specs.declared.Judged.TheVariants.{Refused as NotFit, ShortData as NoData, Fit}
use Rattle.request_plan.specs.Request.{Request}
use Rattle.answers.specs.declared.refusal.Refusal.{Refusal}
use Rattle.answers.specs.declared.status.Failure.{Failure}

-- the reply, or the elements to carry out
pub data Plan : Type 0 where
  stop : Reply → Plan
  go : List BlockListElement → Plan

-- what the request's codes come to
abbrev pub rows_in : Card → Request → List Row
rows_in c r = rows_of (nodes_of c) r.codes

-- the elements of its list
abbrev pub elements_in : Request → List BlockListElement
elements_in r = elements_from r.list r.count 0

-- 1, 2, 3, of a list that ends where its elements do, or not
unfoldable pub bounds_judged : Bool → Sizes → Result Unit Refusal
bounds_judged ends n =
    cond (ltb most_elements n.count) (Err TooManyElements)
    (cond (ltb most_codes n.codes) (Err TooManyCodes)
    (cond (not ends) (Err ListLength)
    (Ok tt)))

-- 4 (staging: 16 bytes per block in use), then FF AC (data: 16 bytes per element)
-- RULES 2.4, 2.6, 9.1
unfoldable pub write_judged : Sizes → Judged
write_judged n =
    cond (too_short n.room n.used) (NotFit ShortStaging)
    (cond (too_short n.«data» n.count) NoData
    Fit)

-- 5 (output: 16 bytes per element)
-- RULES 2.4, 2.5
unfoldable pub read_judged : Sizes → Judged
read_judged n =
    cond (too_short n.room n.count) (NotFit ShortOutput)
    Fit

-- 7, then what is lent to a write or a read
unfoldable pub lent_judged : Bool → Sizes → Judged
lent_judged write n =
    cond (is_short n.arena n.used) (NotFit ShortArena)
    (cond write (write_judged n) (read_judged n))

-- 8, 1, 2, 3, 7, then what is lent to a write or a read; of the card it is asked whether it is sound and how many blocks are in use
-- RULES 1.6, 2.4
unfoldable pub judged_with : Bool → Bool → List ℕ → Sizes → Judged
judged_with sound write list n =
    cond (not sound) (NotFit NotBuilt)
    (cond (ltb most_elements n.count) (NotFit TooManyElements)
    (cond (ltb most_codes n.codes) (NotFit TooManyCodes)
    (cond (not (ends_after list n.count)) (NotFit ListLength)
    (cond (is_short n.arena n.used) (NotFit ShortArena)
    (cond write (write_judged n) (read_judged n))))))

-- what is out of bounds is refused, and of what is not the rest is judged
abbrev pub bounded : Result Unit Refusal → Judged → Judged
bounded (Err x) more = NotFit x
bounded (Ok tt) more = more

-- the same, of a list of which it is known whether it ends where its elements do
unfoldable pub judged_ending : Bool → Bool → Bool → Sizes → Judged
judged_ending sound write ends n = cond (not sound) (NotFit NotBuilt) (bounded (bounds_judged ends n) (lent_judged write n))

-- how a request is judged on an arena of so many bytes
abbrev pub judged_of : Card → ℕ → Request → Judged
judged_of c arena_len r =
    judged_with (is_sound c) r.write r.list
    (record {
      used = c.used;
      count = r.count;
      codes = length r.codes;
      arena = arena_len;
      «data» = length r.«data»;
      room = r.room;
    })

-- the first element that fails is told, else all are carried out
abbrev pub checked_plan : List BlockListElement → Result Unit Failure → Plan
checked_plan es (Ok tt) = go es
checked_plan es (Err failure) = stop (Failed failure.index failure.fault)

-- then each element's check
abbrev pub judged_plan : Card → Request → Judged → Plan
judged_plan c r (NotFit x) = stop (Refused x)
judged_plan c r NoData = stop ShortData
judged_plan c r Fit = checked_plan (elements_in r) (checked_from (rows_in c r) r.write r.«open» 0 (elements_in r))

-- a request's plan, on an arena of so many bytes
-- RULES 9.2
unfoldable pub plan_of : Card → ℕ → Request → Plan
plan_of c arena_len r = judged_plan c r (judged_of c arena_len r)
