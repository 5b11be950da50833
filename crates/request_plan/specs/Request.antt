-- A request and its reply.
use Rattle.std.specs.Prelude.{ℕ, List, [], Bool, true, false}
use Rattle.answers.specs.Status.{sf1_of, sf2_of, cause_of}
use Rattle.answers.specs.Refusal.{refusal_number}
use Rattle.request_plan.specs.declared.Reply.{Reply}
use Rattle.request_plan.specs.declared.Reply.TheVariants.{Refused, Done, ShortData, Failed}
use Rattle.request_plan.specs.declared.Response.{Response}
use Rattle.request_plan.specs.declared.Response.TheVariants.{Pair, Refusal}

-- A whole request: a write or a read; open (no service that needs a key) or in a session; its service codes, how many elements its
-- list has, the list's bytes, the data of a write; and the length of the staging (write) or of the output (read) that is lent.
pub record Request : Type 0 where
  pub write : Bool
  pub «open» : Bool
  pub codes : List ℕ
  pub count : ℕ
  pub list : List ℕ
  pub «data» : List ℕ
  pub room : ℕ

abbrev pub read_request : Bool → List ℕ → ℕ → List ℕ → ℕ → Request
read_request «open» codes count list room =
    record { write = false; «open» = «open»; codes = codes; count = count; list = list; «data» = []; room = room }

abbrev pub write_request : Bool → List ℕ → ℕ → List ℕ → List ℕ → ℕ → Request
write_request «open» codes count list «data» room =
    record { write = true; «open» = «open»; codes = codes; count = count; list = list; «data» = «data»; room = room }

-- status flag 1, and 0 where a refusal has none
abbrev pub flag1_in : Reply → ℕ
flag1_in (Refused r) = 0
flag1_in Done = 0
flag1_in ShortData = 0xff
flag1_in (Failed i f) = sf1_of i

-- status flag 2, and 0 where a refusal has none
abbrev pub flag2_in : Reply → ℕ
flag2_in (Refused r) = 0
flag2_in Done = 0
flag2_in ShortData = 0xac
flag2_in (Failed i f) = sf2_of f

-- what a request is told: the number of a refusal, or the pair 00 00, FF AC for short data, or the failed element's place and fault
-- RULES 2.1
abbrev pub response_of : Reply → Response
response_of (Refused r) = Refusal (refusal_number r)
response_of Done = Pair 0 0
response_of ShortData = Pair 0xff 0xac
response_of (Failed i f) = Pair (sf1_of i) (sf2_of f)

-- which A5 it was, 1 to 7, beside the pair; 0 for any other reply
-- RULES 2.7
abbrev pub cause_in : Reply → ℕ
cause_in (Refused r) = 0
cause_in Done = 0
cause_in ShortData = 0
cause_in (Failed i f) = cause_of f
