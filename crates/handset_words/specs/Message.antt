-- Messages for a program: how many bytes were written, and what a reader tells of a message in the parts that it is lent.
use Rattle.std.specs.Prelude.{ℕ, ◌*◌, List, Bool, cond, ◌&&◌, leb, Result, Ok, Err}
use Rattle.answers.specs.declared.refusal.Refusal.TheVariants.{ShortOutput}
use Rattle.byte_parts.specs.Part.{put}
use Rattle.node_messages.specs.CodeList.{read_code_list}
use Rattle.node_messages.specs.Information.{read_information}
use Rattle.handset_words.specs.Outcome.{refused_as}
use Rattle.answers.specs.declared.refusal.Refusal.{Refusal}

-- how many bytes a message has
-- RULES 15.6
abbrev pub put_as : Result ℕ Refusal → ℕ
put_as (Ok n) = 0
put_as (Err r) = refused_as r

-- RULES 15.6
abbrev pub put_after : ℕ → Result ℕ Refusal → ℕ
put_after old (Ok n) = n
put_after old (Err r) = old

-- the new value where a call is done; else what was there
-- RULES 15.6
abbrev pub told_by : {A : Type 0} → Result Unit Refusal → A → A → A
told_by (Ok tt) old new = new
told_by (Err r) old new = old

-- n numbers at the front of what is lent; none after a refusal
-- RULES 15.6
abbrev pub numbers_told : Result Unit Refusal → List ℕ → ℕ → List ℕ → List ℕ
numbers_told a old n new = put old 0 (told_by a 0 n) new

-- a reader's own refusal, or 5 where one of its two lists finds no room
abbrev pub roomed_by : Result Unit Refusal → Bool → Result Unit Refusal
roomed_by (Ok tt) both = cond both (Ok tt) (Err ShortOutput)
roomed_by (Err r) both = Err r

-- RULES 15.6
unfoldable pub roomed : Result Unit Refusal → ℕ → ℕ → ℕ → ℕ → Result Unit Refusal
roomed a first room second rest = roomed_by a (leb first room && leb second rest)

-- of a code list: code and end of each area, and the codes of the services
-- RULES 15.6
abbrev pub list_read : List ℕ → ℕ → ℕ → Result Unit Refusal
list_read s areas services = roomed (read_code_list s).answer (2 * (read_code_list s).list.areas) areas (read_code_list s).list.services services

-- of block information: the assigned counts and the free ones
-- RULES 15.6
abbrev pub information_read : List ℕ → ℕ → ℕ → Result Unit Refusal
information_read s assigned free = roomed (read_information s).answer (read_information s).told.count assigned (read_information s).told.count free
