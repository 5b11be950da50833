-- A text pulled line by line, and what a program over one has come to.
use Rattle.std.specs.Prelude.{ℕ, ◌+◌, ◌-◌, min, ◌≤◌, ◌<◌, ◌≡◌, Bool, true, false, cond, List, [], ◌∷◌, ◌++◌, ℤ, pos, negsuc, eqb, ltb, length, take, drop, Option, Some, None, Result, Ok, Err}
use Rattle.byte_scan.specs.Bytes.{index_of}
use Rattle.text_feed.specs.declared.Place.{Place}
use Rattle.text_stream.specs.Stream.{Machine, between, said, says_of, Written}
use Rattle.text_pull.specs.declared.Flow.{Flow}
use Rattle.text_pull.specs.declared.Stage.{Stage}
use Rattle.text_pull.specs.declared.Stage.TheVariants.{Reading, Ended, Unread, Unwritten, Done, Untaken, Full}
use Rattle.text_pull.specs.declared.Fault.{Fault}
use Rattle.text_pull.specs.declared.Fault.TheVariants as fault

abbrev pub flow_start : Flow
flow_start = record { turns = 140737488355328; len = 0; filled = 0; at = 0; whole = false; made = 0; stage = Reading; read = 0; written = 0 }

-- the error that says that a signal interrupted the call
unfoldable pub is_interrupt : ℤ → Bool
is_interrupt (pos k) = eqb k 4
is_interrupt (negsuc k) = false

-- how many bytes a call moved, with so much room; none where it had an error
unfoldable pub bytes_moved : Result ℕ ℤ → ℕ → ℕ
bytes_moved (Ok n) room = min n room
bytes_moved (Err errno) room = 0

-- the stage after a read: bytes came, or a signal interrupted it; or the text has ended; or the read failed
unfoldable pub error_stage : ℤ → Stage
error_stage errno = cond (is_interrupt errno) Reading Unread

unfoldable pub came_stage : ℕ → Stage
came_stage n = cond (ltb n 1) Ended Reading

unfoldable pub stage_of : Result ℕ ℤ → Stage
stage_of (Ok n) = came_stage n
stage_of (Err errno) = error_stage errno

-- whether bytes may come
abbrev pub is_reading : Stage → Bool
is_reading Reading = true
is_reading other = false

-- whether a stage is open: neither is all printed, nor has something failed
abbrev pub stage_open : Stage → Bool
stage_open Reading = true
stage_open Ended = true
stage_open other = false

-- whether a read leads to it: bytes may come, the text has ended, or the read failed
abbrev pub is_read : Stage → Bool
is_read Reading = true
is_read Ended = true
is_read Unread = true
is_read other = false

-- what a read answered comes to, with so much room in the chunk
unfoldable pub read_of : Flow → Result ℕ ℤ → ℕ → Flow
read_of f got room = record {
  turns = f.turns;
  len = f.len;
  filled = bytes_moved got room;
  at = 0;
  whole = f.whole;
  made = f.made;
  stage = stage_of got;
  read = f.read + bytes_moved got room;
  written = f.written;
}

-- what is left to take of the chunk
abbrev pub rest_of : Flow → List ℕ → List ℕ
rest_of f chunk = drop f.at (take f.filled chunk)

-- one refill: the bytes that came stand behind what was left; at the end of the text, and where the read failed, none are left
pub record Refilled (f : Flow) (chunk : List ℕ) (g : Flow) (chunk' : List ℕ) : Type 0 where
  pub came : List ℕ
  pub rest : rest_of g chunk' ≡ rest_of f chunk ++ came
  pub read : g.read ≡ f.read + length came
  pub most : g.read ≤ f.read + length chunk
  pub stage : is_read g.stage ≡ true
  pub stays : f.stage ≡ Ended → g.stage ≡ Ended
  pub over : (g.stage ≡ Reading → ⊥) → g.filled ≤ g.at
  pub at : g.at ≤ g.filled
  pub filled : g.filled ≤ length chunk
  pub turns : g.turns ≡ f.turns
  pub len : g.len ≡ f.len
  pub made : g.made ≡ f.made
  pub written : g.written ≡ f.written

-- whether a program goes on: turns are left, and its stage is open
unfoldable pub goes_on : Flow → Bool
goes_on f = cond (ltb 0 f.turns) (stage_open f.stage) false

-- a line is whole where a LF ended it, or the text did and it has bytes
unfoldable pub at_end : Bool → ℕ → Bool
at_end whole len = cond (ltb 0 len) true whole

unfoldable pub last_of : Bool → Stage → ℕ → Bool
last_of whole Ended len = at_end whole len
last_of whole other len = whole

-- where a feeding came to, by one turn
unfoldable pub fed_of : Flow → Place → Flow
fed_of f p = record {
  turns = f.turns - 1;
  len = p.len;
  filled = f.filled;
  at = p.at;
  whole = last_of (eqb p.whole 1) f.stage p.len;
  made = f.made;
  stage = f.stage;
  read = f.read;
  written = f.written;
}

-- the event after a pull: a whole line; or, where there is none, the end
abbrev pub is_line : Flow → Bool
is_line f = f.whole

abbrev pub is_ended : Stage → Bool
is_ended Ended = true
is_ended other = false

abbrev pub is_end : Flow → Bool
is_end f = is_ended f.stage

-- one pull: of what was left of the chunk, and the bytes that came behind it, those up to a LF are taken; of the line at hand as many bytes
-- are kept as the buffer has room for. The line is whole behind a LF, or where the text has ended and some are kept
pub record Pulled (f : Flow) (chunk line : List ℕ) (g : Flow) (chunk' line' : List ℕ) : Type 0 where
  pub came : List ℕ
  pub bytes : List ℕ
  pub plain : length bytes ≤ index_of 10 bytes
  pub kept : take g.len line' ≡ take (length line) (take f.len line ++ bytes)
  pub read : g.read ≡ f.read + length came
  pub more : g.stage ≡ Reading → g.whole ≡ false → rest_of f chunk ++ came ≡ bytes ++ rest_of g chunk'
  pub lf : g.stage ≡ Reading → g.whole ≡ true → rest_of f chunk ++ came ≡ bytes ++ (10 ∷ rest_of g chunk')
  pub over : (g.stage ≡ Reading → ⊥) → (rest_of f chunk ++ came ≡ []) × (bytes ≡ []) × (g.filled ≤ g.at)
  pub none : g.stage ≡ Ended → g.whole ≡ false → g.len ≡ 0
  pub some : g.stage ≡ Ended → g.whole ≡ true → 1 ≤ g.len
  pub failed : g.stage ≡ Unread → g.whole ≡ false
  pub stage : is_read g.stage ≡ true
  pub stays : f.stage ≡ Ended → g.stage ≡ Ended
  pub most : g.read ≤ f.read + length chunk
  pub at : g.at ≤ g.filled
  pub filled : g.filled ≤ length chunk
  pub len : g.len ≤ length line
  pub turns : g.turns + 1 ≡ f.turns
  pub made : g.made ≡ f.made
  pub written : g.written ≡ f.written

-- after a line that printed up to `made`: a program that stops is done
abbrev pub took_of : Flow → ℕ → Bool → Flow
took_of f made true = record {
  turns = f.turns;
  len = 0;
  filled = f.filled;
  at = f.at;
  whole = false;
  made = made;
  stage = Done;
  read = f.read;
  written = f.written;
}
took_of f made false = record {
  turns = f.turns;
  len = 0;
  filled = f.filled;
  at = f.at;
  whole = false;
  made = made;
  stage = f.stage;
  read = f.read;
  written = f.written;
}

-- after the end, which printed up to `made`
abbrev pub closed_of : Flow → ℕ → Flow
closed_of f made = record {
  turns = f.turns;
  len = f.len;
  filled = f.filled;
  at = f.at;
  whole = f.whole;
  made = made;
  stage = Done;
  read = f.read;
  written = f.written;
}

-- where no line is at hand: the end prints a text, and else nothing happens
unfoldable pub rest_text : Flow → List ℕ → List ℕ
rest_text f text = cond (is_end f) text []

unfoldable pub rested_of : Flow → ℕ → Flow
rested_of f made = cond (is_end f) (closed_of f made) f

pub record Rested (text : List ℕ) (f : Flow) (out : List ℕ) (g : Flow) (out' : List ℕ) : Type 0 where
  pub words : Written out f.made (rest_text f text) g.made out'
  pub flow : g ≡ rested_of f g.made

-- whether what waits is to be written: the chunk is used up, less than `most` of the room is left, or no more lines come
unfoldable pub due_of : Flow → ℕ → ℕ → Bool
due_of f room most = cond (is_reading f.stage) (cond (ltb f.at f.filled) (ltb (room - f.made) most) true) true

-- the stage after a write: one that took bytes, or that a signal interrupted, leaves it; else the write failed, with an error or without
unfoldable pub broken_stage : Stage → ℤ → Stage
broken_stage stage errno = cond (is_interrupt errno) stage Unwritten

unfoldable pub write_stage : Stage → Result ℕ ℤ → Stage
write_stage stage (Ok n) = cond (ltb 0 n) stage Untaken
write_stage stage (Err errno) = broken_stage stage errno

-- what one write of all that waits comes to
unfoldable pub put_of : Flow → Result ℕ ℤ → Flow
put_of f got = record {
  turns = f.turns - 1;
  len = f.len;
  filled = f.filled;
  at = f.at;
  whole = f.whole;
  made = f.made - bytes_moved got f.made;
  stage = write_stage f.stage got;
  read = f.read;
  written = f.written + bytes_moved got f.made;
}

pub record Put (f g : Flow) : Type 0 where
  pub got : Result ℕ ℤ
  pub flow : g ≡ put_of f got

-- whether another write is to be made: bytes wait, none failed, and turns are left
abbrev pub is_broken : Stage → Bool
is_broken Unwritten = true
is_broken Untaken = true
is_broken other = false

unfoldable pub left_of : Flow → Bool
left_of f = cond (is_broken f.stage) false (cond (ltb 0 f.turns) (ltb 0 f.made) false)

-- a program that has failed to write: a write had an error, or none took what waits
unfoldable pub last_stage : Stage → Stage
last_stage Unwritten = Unwritten
last_stage other = Untaken

abbrev pub unwritten : Flow → Flow
unwritten f = record {
  turns = f.turns;
  len = f.len;
  filled = f.filled;
  at = f.at;
  whole = f.whole;
  made = 0;
  stage = last_stage f.stage;
  read = f.read;
  written = f.written;
}

-- what all writes come to that left so many turns and took so many bytes: where bytes were left the program has failed, with an error or
-- without
unfoldable pub wrote_of : Flow → ℕ → ℕ → Bool → Flow
wrote_of f turns taken error = record {
  turns = turns;
  len = f.len;
  filled = f.filled;
  at = f.at;
  whole = f.whole;
  made = 0;
  stage = cond (ltb taken f.made) (cond error Unwritten Untaken) f.stage;
  read = f.read;
  written = f.written + taken;
}

-- after the last write: where bytes still wait the program has failed
unfoldable pub gave_up : Flow → Flow
gave_up f = cond (ltb 0 f.made) (unwritten f) f

-- all that waits is written, call by call, or the program has failed: no byte is taken without a call, and each call uses a turn
pub record Wrote (f g : Flow) : Type 0 where
  pub turns : ℕ
  pub taken : ℕ
  pub error : Bool
  pub spent : turns ≤ f.turns
  pub called : 1 ≤ taken → turns < f.turns
  pub most : taken ≤ f.made
  pub flow : g ≡ wrote_of f turns taken error

-- one flush: where it is due all that waits is written, or the program has failed
pub record Flushed (most room : ℕ) (f g : Flow) : Type 0 where
  pub wait : due_of f room most ≡ false → g ≡ f
  pub wrote : due_of f room most ≡ true → Wrote f g

-- what a program has to say of a text: of any text the bytes that it prints
module _ (says : List ℕ → List ℕ) where
  -- words that may be written: what a text of the length read prints, from what is written on
  pub record Next (f : Flow) (w : List ℕ) : Type 0 where
    pub text : List ℕ
    pub read : f.read ≡ length text
    pub fits : f.written + length w ≤ length (says text)
    pub words : w ≡ take (length w) (drop f.written (says text))

  -- so many bytes were read; as many were written as a text of that length prints
  pub record Told (f : Flow) : Type 0 where
    pub text : List ℕ
    pub read : f.read ≡ length text
    pub written : f.written ≡ length (says text)

  -- no more than it prints
  pub record Part (f : Flow) : Type 0 where
    pub text : List ℕ
    pub read : f.read ≡ length text
    pub written : f.written ≤ length (says text)

module _ {S : Type 0} (M : Machine S) where
  -- one event answered: a whole line, the end, or nothing
  pub record Answered (stop : S → Bool) (most : ℕ) (f : Flow) (s : S) (line out : List ℕ) (g : Flow) (s' : S) (out' : List ℕ) : Type 0 where
    pub whole
        : f.whole ≡ true
        → (s' ≡ M.line s (take f.len line)) × Written out f.made (M.text s (take f.len line)) g.made out'
        × (g ≡ took_of f g.made (stop s'))
    pub end : f.whole ≡ false → f.stage ≡ Ended → Written out f.made (M.end s) g.made out' × (g ≡ closed_of f g.made)
    pub none : f.whole ≡ false → (f.stage ≡ Ended → ⊥) → (g ≡ f) × (s' ≡ s) × (out' ≡ out)
    pub made : g.made ≤ f.made + most

  -- a program that has left its loop: all is printed; or a read failed, and its whole lines are answered, a line that it cut off is not; or
  -- a write failed, or took nothing; or its turns are used up
  pub record Ran (s₀ : S) (f : Flow) : Type 0 where
    pub done : f.stage ≡ Done → Told (says_of M s₀) f
    pub unread : f.stage ≡ Unread → Told (said M (λ l. l) (between s₀)) f
    pub unwritten : f.stage ≡ Unwritten → Part (says_of M s₀) f
    pub untaken : f.stage ≡ Untaken → Part (says_of M s₀) f
    pub turns : stage_open f.stage ≡ true → f.turns ≡ 0
    pub stage : f.stage ≡ Full → ⊥

-- a whole text read into a lent buffer: it has ended within it, or fills it; or a read failed, or the reads are used up
pub record Slurped (room : ℕ) (f : Flow) : Type 0 where
  pub within : is_read f.stage ≡ true → f.filled < room
  pub full : is_read f.stage ≡ false → (f.stage ≡ Full) × (f.filled ≡ room)
  pub turns : f.stage ≡ Reading → f.turns ≡ 0
  pub read : f.read ≡ f.filled
  pub whole : f.whole ≡ false
  pub made : f.made ≡ 0
  pub written : f.written ≡ 0

-- whether the buffer was too short
abbrev pub is_full : Stage → Bool
is_full Full = true
is_full other = false

-- one read of what is missing
unfoldable pub more_of : Flow → Result ℕ ℤ → ℕ → Flow
more_of f got room = record {
  turns = f.turns - 1;
  len = f.len;
  filled = f.filled + bytes_moved got room;
  at = f.at;
  whole = f.whole;
  made = f.made;
  stage = stage_of got;
  read = f.read + bytes_moved got room;
  written = f.written;
}

pub record More (room : ℕ) (f g : Flow) : Type 0 where
  pub got : Result ℕ ℤ
  pub flow : g ≡ more_of f got room

-- whether more may come
unfoldable pub lacks_of : Flow → ℕ → Bool
lacks_of f room = cond (ltb 0 f.turns) (cond (is_reading f.stage) (ltb f.filled room) false) false

-- after the last read
unfoldable pub settled_of : Flow → ℕ → Flow
settled_of f room = record {
  turns = f.turns;
  len = f.len;
  filled = f.filled;
  at = f.at;
  whole = f.whole;
  made = f.made;
  stage = cond (eqb f.filled room) Full f.stage;
  read = f.read;
  written = f.written;
}

-- what is said of a program that has left its loop, if something
unfoldable pub write_fault : Stage → Option Fault
write_fault Unwritten = Some fault.Unwritten
write_fault Untaken = Some fault.Untaken
write_fault other = None

unfoldable pub stage_fault : Stage → Option Fault
stage_fault Reading = Some fault.Unended
stage_fault Ended = Some fault.Unended
stage_fault Unread = Some fault.Unread
stage_fault other = write_fault other

abbrev pub fault_of : Flow → Option Fault
fault_of f = stage_fault f.stage
