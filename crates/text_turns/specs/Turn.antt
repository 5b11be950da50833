-- What holds of a program over a text between two turns of its loop, for any machine.
use Rattle.std.specs.Prelude.{ℕ, false, ◌+◌, ◌*◌, ◌≤◌, ◌<◌, ◌≡◌, List, ◌++◌, length, take, drop}
use Rattle.text_stream.specs.Stream.{Machine, between, fed, said, says_of}
use Rattle.text_pull.specs.declared.Flow.{Flow}
use Rattle.text_pull.specs.declared.Stage.TheVariants as stages
use Rattle.text_pull.specs.declared.Stage.TheVariants.{Reading, Ended, Unread, Unwritten, Untaken, Full}
use Rattle.text_pull.specs.Pull.{rest_of, stage_open, Part}

-- a text was read, and of the words that it prints all but those that wait are written
pub record Spoken (w text : List ℕ) (f : Flow) (out : List ℕ) : Type 0 where
  pub read : f.read ≡ length text
  pub count : f.written + f.made ≡ length w
  pub words : take f.made out ≡ drop f.written w

module _ {S : Type 0} (M : Machine S) (cap : ℕ) (s₀ : S) where
  -- bytes may come: the machine has taken those before the rest of the chunk
  pub record Flowing (f : Flow) (s : S) (line chunk out : List ℕ) : Type 0 where
    pub past : List ℕ
    pub machine : record { state = s; kept = take f.len line } ≡ fed M (take cap) (between s₀) past
    pub spoken : Spoken (said M (take cap) (between s₀) past) (past ++ rest_of f chunk) f out

  -- the text has ended, and its last line is taken
  pub record Closing (f : Flow) (s : S) (out : List ℕ) : Type 0 where
    pub text : List ℕ
    pub words : List ℕ
    pub spoken : Spoken words text f out
    pub rest : words ++ M.end s ≡ says_of M s₀ text

  -- a read failed
  pub record Halted (f : Flow) (out : List ℕ) : Type 0 where
    pub text : List ℕ
    pub spoken : Spoken (said M (take cap) (between s₀) text) text f out

  -- all is printed
  pub record Done (f : Flow) (out : List ℕ) : Type 0 where
    pub text : List ℕ
    pub spoken : Spoken (says_of M s₀ text) text f out

  -- one of these, or a write failed, or took nothing
  pub record After (f : Flow) (s : S) (line chunk out : List ℕ) : Type 0 where
    pub going : f.stage ≡ Reading → Flowing f s line chunk out
    pub closing : f.stage ≡ Ended → Closing f s out
    pub unread : f.stage ≡ Unread → Halted f out
    pub part : f.stage ≡ Unwritten → Part (says_of M s₀) f
    pub done : f.stage ≡ stages.Done → Done f out
    pub untaken : f.stage ≡ Untaken → Part (says_of M s₀) f

-- its numbers: no sum overflows, and there is room for what one event prints
pub record Roomy (chunk cap room most : ℕ) (f : Flow) : Type 0 where
  pub stage : f.stage ≡ Full → ⊥
  pub over : f.stage ≡ Ended → (f.filled ≤ f.at) × (f.len ≡ 0)
  pub quiet : stage_open f.stage ≡ false → f.made ≡ 0
  pub whole : f.whole ≡ false
  pub at : f.at ≤ f.filled
  pub filled : f.filled ≤ chunk
  pub len : f.len ≤ cap
  pub made : f.made + most ≤ room
  pub read : f.read + f.turns * 65536 ≤ 9223372036854775808
  pub written : f.written + f.made + f.turns * 65536 ≤ 9223372036854775808

module _ {S : Type 0} (M : Machine S) (cap : ℕ) (s₀ : S) (most : ℕ) where
  -- a program ahead of a turn
  pub record Turning (f : Flow) (s : S) (line chunk out : List ℕ) : Type 0 where
    pub after : After M cap s₀ f s line chunk out
    pub roomy : Roomy (length chunk) (length line) (length out) most f
    pub lines : length line ≡ cap
    pub chunks : length chunk ≡ 65536
    pub outs : length out ≡ 65536

  -- and after it: ahead of the next, with fewer turns left
  pub record Turned (f g : Flow) (s : S) (line chunk out : List ℕ) : Type 0 where
    pub on : Turning g s line chunk out
    pub less : g.turns < f.turns
