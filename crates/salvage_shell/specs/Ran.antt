-- What the program salvage says of a text, and what a run of it has come to.
use Rattle.std.specs.Prelude.{ℕ, ◌≤◌, ◌<◌, ◌≡◌, true, cond, List, [], ◌∷◌, ◌++◌, ltb, length, Result, Ok, Err}
use Rattle.byte_parts.specs.Letters.{lf, tab}
use Rattle.text_numbers.specs.Decimal.{dec_text}
use Rattle.text_print.specs.Print.{closed}
use Rattle.answers.specs.Refusal.{refusal_number}
use Rattle.answers.specs.declared.refusal.Refusal.TheVariants.{OutputTooShort}
use Rattle.text_pull.specs.declared.Flow.{Flow}
use Rattle.text_pull.specs.declared.Stage.TheVariants.{Reading, Unread, Unwritten, Done, Untaken, Full}
use Rattle.text_pull.specs.Pull.{stage_open}
use Rattle.salvage_text.specs.Text.{salvaged_text, reported_text, salvaged_by}
use Rattle.answers.specs.declared.refusal.Refusal.{Refusal}
use Rattle.salvage_walk.specs.declared.Extent.{Extent}

-- as many bytes as are held of a text, of its image and of its report
abbrev pub most_salvaged : ℕ
most_salvaged = 1048576

-- what becomes of a text: the lengths of image and report, or 48 where one of the three is longer than that
-- RULES 20.7
unfoldable pub salvage_end : List ℕ → Result Extent Refusal
salvage_end t = cond (ltb most_salvaged (length t)) (Err OutputTooShort) (salvaged_by most_salvaged most_salvaged t)

-- for standard output the image, or nothing
abbrev pub prints_by : Result Extent Refusal → List ℕ → List ℕ
prints_by (Ok extent) t = salvaged_text t
prints_by (Err refusal) t = []

-- RULES 20.7
unfoldable pub salvage_prints : List ℕ → List ℕ
salvage_prints t = prints_by (salvage_end t) t

-- for standard error the report, or a line of `!` (33) and the refusal
abbrev pub tells_by : Result Extent Refusal → List ℕ → List ℕ
tells_by (Ok extent) t = reported_text t
tells_by (Err refusal) t = closed tab (33 ∷ []) ++ closed lf (dec_text (refusal_number refusal))

-- RULES 20.7
unfoldable pub salvage_tells : List ℕ → List ℕ
salvage_tells t = tells_by (salvage_end t) t

-- a run that has read this text: all that it prints is written, or less of it, where a write failed or took nothing; nothing is where the
-- text is longer than is held, where a read failed, or where the reads are used up
pub record Salvages (text : List ℕ) (f : Flow) : Type 0 where
  pub read : f.read ≡ length text
  pub done : f.stage ≡ Done → (length text ≤ most_salvaged) × (f.written ≡ length (salvage_prints text))
  pub unwritten : f.stage ≡ Unwritten → f.written < length (salvage_prints text)
  pub untaken : f.stage ≡ Untaken → f.written < length (salvage_prints text)
  pub over : f.stage ≡ Full → (most_salvaged < length text) × (f.written ≡ 0)
  pub unread : f.stage ≡ Unread → f.written ≡ 0
  pub turns : stage_open f.stage ≡ true → (f.turns ≡ 0) × (f.stage ≡ Reading) × (f.written ≡ 0)

-- a run of the program, whatever it has read
pub record SalvageRan (f : Flow) : Type 0 where
  pub text : List ℕ
  pub ran : Salvages text f
