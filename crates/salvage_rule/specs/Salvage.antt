-- A text salvaged, for any builder of lines.
use Rattle.std.specs.Prelude.{ℕ, ◌+◌, ◌≤◌, Bool, true, false, cond, List, [], ◌∷◌, ◌++◌, eqb}
use Rattle.text_pieces.specs.Piece.{Piece, full, line_of, pieces_of, text_of}
use Rattle.salvage_rule.specs.declared.Depth.{Depth}
use Rattle.salvage_rule.specs.declared.Fate.{Fate}
use Rattle.salvage_rule.specs.declared.Fate.TheVariants.{Kept, Parent, Number}
use Rattle.salvage_rule.specs.declared.Rules.{Rules}
use Rattle.salvage_rule.specs.Rule.{takes, rules_after, no_rules}

-- what a builder says of a line: it is accepted, and what is built then; or refused with a number
pub data Ruling (S : Type 0) : Type 0 where
  admits : S → Ruling S
  denies : ℕ → Ruling S

unfoldable pub go_on : {S : Type 0} → Ruling S → (S → Ruling S) → Ruling S
go_on (admits s) more = more s
go_on (denies n) more = denies n

-- a builder: what it says of line 1 and of a later line, and what the two rules ask of a line
pub record Builder (S : Type 0) : Type 0 where
  pub first : List ℕ → Ruling S
  pub next : S → List ℕ → Ruling S
  pub depth : List ℕ → Depth
  pub svc : List ℕ → Bool
  pub lim : List ℕ → Bool

-- between two lines: what is built of the kept lines, and what the rules know
pub record Between (S : Type 0) : Type 0 where
  pub built : S
  pub rules : Rules

abbrev pub fresh : {S : Type 0} → S → Between S
fresh s = record { built = s; rules = no_rules }

-- a report's entry: the added line, or a line's number and why it is gone
pub data Notice : Type 0 where
  added : Notice
  lost : ℕ → Fate → Notice

-- a line that is gone stands in the report, under its number
abbrev pub noted : ℕ → Fate → List Notice → List Notice
noted n Kept es = es
noted n Parent es = lost n Parent ∷ es
noted n (Number m) es = lost n (Number m) ∷ es

-- line numbers go on over kept lines
-- RULES 20.6
unfoldable pub listed : ℕ → List Fate → List Notice
listed n [] = []
listed n (f ∷ fs) = noted n f (listed (n + 1) fs)

-- a kept piece stands in the image
abbrev pub chosen : Fate → Piece → List Piece → List Piece
chosen Kept p ps = p ∷ ps
chosen Parent p ps = ps
chosen (Number m) p ps = ps

-- RULES 20.1
unfoldable pub chosen_by : List Fate → List Piece → List Piece
chosen_by [] ps = []
chosen_by (f ∷ fs) [] = []
chosen_by (f ∷ fs) (p ∷ ps) = chosen f p (chosen_by fs ps)

-- the rules go ahead of the builder
abbrev pub fate_by : {S : Type 0} → Bool → Ruling S → Fate
fate_by true j = Parent
fate_by false (admits s) = Kept
fate_by false (denies n) = Number n

abbrev pub built_by : {S : Type 0} → Bool → S → Ruling S → S
built_by true s j = s
built_by false s (admits s') = s'
built_by false s (denies n) = s

module _ {S : Type 0} (B : Builder S) where
  unfoldable pub takes_line : Between S → List ℕ → Bool
  takes_line s l = takes s.rules (B.depth l) (B.lim l)

  -- what comes of a line
  -- RULES 20.2
  unfoldable pub fate_of : Between S → List ℕ → Fate
  fate_of s l = fate_by (takes_line s l) (B.next s.built l)

  -- RULES 20.2
  unfoldable pub stepped : Between S → List ℕ → Between S
  stepped s l =
      record {
        built = built_by (takes_line s l) s.built (B.next s.built l);
        rules = rules_after s.rules (B.depth l) (B.svc l) (fate_of s l);
      }

  unfoldable pub stepped_all : Between S → List Piece → Between S
  stepped_all s [] = s
  stepped_all s (p ∷ ps) = stepped_all (stepped s (line_of p)) ps

  -- what comes of each line
  unfoldable pub fates_from : Between S → List Piece → List Fate
  fates_from s [] = []
  fates_from s (p ∷ ps) = fate_of s (line_of p) ∷ fates_from (stepped s (line_of p)) ps

  -- line after line accepted, from something built on
  unfoldable pub built_on : S → List (List ℕ) → Ruling S
  built_on s [] = admits s
  built_on s (l ∷ ls) = go_on (B.next s l) (λ s'. built_on s' ls)

  -- and from nothing; no lines are no image (30)
  unfoldable pub build_of : List (List ℕ) → Ruling S
  build_of [] = denies 30
  build_of (l ∷ ls) = go_on (B.first l) (λ s. built_on s ls)

  -- the added line, and what is built of it
  module _ (line : List ℕ) (start : S) where
    -- whether the line is added: where line 1 is not accepted as such, and where there is none
    abbrev pub added_by : Ruling S → Bool
    added_by (admits s) = false
    added_by (denies n) = true

    -- RULES 20.3
    unfoldable pub is_added : List Piece → Bool
    is_added [] = true
    is_added (p ∷ ps) = added_by (B.first (line_of p))

    -- what comes of each line: line 1 is kept if it is accepted as such, else it is judged as a later one, behind the added line
    abbrev pub fates_by : Ruling S → Piece → List Piece → List Fate
    fates_by (admits s) p ps = Kept ∷ fates_from (fresh s) ps
    fates_by (denies n) p ps = fates_from (fresh start) (p ∷ ps)

    -- RULES 20.3
    unfoldable pub fates_of : List Piece → List Fate
    fates_of [] = []
    fates_of (p ∷ ps) = fates_by (B.first (line_of p)) p ps

    -- what is put ahead of the image, and of the report
    abbrev pub image_ahead : Bool → List Piece
    image_ahead true = full line ∷ []
    image_ahead false = []

    abbrev pub report_ahead : Bool → List Notice
    report_ahead true = added ∷ []
    report_ahead false = []

    -- the pieces of the image
    -- RULES 20.1
    unfoldable pub image_of : List Piece → List Piece
    image_of ps = image_ahead (is_added ps) ++ chosen_by (fates_of ps) ps

    -- of a whole text
    unfoldable pub salvage_of : List ℕ → List ℕ
    salvage_of t = text_of (image_of (pieces_of t))

    -- RULES 20.6
    unfoldable pub report_of : List ℕ → List Notice
    report_of t = report_ahead (is_added (pieces_of t)) ++ listed 1 (fates_of (pieces_of t))

-- the entries of one line of the input
unfoldable pub about : ℕ → List Notice → List Notice
about m [] = []
about m (added ∷ es) = about m es
about m (lost k f ∷ es) = cond (eqb k m) (lost k f ∷ about m es) (about m es)

-- entries of lines, in rising order of their numbers, from n on
unfoldable pub Rising : ℕ → List Notice → Type 0
Rising n [] = Unit {0}
Rising n (added ∷ es) = ⊥
Rising n (lost k f ∷ es) = (n ≤ k) × Rising (k + 1) es
