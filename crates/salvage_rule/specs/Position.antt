-- The two rules, said of a text's lines by their positions: what is open before a line, by the lines before it. Assumes nothing.
use Rattle.std.specs.Prelude.{ℕ, ◌<◌, ◌≡◌, true, List, [], ◌∷◌, ◌++◌}
use Rattle.text_pieces.specs.Piece.{Piece, line_of}
use Rattle.salvage_rule.specs.declared.Depth.{Depth}
use Rattle.salvage_rule.specs.declared.Depth.TheVariants.{Flat, Area, Service}
use Rattle.salvage_rule.specs.declared.Fate.{Fate}
use Rattle.salvage_rule.specs.declared.Fate.TheVariants.{Kept, Number}
use Rattle.salvage_rule.specs.Salvage.{Builder, Between, fate_of, stepped_all, fates_from}

-- a line that leaves a stretch below depth d: if it has a depth, that is greater
abbrev pub StaysIn : ℕ → Depth → Type 0
StaysIn d Flat = Unit {0}
StaysIn d (Area own) = d < own
StaysIn d (Service own) = d < own

-- no line of these is kept
unfoldable pub NoneKept : List Fate → Type 0
NoneKept [] = Unit {0}
NoneKept (f ∷ fs) = (f ≡ Kept → ⊥) × NoneKept fs

module _ {S : Type 0} (B : Builder S) where
  -- `area` and `svc` lines among these are all deeper than d
  unfoldable pub AllStayIn : ℕ → List Piece → Type 0
  AllStayIn d [] = Unit {0}
  AllStayIn d (p ∷ ps) = StaysIn d (B.depth (line_of p)) × AllStayIn d ps

  -- some well-formed `area` line of depth d was refused, and deeper `area` and `svc` lines alone follow it
  -- RULES 20.4
  pub record Opened (s : Between S) (ps : List Piece) (d : ℕ) : Type 0 where
    pub ahead : List Piece
    pub area : Piece
    pub behind : List Piece
    pub number : ℕ
    pub lines : ps ≡ ahead ++ (area ∷ behind)
    pub depth : B.depth (line_of area) ≡ Area d
    pub refused : fate_of B (stepped_all B s ahead) (line_of area) ≡ Number number
    pub deeper : AllStayIn d behind

  -- some `svc` line was dropped, and no kept line follows it
  -- RULES 20.5
  pub record Orphaned (s : Between S) (ps : List Piece) : Type 0 where
    pub ahead : List Piece
    pub service : Piece
    pub behind : List Piece
    pub lines : ps ≡ ahead ++ (service ∷ behind)
    pub named : B.svc (line_of service) ≡ true
    pub dropped : NoneKept (fates_from B (stepped_all B s ahead) (service ∷ behind))
