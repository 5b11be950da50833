-- A line that names a block has 32 hex digits in its last field.
use Rattle.std.proofs.Common.{Option, Some, None}
use mathlib.Core.Path.{◌≡◌, refl}
use mathlib.Core.Bool.{Bool, true, false, cond}
use mathlib.Core.List.{List, []}
use Prim.Native.Nat.{ℕ}
use Prim.{Unit, tt}
use lib.Dec.{ltb}
use lib.ListN.{length, get_or}
use Rattle.text_fields.specs.Field.{split}
use Rattle.line_image.specs.declared.line.Heading.{Heading}
use Rattle.line_image.specs.declared.line.Line.{Line}
use Rattle.line_image.specs.declared.line.Line.TheVariants.{Card, Area, Service, Limit, Block}
use Rattle.line_fields.specs.Fields.{code_at, number_at, bound_at, form}
use Rattle.line_fields.proofs.Said.{either, on_code, on_number, on_bound}
use Rattle.line_image.specs.Line.{heading_of, with_heading, card_line, area_line, service_line, limit_line, hex32, block_line, card_word, area_word, svc_word, lim_word, blk_word, joins, first_line, later_line, image_line}

-- a line that names a block has passed a test
abbrev Passed : Bool → Option Line → Type 0
Passed b None = Unit {0}
Passed b (Some (Card s)) = Unit {0}
Passed b (Some (Area d c e v)) = Unit {0}
Passed b (Some (Service d c n v)) = Unit {0}
Passed b (Some (Limit u l g)) = Unit {0}
Passed b (Some (Block c n)) = b ≡ true

module _ (b : Bool) where
  on_heading : (x : Option Heading) (more : ℕ → ℕ → ℕ → Option Line) → ((d c v : ℕ) → Passed b (more d c v)) → Passed b (with_heading x more)
  on_heading (Some h) more p = p h.depth h.code h.version
  on_heading None more p = tt

-- the test itself
tested : (b : Bool) (c n : ℕ) → Passed b (cond b (Some (Block c n)) None)
tested true c n = refl
tested false c n = tt

module _ (b : Bool) (fs : List (List ℕ)) where
  on_card : (join : Bool) → Passed b (card_line join fs)
  unfolding card_line
  on_card join = on_code (Passed b) None tt (code_at fs 1) _ (λ s. on_code (Passed b) None tt (code_at fs 2) _ (λ v. tt))

  on_area : Passed b (area_line fs)
  unfolding area_line
  on_area = on_heading b (heading_of fs) _ (λ d c v. on_code (Passed b) None tt (code_at fs 3) _ (λ e. tt))

  on_service : Passed b (service_line fs)
  unfolding service_line
  on_service = on_heading b (heading_of fs) _ (λ d c v. on_number (Passed b) None tt (number_at fs 3 4294967295) _ (λ n. tt))

  on_limit : Passed b (limit_line fs)
  unfolding limit_line
  on_limit = on_bound (Passed b) None tt (bound_at fs 1) _ (λ u. on_bound (Passed b) None tt (bound_at fs 2) _ (λ l. on_number (Passed b) None tt (number_at fs 3 255) _ (λ g. tt)))

  on_first : Passed b (first_line fs)
  unfolding first_line
  on_first =
      either (Passed b) (form card_word 3 fs) (card_line false fs) _ (on_card false)
      (either (Passed b) (joins fs) (card_line true fs) None (on_card true) tt)

module _ (fs : List (List ℕ)) where
  -- the digits are the last field
  abbrev digits32 : Bool
  digits32 = hex32 (get_or fs 3 [])

  on_block : Passed digits32 (block_line fs)
  unfolding block_line
  on_block = on_code (Passed digits32) None tt (code_at fs 1) _ (λ c. on_number (Passed digits32) None tt (number_at fs 2 4294967295) _ (λ n. tested digits32 c n))

  on_later : Passed digits32 (later_line fs)
  unfolding later_line
  on_later =
      either (Passed digits32) (form area_word 5 fs) (area_line fs) _ (on_area digits32 fs)
      (either (Passed digits32) (form svc_word 5 fs) (service_line fs) _ (on_service digits32 fs)
      (either (Passed digits32) (form lim_word 4 fs) (limit_line fs) _ (on_limit digits32 fs)
      (either (Passed digits32) (form blk_word 4 fs) (block_line fs) None on_block tt)))

-- of a line that was read
pub block-digits : (first : Bool) (s : List ℕ) (code number : ℕ) → image_line first s ≡ Some (Block code number) → hex32 (get_or (split 9 s) 3 []) ≡ true
unfolding image_line
block-digits first s code number e =
    let fs = split 9 s in
    let b = hex32 (get_or fs 3 []) in
    let p : Passed b (cond (ltb 32768 (length s)) None (cond first (first_line fs) (later_line fs))) =
    either (Passed b) (ltb 32768 (length s)) None _ tt (either (Passed b) first (first_line fs) (later_line fs) (on_first b fs) (on_later fs)) in
    rw e at p
