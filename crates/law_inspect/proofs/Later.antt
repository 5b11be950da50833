-- No image line but the first makes a new card.
use Rattle.std.specs.Prelude.{None, Some}
use Rattle.std.proofs.Common.{Option}
use Prim.Native.Nat.{ℕ}
use mathlib.Core.Path.{◌≡◌, refl}
use mathlib.Core.Bool.{Bool, true, false, cond}
use mathlib.Core.List.{List, []}
use lib.Dec.{ltb}
use lib.IntN.{ℤ}
use lib.ListN.{length, get_or}
use Rattle.text_fields.specs.Field.{split}
use Rattle.line_fields.specs.Fields.{code_at, number_at, bound_at, with_code, with_number, with_bound, form}
use Rattle.line_image.specs.declared.line.Line.{Line}
use Rattle.line_image.specs.declared.line.Line.TheVariants.{Card as New, Area, Service, Limit, Block}
use Rattle.line_image.specs.Line.{heading_of, with_heading, area_line, service_line, limit_line, hex32, block_line, area_word, svc_word, lim_word, blk_word, later_line, image_line}

-- whether a line makes a new card
abbrev pub is_new : Option Line → Bool
is_new None = false
is_new (Some (New system)) = true
is_new (Some (Area depth code end version)) = false
is_new (Some (Service depth code blocks version)) = false
is_new (Some (Limit upper lower generation)) = false
is_new (Some (Block code number)) = false

-- no line does that goes on as one that does not
with_code_lem : (x : Option ℕ) (f : ℕ → Option Line) → ((n : ℕ) → is_new (f n) ≡ false) → is_new (with_code None x f) ≡ false
with_code_lem (Some n) f h = h n
with_code_lem None f h = refl

with_number_lem : (x : Option ℕ) (f : ℕ → Option Line) → ((n : ℕ) → is_new (f n) ≡ false) → is_new (with_number None x f) ≡ false
with_number_lem (Some n) f h = h n
with_number_lem None f h = refl

with_bound_lem : (x : Option ℤ) (f : ℤ → Option Line) → ((n : ℤ) → is_new (f n) ≡ false) → is_new (with_bound None x f) ≡ false
with_bound_lem (Some n) f h = h n
with_bound_lem None f h = refl

with_heading_lem : (fs : List (List ℕ)) (f : ℕ → ℕ → ℕ → Option Line) → ((d c v : ℕ) → is_new (f d c v) ≡ false) →
    is_new (with_heading (heading_of fs) f) ≡ false
unfolding heading_of
with_heading_lem fs f h = by_fields_lem (number_at fs 1 4294967295) (code_at fs 2) (code_at fs 4) refl refl refl
  where
    by_fields_lem : (d : Option ℕ) (c v : Option ℕ) → number_at fs 1 4294967295 ≡ d → code_at fs 2 ≡ c → code_at fs 4 ≡ v →
        is_new (with_heading (heading_of fs) f) ≡ false
    by_fields_lem (Some d) (Some c) (Some v) p q r = rw (p, q, r) (h d c v)
    by_fields_lem (Some d) (Some c) None p q r = rw (p, q, r)
    by_fields_lem (Some d) None v p q r = rw (p, q)
    by_fields_lem None c v p q r = rw p

either : (t : Bool) (x y : Option Line) → is_new x ≡ false → is_new y ≡ false → is_new (cond t x y) ≡ false
either true x y p q = p
either false x y p q = q

module _ (fs : List (List ℕ)) where
  area_old : is_new (area_line fs) ≡ false
  unfolding area_line
  area_old = with_heading_lem fs _ (λ depth code version. with_code_lem (code_at fs 3) _ (λ end. refl))

  service_old : is_new (service_line fs) ≡ false
  unfolding service_line
  service_old = with_heading_lem fs _ (λ depth code version. with_number_lem (number_at fs 3 4294967295) _ (λ blocks. refl))

  limit_old : is_new (limit_line fs) ≡ false
  unfolding limit_line
  limit_old =
      with_bound_lem (bound_at fs 1) _ (λ upper. with_bound_lem (bound_at fs 2) _ (λ lower. with_number_lem (number_at fs 3 255) _ (λ generation. refl)))

  block_old : is_new (block_line fs) ≡ false
  unfolding block_line
  block_old =
      with_code_lem (code_at fs 1) _ (λ code. with_number_lem (number_at fs 2 4294967295) _ (λ number.
      either (hex32 (get_or fs 3 [])) (Some (Block code number)) None refl refl))

  later_old : is_new (later_line fs) ≡ false
  unfolding later_line
  later_old =
      either (form area_word 5 fs) _ _ area_old
      (either (form svc_word 5 fs) _ _ service_old
      (either (form lim_word 4 fs) _ _ limit_old
      (either (form blk_word 4 fs) _ _ block_old refl)))

-- no later line makes one
pub line_old : (line : List ℕ) → is_new (image_line false line) ≡ false
unfolding image_line
line_old line = either (ltb 32768 (length line)) None _ refl (later_old (split 9 line))
