-- A whole pass: what stands first, then the walk; and two passes. Assumes nothing.
use Rattle.std.proofs.Common.{Option, Some, None, Result, Ok, Err}
use Prim.Native.Nat.{ℕ, ◌+◌, ◌-◌, ◌≤◌}
use native.Mathlib.Omega.{arith}
use native.Mathlib.Decide.{dec_lt}
use borrow.Author.Tests.{lt-ltb, le-ltb}
use mathlib.Core.Path.{◌≡◌, refl, sym, ap, ◌∙◌}
use mathlib.Core.Bool.{Bool, true, false, cond, false≢true}
use mathlib.Core.List.{List, [], ◌∷◌, ◌++◌, append-nil}
use lib.Dec.{ltb}
use lib.ListN.{length, take, drop, length-append, length-take, replicate, length-replicate, drop_of_length-le}
use lib.Seq.{take_all}
use Rattle.byte_scan.specs.Bytes.{index_of, slice}
use Rattle.byte_parts.specs.Part.{put, same_bytes}
use Rattle.byte_parts.proofs.Part.{put-split}
use Rattle.byte_parts.proofs.Put.{put-append}
use Rattle.answers.specs.Refusal.{refusal_number}
use Rattle.answers.specs.declared.refusal.Refusal.{Refusal}
use Rattle.text_fields.specs.Field.{split}
use Rattle.text_pieces.specs.Piece.{line_of, pieces_of, text_of}
use Rattle.card_build.specs.declared.card.Card.{Card}
use Rattle.card_build.specs.declared.card.Added.{Added}
use Rattle.line_fields.specs.Fields.{form}
use Rattle.line_image.specs.Line.{named, joins, first_line, image_line}
use Rattle.line_build.specs.Image.{image_step}
use Rattle.salvage_rule.specs.Salvage.{admits, denies, fresh, added, listed, chosen_by, fates_from, is_added, fates_of, image_of, salvage_of, report_of}
use Rattle.salvage_line.specs.Image.{Image, imaged, ruling_by, line_ruled, image_builder, added_line, no_image}
use Rattle.salvage_line.proofs.Leaves.{refused_leaves}
use Rattle.salvage_print.specs.Print.{notice_text, report_text, image_left, report_left, spot_by, spotted}
use Rattle.salvage_print.proofs.Spots.{full_back, at_back}
use Rattle.salvage_print.proofs.Turns.{Turn}
use Rattle.salvage_walk.specs.declared.Extent.{Extent}
use Rattle.salvage_walk.specs.Walk.{image_at, report_at, extent_by, WroteIf}
use Rattle.salvage_walk.proofs.Walking.{turn_at}
use Rattle.salvage_walk.proofs.Extents.{extent_first, extent_second}
use Rattle.salvage_text.specs.Text.{salvaged_text, reported_text, landed_by}
use Rattle.salvage_walk.specs.Extent.{both_fit}

-- what stands in front, then the rest: written as one
pub wrote-behind
    : (w : Bool) (r : Option Extent) (d o e g rest : List ℕ) (m : ℕ) → Some m ≡ spot_by (length d) 0 (length g) → o ≡ spotted (Some m) w d 0 g
    → WroteIf w r o m rest e → WroteIf w r d 0 (g ++ rest) e
wrote-behind false r d o e g rest m p q h = h ∙ q
wrote-behind true None d o e g rest m p q h = tt
wrote-behind true (Some extent) d o e g rest m p q h =
    let z : m ≡ 0 + length g = (at_back (length d) 0 (length g) m p).0 in
    h ∙ ap (λ (l : List ℕ). put l m (length rest) rest) q ∙ ap (λ (k : ℕ). put (put d 0 (length g) g) k (length rest) rest) z ∙ put-append d 0 g rest

-- nothing is written where nothing was begun
pub wrote_none : (w : Bool) (r : Option ℕ) (d o due t : List ℕ) → o ≡ spotted r w d 0 t → WroteIf w None d 0 due o
wrote_none true r d o due t q = tt
wrote_none false None d o due t q = q
wrote_none false (Some x) d o due t q = q

-- no room for what stands first
pub short_first : (r1 r2 : ℕ) (g rest words : List ℕ) → None ≡ spot_by r1 0 (length g) → None ≡ extent_by r1 r2 (length (g ++ rest)) (length words)
short_first r1 r2 g rest words h =
    extent_first r1 r2 (length (g ++ rest)) (length words) (omega (arith, length-append g rest, full_back r1 0 (length g) h))

pub short_second : (r1 r2 : ℕ) (image g rest : List ℕ) → None ≡ spot_by r2 0 (length g) → None ≡ extent_by r1 r2 (length image) (length (g ++ rest))
short_second r1 r2 image g rest h =
    extent_second r1 r2 (length image) (length (g ++ rest)) (omega (arith, length-append g rest, full_back r2 0 (length g) h))

-- the lengths of both, from those of what is left
pub extent_behind
    : (r1 r2 r3 r4 a b : ℕ) (r : Option Extent) (g rest h others : List ℕ) → r3 ≡ r1 → r4 ≡ r2 → Some a ≡ spot_by r1 0 (length g) → Some b ≡ spot_by r2 0 (length h)
    → r ≡ extent_by r3 r4 (a + length rest) (b + length others) → r ≡ extent_by r1 r2 (length (g ++ rest)) (length (h ++ others))
extent_behind r1 r2 r3 r4 a b r g rest h others e f p q z =
    let x : a ≡ length g = omega (arith, (at_back r1 0 (length g) a p).0) in
    let y : b ≡ length h = omega (arith, (at_back r2 0 (length h) b q).0) in
    rw (length-append g rest, length-append h others, ← e, ← f, ← x, ← y) z

-- the first line is accepted as such: it, and what is left behind it
module _ (t : List ℕ) (k n : ℕ) (w : Turn t k n) where
  pub image-first : (i : Image) → image_builder.first (take k t) ≡ admits i → salvaged_text t ≡ take n t ++ image_at t (fresh i) n
  unfolding salvaged_text salvage_of image_of is_added fates_of chosen_by text_of image_left
  image-first i e =
      let q : image_builder.first (line_of w.piece) ≡ admits i = ap image_builder.first w.line ∙ e in
      rw (w.pieces, q, w.bytes)

  -- as the code lends the line
  pub image-first_as : (i : Image) → image_builder.first (take k t) ≡ admits i → salvaged_text t ≡ take (n - 0) (drop 0 t) ++ image_at t (fresh i) n
  image-first_as i e =
      let z : n ≡ n - 0 = omega arith in
      image-first i e ∙ ap (λ (m : ℕ). take m t ++ image_at t (fresh i) n) z

  pub words-first : (i : Image) → image_builder.first (take k t) ≡ admits i → reported_text t ≡ report_at t 1 (fresh i) n
  unfolding reported_text report_of is_added fates_of listed report_left
  words-first i e =
      let q : image_builder.first (line_of w.piece) ≡ admits i = ap image_builder.first w.line ∙ e in
      rw (w.pieces, q)

  -- it is not: the added line, and all lines behind it
  pub image-added : (x : ℕ) → image_builder.first (take k t) ≡ denies x → salvaged_text t ≡ (added_line ++ (10 ∷ [])) ++ image_at t (fresh no_image) 0
  unfolding salvaged_text salvage_of image_of is_added fates_of text_of image_left
  image-added x e =
      let q : image_builder.first (line_of w.piece) ≡ denies x = ap image_builder.first w.line ∙ e in
      rw (w.pieces, q)

  pub words-added : (x : ℕ) → image_builder.first (take k t) ≡ denies x → reported_text t ≡ notice_text added ++ report_at t 0 (fresh no_image) 0
  unfolding reported_text report_of is_added fates_of report_text report_left
  words-added x e =
      let q : image_builder.first (line_of w.piece) ≡ denies x = ap image_builder.first w.line ∙ e in
      rw (w.pieces, q)

-- of nothing, the added line alone
pub image_nothing : salvaged_text [] ≡ (added_line ++ (10 ∷ [])) ++ image_at [] (fresh no_image) 0
unfolding salvaged_text salvage_of image_of is_added fates_of chosen_by pieces_of text_of image_left fates_from
image_nothing = refl

pub words_nothing : reported_text [] ≡ notice_text added ++ report_at [] 0 (fresh no_image) 0
unfolding reported_text report_of is_added fates_of pieces_of report_text report_left fates_from listed
words_nothing = refl

-- a buffer that is zeroed whole
pub zeroed : (n : ℕ) (d : List ℕ) → length d ≡ n → put d 0 n (replicate n 0) ≡ replicate n 0
zeroed n d e =
    let v : List ℕ = replicate n 0 in
    let z : length v ≡ n = length-replicate n 0 in
    put-split d 0 n v (omega arith) (omega (arith, z))
    ∙ ap (λ (l : List ℕ). l ++ drop (0 + n) d) (take_all n v (omega (arith, z)))
    ∙ (let y : length d ≤ 0 + n = omega arith in ap (λ (l : List ℕ). v ++ l) (drop_of_length-le d y))
    ∙ append-nil v

-- what the code finds of the first line
module _ (c : Card) (a l : List ℕ) (start : imaged c a ≡ no_image) (x : Added) (a' : List ℕ)
    (card : x ≡ (image_step true c a l).added) (arena : a' ≡ (image_step true c a l).arena) where
  pub judged_done : x.answer ≡ Ok tt → image_builder.first l ≡ admits (imaged x.card a')
  unfolding line_ruled
  judged_done h =
      ap (λ (i : Image). line_ruled true i l) (sym start)
      ∙ rw (card, arena) (ap (λ (y : Result Unit Refusal). ruling_by y (imaged (image_step true c a l).added.card (image_step true c a l).arena)) (rw card at h))

  pub judged_refused : (r : Refusal) → x.answer ≡ Err r → (image_builder.first l ≡ denies (refusal_number r)) × (imaged c a' ≡ no_image)
  unfolding line_ruled
  judged_refused r h =
      let k = refused_leaves true c a l r (rw card at h) in (
        ap (λ (i : Image). line_ruled true i l) (sym start)
            ∙ ap (λ (y : Result Unit Refusal). ruling_by y (imaged (image_step true c a l).added.card (image_step true c a l).arena)) (rw card at h),
        ap (imaged c) (arena ∙ k.1) ∙ start,
      )

-- an empty line is no first line
done-some : (c : Card) (a l : List ℕ) → (image_step true c a l).added.answer ≡ Ok tt → 1 ≤ length l
unfolding image_step image_line first_line split joins form named same_bytes
done-some c a [] h = absurd (no_refusal_lem h)
  where
    no_refusal_lem : {r : Refusal} → ◌≡◌ {A = Result Unit Refusal} (Err r) (Ok tt) → ⊥
    no_refusal_lem e = false≢true (ap is_done e)
      where
        is_done : Result Unit Refusal → Bool
        is_done (Ok tt) = true
        is_done (Err r) = false
done-some c a (y ∷ l) h = omega arith

-- as the code lends it
pub first_some
    : (c : Card) (a t : List ℕ) (k : ℕ) (x : Added) → x ≡ (image_step true c a (take (k - 0) (drop 0 t))).added → x.answer ≡ Ok tt → 1 ≤ k
first_some c a t k x e h =
    let d = done-some c a (take (k - 0) (drop 0 t)) (sym (ap (λ (y : Added). y.answer) e) ∙ h) in
    omega (arith, simp length-take at d)

-- the added line, whether there are lines or not
module _ (t : List ℕ) (end next : ℕ) (e : end ≡ 0 + index_of 10 (slice 0 (length t) t)) (f : end ≤ length t)
    (g : next ≡ cond (ltb end (length t)) (end + 1) end) where
  pub turn_first : 1 ≤ length t → Turn t (end - 0) next
  turn_first h = let z : next - 0 ≡ next = omega arith in rw z at (turn_at t 0 end next h e f g).0

  pub within-behind : (end ≤ next) × (next ≤ length t)
  within-behind =
      elim (dec_lt end (length t)) [
        | yes q ↦ let n : next ≡ end + 1 = rw (lt-ltb end (length t) q) at g in (omega arith, omega arith)
        | no q ↦ let n : next ≡ end = rw (le-ltb end (length t) (omega (arith, q))) at g in (omega arith, omega arith)
      ]

  pub image-all
      : (x : ℕ) (i : Image) → i ≡ no_image → image_builder.first (take (end - 0) t) ≡ denies x
      → (salvaged_text t ≡ (added_line ++ (10 ∷ [])) ++ image_at t (fresh i) 0) × (reported_text t ≡ notice_text added ++ report_at t 0 (fresh i) 0)
  image-all x i z q =
      elim (dec_lt 0 (length t)) [
        | yes h ↦ rw z (image-added t (end - 0) next (turn_first h) x q, words-added t (end - 0) next (turn_first h) x q)
        | no h ↦ rw (z, empty t (omega (arith, h))) (image_nothing, words_nothing)
      ]
    where
      empty : (l : List ℕ) → length l ≡ 0 → l ≡ []
      empty [] e = refl
      empty (y ∷ l) e = absurd (omega arith)

-- after the second pass
is_short : Option Extent → Bool
is_short None = true
is_short (Some extent) = false

pub landed
    : (r : Option Extent) (x y : ℕ) (o o' o'' t : List ℕ) → r ≡ both_fit x y → o' ≡ o → WroteIf true r o' 0 t o'' → o'' ≡ landed_by r o t
unfolding is_short
landed None x y o o' o'' t e q h = absurd (false≢true (sym (ap is_short e)))
landed (Some extent) x y o o' o'' t e q h = h ∙ ap (λ (l : List ℕ). put l 0 (length t) t) q

pub same_extent
    : (r : Option Extent) (o o' p p' : List ℕ) (a b : ℕ) → o' ≡ o → p' ≡ p → r ≡ extent_by (length o') (length p') a b → r ≡ extent_by (length o) (length p) a b
same_extent r o o' p p' a b e f h =
    h ∙ ap (λ (l : List ℕ). extent_by (length l) (length p') a b) e ∙ ap (λ (l : List ℕ). extent_by (length o) (length l) a b) f

-- and finds room where the first did
pub same_fits
    : (r q : Option Extent) (o o' p p' : List ℕ) (a b x y : ℕ) → o' ≡ o → p' ≡ p → r ≡ extent_by (length o') (length p') a b
    → q ≡ extent_by (length o) (length p) a b → q ≡ both_fit x y → r ≡ both_fit x y
same_fits r q o o' p p' a b x y e f h g k = same_extent r o o' p p' a b e f h ∙ sym g ∙ k

pub landed_short : (r : Option Extent) (o o' due : List ℕ) → r ≡ None → o' ≡ o → o' ≡ landed_by r o due
unfolding is_short
landed_short None o o' due e q = q
landed_short (Some extent) o o' due e q = absurd (false≢true (ap is_short e))
