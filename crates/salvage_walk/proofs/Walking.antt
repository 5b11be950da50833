-- What holds at each line of a walk: what was due is what is done and what is left. Assumes nothing.
use Rattle.std.proofs.Common.{Option, Some, None}
use Prim.Native.Nat.{ℕ, ◌+◌, ◌-◌, ◌≤◌, ◌<◌}
use native.Mathlib.Omega.{arith}
use native.Mathlib.Decide.{dec_lt}
use mathlib.Core.Path.{◌≡◌, refl, sym, ap, ◌∙◌}
use mathlib.Core.Bool.{Bool, true, false, cond, false≢true}
use mathlib.Core.List.{List, [], ◌++◌}
use lib.Dec.{ltb}
use lib.ListN.{length, take, drop, length-append, length-drop}
use lib.Seq.{take_all, drop-drop}
use borrow.Author.Tests.{lt-ltb, le-ltb}
use Rattle.byte_scan.specs.Bytes.{index_of, slice}
use Rattle.byte_parts.proofs.Part.{length-put}
use Rattle.salvage_rule.specs.declared.Fate.{Fate}
use Rattle.salvage_rule.specs.Salvage.{Between, fate_of, stepped}
use Rattle.salvage_line.specs.Image.{Image, image_builder}
use Rattle.salvage_print.specs.Print.{said_of, gain_of, spot_by, put_if, spotted}
use Rattle.salvage_print.proofs.Spots.{full_back, at_back}
use Rattle.salvage_print.proofs.Turns.{Turn, turn_lf, turn_end, image_turn, report_turn, put_turn, image-none, report-none, put-none}
use Rattle.salvage_walk.specs.Walk.{image_at, report_at, extent_by, WroteIf}
use Rattle.salvage_walk.proofs.Extents.{extent_first, extent_second, wrote_short}

-- from a start (image and report due, and the buffers as they were) to a place
pub record Walking (text due words : List ℕ) (write : Bool) (out₀ : List ℕ) (image : ℕ) (report₀ : List ℕ) (said : ℕ) (s : Between Image) (out report : List ℕ) (at passed made told : ℕ) : Type 0 where
  pub within : at ≤ length text
  pub counted : passed ≤ at
  pub room : made ≤ length out
  pub space : told ≤ length report
  pub out_long : length out ≡ length out₀
  pub report-long : length report ≡ length report₀
  pub size : image + length due ≡ made + length (image_at text s at)
  pub talk : said + length words ≡ told + length (report_at text passed s at)
  pub image_due : put_if write out₀ image due ≡ put_if write out made (image_at text s at)
  pub report_due : put_if write report₀ said words ≡ put_if write report told (report_at text passed s at)

-- a walk that stops where so much stands in its buffers: there is no room, and nothing was written where it only counts
abbrev pub Stops : Bool → List ℕ → ℕ → List ℕ → List ℕ → List ℕ → ℕ → List ℕ → List ℕ → Type 0
Stops write out₀ image due out report₀ said words report =
    (None ≡ extent_by (length out₀) (length report₀) (image + length due) (said + length words))
    × (WroteIf write None out₀ image due out × WroteIf write None report₀ said words report)

-- what becomes of a walk at a line of which so many bytes go into image and report: one of them has no room, or it goes on behind the line
pub record AtLine (text due words : List ℕ) (write : Bool) (out₀ : List ℕ) (image : ℕ) (report₀ : List ℕ) (said : ℕ) (s : Between Image) (out report : List ℕ) (gain word : List ℕ) (next passed made told : ℕ) : Type 0 where
  pub no_image_lem
      : (x : Option ℕ) (o : List ℕ) → x ≡ None → x ≡ spot_by (length out) made (length gain) → o ≡ spotted x write out made gain
      → Stops write out₀ image due o report₀ said words report
  pub no_report
      : (x y : Option ℕ) (o p : List ℕ) → o ≡ spotted x write out made gain → y ≡ None → y ≡ spot_by (length report) told (length word)
      → p ≡ spotted y write report told word → Stops write out₀ image due o report₀ said words p
  pub on
      : (x y : Option ℕ) (o p : List ℕ) (m n : ℕ) → x ≡ Some m → x ≡ spot_by (length out) made (length gain) → o ≡ spotted x write out made gain
      → y ≡ Some n → y ≡ spot_by (length report) told (length word) → p ≡ spotted y write report told word
      → Walking text due words write out₀ image report₀ said s o p next (passed + 1) m n

-- what a walk that only counts has left as it was
left_alone : (write : Bool) (out₀ out : List ℕ) (image made : ℕ) (due left : List ℕ) → put_if write out₀ image due ≡ put_if write out made left → write ≡ false → out ≡ out₀
left_alone false out₀ out image made due left e h = sym e
left_alone true out₀ out image made due left e h = absurd (false≢true (sym h))

-- and so have the puts of a line
left_still
    : (r : Option ℕ) (write : Bool) (out₀ out out' : List ℕ) (made : ℕ) (t : List ℕ) → (write ≡ false → out ≡ out₀) → out' ≡ spotted r write out made t
    → write ≡ false → out' ≡ out₀
left_still None write out₀ out out' made t e q h = q ∙ e h
left_still (Some x) false out₀ out out' made t e q h = q ∙ e h
left_still (Some x) true out₀ out out' made t e q h = absurd (false≢true (sym h))

-- the piece at a place, as the code finds it
module _ (text : List ℕ) (at end next : ℕ) (h : at < length text) (e : end ≡ at + index_of 10 (slice at (length text) text)) (f : end ≤ length text)
    (g : next ≡ cond (ltb end (length text)) (end + 1) end) where
  found : end - at ≡ index_of 10 (drop at text)
  unfolding slice
  found = let q : end ≡ at + index_of 10 (drop at text) = rw (take_all (length text) text (omega arith)) at e in omega arith

  long : length (drop at text) ≡ length text - at
  long = length-drop at text

  abbrev pub Found : Type 0
  Found = Turn (drop at text) (end - at) (next - at) × (at < next) × (next ≤ length text)

  pub turn_at : Found
  turn_at =
      elim (dec_lt end (length text)) [
        | yes q ↦
            let n : next ≡ end + 1 = rw (lt-ltb end (length text) q) at g in
            let k : next - at ≡ end - at + 1 = omega (arith, e) in
            (rw k (turn_lf (drop at text) (end - at) found (omega (arith, long, e))), omega (arith, e), omega arith)
        | no q ↦
            let m : length text ≤ end = omega (arith, q) in
            let n : next ≡ end = rw (le-ltb end (length text) m) at g in
            let k : next - at ≡ end - at = omega arith in
            (rw k (turn_end (drop at text) (end - at) found (omega (arith, long)) (omega (arith, long)) (omega (arith, long))), omega arith, omega arith)
      ]

long_if : (w : Bool) (d : List ℕ) (at : ℕ) (t : List ℕ) → length (put_if w d at t) ≡ length d
long_if true d at t = length-put d at (length t) t
long_if false d at t = refl

-- one line further
module _ (text : List ℕ) (at k n : ℕ) (w : Turn (drop at text) k n) (within : at + n ≤ length text) (some : 1 ≤ n)
    (s s' : Between Image) (f : Fate) (fate : f ≡ fate_of image_builder s (take k (drop at text))) (state : s' ≡ stepped image_builder s (take k (drop at text))) where
  abbrev gain : List ℕ
  gain = gain_of f (take n (drop at text))

  abbrev rest : List ℕ
  rest = image_at text s' (at + n)

  next-drop : drop n (drop at text) ≡ drop (at + n) text
  next-drop = drop-drop n at text

  image_here : image_at text s at ≡ gain ++ rest
  image_here = rw (fate, state, ← next-drop) (image_turn image_builder s (drop at text) k n w)

  report_here : (m : ℕ) → report_at text m s at ≡ said_of (m + 1) f ++ report_at text (m + 1) s' (at + n)
  report_here m = rw (fate, state, ← next-drop) (report_turn image_builder s (drop at text) k n w m)

  module _ (write : Bool) (due words out₀ report₀ out report : List ℕ) (image said passed made told : ℕ)
      (i : Walking text due words write out₀ image report₀ said s out report at passed made told) where
    abbrev word : List ℕ
    word = said_of (passed + 1) f

    abbrev others : List ℕ
    others = report_at text (passed + 1) s' (at + n)

    image-long : length (image_at text s at) ≡ length gain + length rest
    image-long = ap length image_here ∙ length-append gain rest

    report-long : length (report_at text passed s at) ≡ length word + length others
    report-long = ap length (report_here passed) ∙ length-append word others

    -- no room for this line is no room for all
    short_image : None ≡ spot_by (length out) made (length gain) → length out₀ < image + length due
    short_image h = omega (arith, i.size, i.out_long, image-long, full_back (length out) made (length gain) h)

    short_report : None ≡ spot_by (length report) told (length word) → length report₀ < said + length words
    short_report h = omega (arith, i.talk, i.report-long, report-long, full_back (length report) told (length word) h)

    -- the image further by the line's bytes or none, the report by its entry or none
    advance
        : (made' told' : ℕ) → Some made' ≡ spot_by (length out) made (length gain) → Some told' ≡ spot_by (length report) told (length word)
        → Walking text due words write out₀ image report₀ said s' (put_if write out made gain) (put_if write report told word) (at + n) (passed + 1) made' told'
    advance made' told' h g =
        let x = at_back (length out) made (length gain) made' h in
        let y = at_back (length report) told (length word) told' g in
        let p = long_if write out made gain in
        let q = long_if write report told word in
        record {
          within = within;
          counted = omega (arith, i.counted, some);
          room = omega (arith, p, x.0, x.1);
          space = omega (arith, q, y.0, y.1);
          out_long = p ∙ i.out_long;
          report-long = q ∙ i.report-long;
          size = omega (arith, i.size, image-long, x.0);
          talk = omega (arith, i.talk, report-long, y.0);
          image_due =
              i.image_due ∙ ap (λ (l : List ℕ). put_if write out made l) image_here ∙ put_turn write out made gain rest
              ∙ ap (λ (m : ℕ). put_if write (put_if write out made gain) m rest) (sym x.0);
          report_due =
              i.report_due ∙ ap (λ (l : List ℕ). put_if write report told l) (report_here passed) ∙ put_turn write report told word others
              ∙ ap (λ (m : ℕ). put_if write (put_if write report told word) m others) (sym y.0);
        }

    -- the three ways on, as the code has them
    pub at_line : (next : ℕ) → at + n ≡ next → AtLine text due words write out₀ image report₀ said s' out report gain word next passed made told
    at_line next e =
        let still = left_alone write out₀ out image made due (image_at text s at) i.image_due in
        let quiet = left_alone write report₀ report said told words (report_at text passed s at) i.report_due in
        record {
          no_image_lem = λ x o h f g. (
            extent_first (length out₀) (length report₀) (image + length due) (said + length words) (short_image (sym h ∙ f)),
            (wrote_short write out₀ o due image (left_still x write out₀ out o made gain still g), wrote_short write report₀ report words said quiet),
          );
          no_report = λ x y o p g h f d. (
            extent_second (length out₀) (length report₀) (image + length due) (said + length words) (short_report (sym h ∙ f)),
            (
              wrote_short write out₀ o due image (left_still x write out₀ out o made gain still g),
              wrote_short write report₀ p words said (left_still y write report₀ report p told word quiet d),
            ),
          );
          on = λ x y o p m n h f g k l d.
              let u : o ≡ put_if write out made gain = g ∙ ap (λ (z : Option ℕ). spotted z write out made gain) h in
              let v : p ≡ put_if write report told word = d ∙ ap (λ (z : Option ℕ). spotted z write report told word) k in
              rw (u, v, ← e) (advance m n (sym h ∙ f) (sym k ∙ l));
        }

-- behind the last line nothing is left
module _ (text due words : List ℕ) (write : Bool) (out₀ : List ℕ) (image : ℕ) (report₀ : List ℕ) (said : ℕ) (s : Between Image) (out report : List ℕ) (at passed made told : ℕ)
    (i : Walking text due words write out₀ image report₀ said s out report at passed made told) (h : length text ≤ at) where
  bare : length (drop at text) ≡ 0
  bare = length-drop at text ∙ omega arith

  pub finished : (made ≡ image + length due) × (told ≡ said + length words) × (put_if write out₀ image due ≡ out) × (put_if write report₀ said words ≡ report)
  finished =
      let a : image_at text s at ≡ [] = image-none image_builder s (drop at text) bare in
      let b : report_at text passed s at ≡ [] = report-none image_builder passed s (drop at text) bare in
      let x : length (image_at text s at) ≡ 0 = ap length a in
      let y : length (report_at text passed s at) ≡ 0 = ap length b in (
        omega (arith, i.size, x),
        omega (arith, i.talk, y),
        i.image_due ∙ put-none write out made (image_at text s at) a,
        i.report_due ∙ put-none write report told (report_at text passed s at) b,
      )

-- ahead of the first all is left
pub begun
    : (text : List ℕ) (write : Bool) (out : List ℕ) (image : ℕ) (report : List ℕ) (said : ℕ) (s : Between Image) (at passed : ℕ)
    → at ≤ length text → passed ≤ at → image ≤ length out → said ≤ length report
    → Walking text (image_at text s at) (report_at text passed s at) write out image report said s out report at passed image said
begun text write out image report said s at passed a b c d =
    record {
      within = a;
      counted = b;
      room = c;
      space = d;
      out_long = refl;
      report-long = refl;
      size = refl;
      talk = refl;
      image_due = refl;
      report_due = refl;
    }
