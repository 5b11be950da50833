-- What comes of a line, by what it asks. Assumes nothing.
use Rattle.std.proofs.Common.{Option, Some, None}
use Prim.Native.Nat.{ℕ, ◌+◌, ◌-◌, ◌*◌, ◌≤◌}
use native.Mathlib.Omega.{arith}
use native.Mathlib.Nat.{sub-zero}
use mathlib.Core.Path.{◌≡◌, refl, sym, ap, ◌∙◌}
use mathlib.Core.Bool.{Bool}
use mathlib.Core.List.{List, [], ◌++◌}
use lib.ListN.{length, take, drop}
use Rattle.answers.specs.declared.refusal.Refusal.TheVariants.{MalformedRequest}
use Rattle.byte_parts.specs.Part.{put}
use Rattle.byte_parts.proofs.Part.{put_zero}
use Rattle.text_fields.proofs.FieldLaws.{field_long, fields_long}
use Rattle.text_numbers.proofs.HexLaws.{length-unhex}
use Rattle.card_build.specs.declared.card.Card.{Card}
use Rattle.request_plan.specs.declared.Reply.{Reply}
use Rattle.request_plan.specs.declared.Reply.TheVariants.{Refused}
use Rattle.request_plan.specs.Request.{read_request, write_request}
use Rattle.request_plan.specs.Serve.{Served, serve, length_read, output_after, staging_by}
use Rattle.request_plan.proofs.ReadLaws.{read-said, write_read}
use Rattle.request_plan.proofs.Codes.{cut}
use Rattle.line_fields.specs.Fields.{field_in}
use Rattle.line_request.specs.declared.Ask.{Ask}
use Rattle.line_request.specs.declared.Ask.TheVariants.{Read, Write}
use Rattle.line_request.specs.Ask.{ask_of}
use Rattle.line_request.proofs.Asking.{Fields}
use Rattle.line_serve.specs.Line.{codes_in, list_in, data_in, outcome_of, ask_served, line_served, work_by, work_after, spelled_by, spelled_after}
use Rattle.line_serve.proofs.Parts.{front_put, both, first, second}

module _ {line : List ℕ} (f : Fields line) {room : ℕ} (h : 16384 ≤ room) where
  -- There is room for a list.
  pub list-room : 0 + length (list_in line) ≤ room
  list-room = omega (arith, f.long, field_long 9 line 4, length-unhex (field_in line 4))

  -- And for data after it.
  pub data_room : 0 + length (list_in line) + length (data_in line) ≤ room
  data_room =
      omega (arith, f.long, fields_long 9 line 4 5 (λ e. omega arith), length-unhex (field_in line 4), length-unhex (field_in line 5))

-- The codes as they are lent.
lent : (n : ℕ) (codes seventeen : List ℕ) → take n codes ≡ seventeen → take (n - 0) (drop 0 codes) ≡ seventeen
lent n codes seventeen d = rw (sub-zero n) d

-- The bytes read are few, and stand at the front of the buffer.
pub record Shown (work after : List ℕ) (x : Served) : Type 0 where
  pub room : length x.read ≤ length work
  pub most : length x.read ≤ 8192
  pub front : take (length x.read) after ≡ x.read

module _ (card : Card) (arena work line : List ℕ) where
  -- a malformed line
  pub malformed
      : (bytes : List ℕ) → ask_of line ≡ None → let s = line_served card arena (length work) line in
      (Refused MalformedRequest ≡ s.reply)
      × ((arena ≡ s.arena) × ((work ≡ work_after card arena work line) × (bytes ≡ spelled_after bytes line)))
  unfolding line_served work_after spelled_after
  malformed bytes k = rw k (refl, (refl, (refl, sym (put_zero bytes 0 []))))

  module _ {«open» : Bool} {count : ℕ} where
    -- a read, which any seventeen codes decide
    read-served
        : ask_of line ≡ Some (Read «open» count)
        → serve card arena (read_request «open» (take 17 (codes_in line)) count (list_in line) (length work)) ≡ line_served card arena (length work) line
    unfolding line_served
    read-served k = rw k (cut card arena (read_request «open» [] count (list_in line) (length work)) (codes_in line))

    -- a write
    write-served
        : ask_of line ≡ Some (Write «open» count)
        → serve card arena (write_request «open» (take 17 (codes_in line)) count (list_in line) (data_in line) (length work))
        ≡ line_served card arena (length work) line
    unfolding line_served
    write-served k = rw k (cut card arena (write_request «open» [] count (list_in line) (data_in line) (length work)) (codes_in line))

    module _ (n : ℕ) (codes : List ℕ) (d : take n codes ≡ take 17 (codes_in line)) where
      -- a read that is carried out
      pub read-line
          : ask_of line ≡ Some (Read «open» count) → (bytes : List ℕ) → 0 + length (list_in line) ≤ length bytes
          → {end : ℕ} {b new : List ℕ} {x : Reply} → end ≡ 0 + length (list_in line) → b ≡ put bytes 0 (length (list_in line)) (list_in line)
          → let s = serve card arena (read_request «open» (take (n - 0) (drop 0 codes)) count (take (end - 0) (drop 0 b)) (length work)) in
          x ≡ s.reply → new ≡ output_after work s
          → (x ≡ (line_served card arena (length work) line).reply) × ((new ≡ work_after card arena work line) × (b ≡ spelled_after bytes line))
      unfolding work_after spelled_after
      read-line k bytes h {end} {b} e p r o =
          let m : end - 0 ≡ length (list_in line) = omega arith in
          let l : take (end - 0) (drop 0 b) ≡ list_in line = rw (m, p) (front_put bytes (list_in line) (omega arith)) in
          let d = lent n codes (take 17 (codes_in line)) d in
          rw k (rw (d, l, read-served k) at r, (rw (d, l, read-served k) at o, p))

      -- a write that is carried out
      pub write-line
          : ask_of line ≡ Some (Write «open» count) → (bytes : List ℕ) → 0 + length (list_in line) + length (data_in line) ≤ length bytes
          → {end last : ℕ} {a b after new : List ℕ} {x : Reply}
          → end ≡ 0 + length (list_in line) → last ≡ end + length (data_in line)
          → a ≡ put bytes 0 (length (list_in line)) (list_in line) → b ≡ put a end (length (data_in line)) (data_in line)
          → let s = serve card arena (write_request «open» (take (n - 0) (drop 0 codes)) count (take (end - 0) (drop 0 b)) (take (last - end) (drop end b)) (length work)) in
          x ≡ s.reply → after ≡ s.arena → new ≡ staging_by x (16 * card.used) work
          → (x ≡ (line_served card arena (length work) line).reply)
          × ((after ≡ (line_served card arena (length work) line).arena)
          × ((new ≡ work_after card arena work line) × (b ≡ spelled_after bytes line)))
      unfolding work_after spelled_after
      write-line k bytes h e f p q r o w =
          let l = first bytes (list_in line) (data_in line) h e f p q in
          let m = second bytes (list_in line) (data_in line) h e f p q in
          let d = lent n codes (take 17 (codes_in line)) d in
          let y = rw (d, l, m, write-served k) at r in
          rw k (y, (rw (d, l, m, write-served k) at o, (rw y at w, both bytes (list_in line) (data_in line) h e f p q)))

    -- it leaves the arena
    pub read_kept : length card.nodes ≡ 64 → ask_of line ≡ Some (Read «open» count) → arena ≡ (line_served card arena (length work) line).arena
    unfolding line_served
    read_kept h k = rw k (sym (read-said card arena «open» (codes_in line) count (list_in line) (length work) h).kept)

  module _ (h : length card.nodes ≡ 64) where
    -- by what the line asks
    shown_by
        : (k : Option Ask)
        → Shown work (work_by (16 * card.used) work (ask_served card arena (length work) line k) k) (ask_served card arena (length work) line k)
    shown_by None = record { room = omega arith; most = omega arith; front = refl }
    shown_by (Some (Read «open» count)) =
        let s = read-said card arena «open» (codes_in line) count (list_in line) (length work) h in
        record {
          room = s.room;
          most = s.most;
          front = front_put work (ask_served card arena (length work) line (Some (Read «open» count))).read s.room;
        }
    shown_by (Some (Write «open» count)) =
        let e = write_read card arena «open» (codes_in line) count (list_in line) (data_in line) (length work) in
        let n = ap length e in
        record { room = omega arith; most = omega arith; front = rw e refl }

    -- the bytes read by any line
    pub shown : Shown work (work_after card arena work line) (line_served card arena (length work) line)
    unfolding line_served work_after
    shown = shown_by (ask_of line)

    -- as they are lent
    pub read-part
        : {n : ℕ} {after : List ℕ} → n ≡ length (line_served card arena (length work) line).read → after ≡ work_after card arena work line
        → take (n - 0) (drop 0 after) ≡ (line_served card arena (length work) line).read
    read-part {n} e p = rw (sub-zero n, e, p) shown.front

-- what is told of a line
outcome_line : (s : Served) {x : Reply} {n : ℕ} → x ≡ s.reply → n ≡ length s.read → record { reply = x; read = n } ≡ outcome_of s
outcome_line s e f = λ i. record { reply = e i; read = f i }

module _ (card : Card) (arena line : List ℕ) (room : ℕ) where
  -- What is told of a malformed line.
  pub malformed_outcome : ask_of line ≡ None → record { reply = Refused MalformedRequest; read = 0 } ≡ outcome_of (line_served card arena room line)
  unfolding line_served
  malformed_outcome k = rw k refl

  module _ {«open» : Bool} {count : ℕ} where
    -- how many bytes a read puts out
    read_count : length card.nodes ≡ 64 → ask_of line ≡ Some (Read «open» count)
        → length_read (line_served card arena room line).reply count ≡ length (line_served card arena room line).read
    unfolding line_served
    read_count h k = rw k (sym (read-said card arena «open» (codes_in line) count (list_in line) room h).long)

    -- Of a read.
    pub read_outcome
        : length card.nodes ≡ 64 → ask_of line ≡ Some (Read «open» count) → {x : Reply} {n : ℕ} → x ≡ (line_served card arena room line).reply → n ≡ length_read x count
        → record { reply = x; read = n } ≡ outcome_of (line_served card arena room line)
    read_outcome h k e f = outcome_line (line_served card arena room line) e (f ∙ ap (λ (y : Reply). length_read y count) e ∙ read_count h k)

    -- a write puts out none
    write-count : ask_of line ≡ Some (Write «open» count) → 0 ≡ length (line_served card arena room line).read
    unfolding line_served
    write-count k = rw k (sym (ap length (write_read card arena «open» (codes_in line) count (list_in line) (data_in line) room)))

    -- Of a write.
    pub write_outcome
        : ask_of line ≡ Some (Write «open» count) → {x : Reply} → x ≡ (line_served card arena room line).reply
        → record { reply = x; read = 0 } ≡ outcome_of (line_served card arena room line)
    write_outcome k e = outcome_line (line_served card arena room line) e (write-count k)
