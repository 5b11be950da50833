-- Laws of the board's records, one after the other. Assumes nothing.
use Prim.Native.Nat.{ℕ, zero, suc, ◌+◌, ◌-◌, ◌*◌, ◌≤◌}
use native.Mathlib.Omega.{arith}
use native.Mathlib.Numerals.{add-one}
use mathlib.Core.Path.{◌≡◌, refl, sym, ap, ◌∙◌}
use mathlib.Core.List.{List, [], ◌∷◌, ◌++◌, append-nil, append_assoc}
use lib.ListN.{length, take, replicate, length-append, length-replicate, set}
use lib.Seq.{length-take-le, take-append-add}
use Rattle.byte_parts.specs.Part.{put, padded}
use Rattle.byte_parts.proofs.Put.{put_two, put-append}
use Rattle.board_lanes.specs.Board.{Lane, empty, filled, block_at, lane_of, lanes_from}
use Rattle.board_lanes.specs.Records.{lane_head, lane_record, lanes_records}
use Rattle.board_lanes.proofs.LaneLaws.{lanes-more, lanes_count}

-- One record more.
record_more : (ls : List Lane) (l : Lane) → lanes_records (ls ++ (l ∷ [])) ≡ lanes_records ls ++ lane_record l
unfolding lanes_records
record_more [] l = append-nil (lane_record l)
record_more (x ∷ ls) l = rw (record_more ls l) (sym (append_assoc (lane_record x) (lanes_records ls) (lane_record l)))

records-more
    : (bytes : List ℕ) (k : ℕ)
    → lanes_records (lanes_from bytes (k + 1) 0) ≡ lanes_records (lanes_from bytes k 0) ++ lane_record (lane_of (block_at bytes k))
records-more bytes k =
    let z : 0 + k ≡ k = omega arith in
    ap (λ (n : ℕ). lanes_records (lanes_from bytes n 0)) (add-one k)
    ∙ ap lanes_records (lanes-more bytes k 0)
    ∙ record_more (lanes_from bytes k 0) (lane_of (block_at bytes (0 + k)))
    ∙ rw z

-- Four bytes, stored one by one.
pub put_four
    : (d : List ℕ) (at x y z w : ℕ)
    → set (set (set (set d at x) (at + 1) y) (at + 2) z) (at + 3) w ≡ put d at 4 (x ∷ y ∷ z ∷ w ∷ [])
put_four d at x y z w =
    let e : at + 3 ≡ at + 2 + 1 = omega arith in
    rw (e, put_two d at x y, put_two (put d at 2 (x ∷ y ∷ [])) (at + 2) z w) (put-append d at (x ∷ y ∷ []) (z ∷ w ∷ []))

-- Some of so many zeros.
fewer : (m n : ℕ) → m ≤ n → take {A = ℕ} m (replicate n 0) ≡ replicate m 0
fewer zero n g = refl
fewer (suc m) zero g = absurd (omega arith)
fewer (suc m) (suc n) g = ap (λ (r : List ℕ). 0 ∷ r) (fewer m n (omega arith))

-- A crew at its fixed length: then zeros.
padded_crew : (t : List ℕ) → length t ≤ 12 → padded 12 t ≡ t ++ replicate (12 - length t) 0
unfolding padded
padded_crew t h =
    let e : 12 ≡ length t + (12 - length t) = omega arith in
    ap (λ (n : ℕ). take n (t ++ replicate 12 0)) e
    ∙ take-append-add t (replicate 12 0) (12 - length t)
    ∙ ap (λ (r : List ℕ). t ++ r) (fewer (12 - length t) 12 (omega arith))

-- A record has sixteen bytes.
padded-long : (t : List ℕ) → length (padded 12 t) ≡ 12
unfolding padded
padded-long t = length-take-le 12 (t ++ replicate 12 0) (omega (arith, length-append t (replicate 12 0)))

record_long : (l : Lane) → length (lane_record l) ≡ 16
record_long empty = refl
record_long (filled race crew) = omega (arith, length-append (lane_head race crew) (padded 12 crew), padded-long crew)

records-long : (ls : List Lane) → length (lanes_records ls) ≡ 16 * length ls
unfolding lanes_records
records-long [] = refl
records-long (l ∷ ls) = omega (arith, length-append (lane_record l) (lanes_records ls), record_long l, records-long ls)

-- A filled lane's record, put in three pieces.
pub filled_record
    : (d : List ℕ) (at race : ℕ) (crew : List ℕ) {d1 d2 d3 : List ℕ} → length crew ≤ 12
    → d1 ≡ put d at 4 (lane_head race crew) → d2 ≡ put d1 (at + 4) (length crew) crew
    → d3 ≡ put d2 (at + 4 + length crew) (12 - length crew) (replicate (12 - length crew) 0)
    → d3 ≡ put d at 16 (lane_head race crew ++ padded 12 crew)
filled_record d at race crew {d1} {d2} {d3} most p q r =
    let h = lane_head race crew in
    let z = replicate {A = ℕ} (12 - length crew) 0 in
    let n : length z ≡ 12 - length crew = length-replicate (12 - length crew) 0 in
    let a : at + 4 + length crew ≡ at + length (h ++ crew) = omega (arith, length-append h crew) in
    let two : d2 ≡ put d at (length (h ++ crew)) (h ++ crew) = q ∙ rw p (put-append d at h crew) in
    let three : d3 ≡ put d at (length (h ++ crew ++ z)) (h ++ crew ++ z) = r ∙ rw (two, a) (rw n at (put-append d at (h ++ crew) z)) in
    let t : h ++ crew ++ z ≡ h ++ padded 12 crew = append_assoc h crew z ∙ ap (λ (x : List ℕ). h ++ x) (sym (padded_crew crew most)) in
    three ∙ ap (λ (x : List ℕ). put d at (length x) x) t ∙ ap (λ (k : ℕ). put d at k (h ++ padded 12 crew)) (record_long (filled race crew))

-- The records so far, and one more behind them.
pub records-put
    : (d bytes : List ℕ) (k : ℕ) {e f : List ℕ} → e ≡ put d 0 (16 * k) (lanes_records (lanes_from bytes k 0))
    → f ≡ put e (16 * k) 16 (lane_record (lane_of (block_at bytes k))) → f ≡ put d 0 (16 * (k + 1)) (lanes_records (lanes_from bytes (k + 1) 0))
records-put d bytes k p q =
    let t = lanes_records (lanes_from bytes k 0) in
    let u = lane_record (lane_of (block_at bytes k)) in
    let n : 16 * k ≡ length t = omega (arith, records-long (lanes_from bytes k 0), lanes_count bytes k 0) in
    let z : 16 * k ≡ 0 + length t = omega (arith, n) in
    let m : 16 ≡ length u = sym (record_long (lane_of (block_at bytes k))) in
    let l : length (t ++ u) ≡ 16 * (k + 1) = omega (arith, length-append t u, n, m) in
    q
    ∙ ap (λ (x : List ℕ). put x (16 * k) 16 u) (p ∙ ap (λ (j : ℕ). put d 0 j t) n)
    ∙ ap (λ (j : ℕ). put (put d 0 (length t) t) j 16 u) z
    ∙ ap (λ (j : ℕ). put (put d 0 (length t) t) (0 + length t) j u) m
    ∙ put-append d 0 t u
    ∙ ap (λ (j : ℕ). put d 0 j (t ++ u)) l
    ∙ ap (put d 0 (16 * (k + 1))) (sym (records-more bytes k))
