-- One record: fields that stand are read as the node that they are of, and what reads as a node is what its fields are.
use Rattle.std.proofs.Common.{Some, None}
use mathlib.Core.Path.{◌≡◌, refl, sym, ap, ◌∙◌, subst}
use mathlib.Core.Bool.{Bool, true, false, cond}
use mathlib.Core.List.{List, [], ◌∷◌}
use Prim.Native.Nat.{ℕ, zero, suc, ◌+◌, ◌-◌, ◌*◌, ◌/◌, ◌%◌, ◌≤◌, ◌<◌, ◌^◌}
use native.Mathlib.Nat.{add-zero}
use native.Mathlib.Omega.{arith}
use native.Mathlib.Decide.{dec_lt}
use lib.Dec.{eqb}
use lib.IntN.{ℤ, pos, negsuc}
use lib.Signed.{mag}
use lib.ListN.{length, get_or}
use borrow.Author.Tests.{lt-ltb, le-ltb, le-leb, leb-true}
use Rattle.byte_parts.specs.Values.{Bytes}
use Rattle.byte_parts.specs.Word.{word_at, word_bytes, signed_of, word_of}
use Rattle.byte_parts.specs.Half.{half_bytes, half_at}
use Rattle.byte_parts.proofs.Laws.{word_fits}
use Rattle.byte_parts.proofs.Halves.{digit, small, split, half_back, half_says}
use Rattle.card_nodes.specs.declared.node.Entry.{Entry}
use Rattle.card_nodes.specs.declared.node.Entry.TheVariants.{Area, Service}
use Rattle.card_nodes.specs.declared.node.Node.{Node}
use Rattle.handset_bytes.specs.Layout.{kind_place, depth_place, code_place, start_place, blocks_place, version_place, generation_place, upper_place, lower_place}
use Rattle.handset_bytes.specs.Field.{field_of}
use Rattle.handset_bytes.specs.Node.{kind_byte, entry_fields, node_fields, entry_in, node_in, is_record}
use Rattle.handset_bytes.specs.Fits.{EntryFits, NodeFits}
use Rattle.law_bytes.proofs.Fields.{Stands, AllStand}
use Rattle.service_code.specs.Limit.{limited_to}

-- four bytes of a number, put together again
word_back : (v : ℕ) → v < 2 ^ 32 →
    v % 256 + 256 * (v / 256 % 256) + 65536 * (v / 65536 % 256) + 16777216 * (v / 16777216 % 256) ≡ v
word_back v h =
    let second : v / 256 / 256 ≡ v / 65536 = omega arith in
    let third : v / 65536 / 256 ≡ v / 16777216 = omega arith in
    let a : v ≡ v % 256 + 256 * (v / 256) = split v in
    let b : v / 256 ≡ v / 256 % 256 + 256 * (v / 65536) = rw second at (split (v / 256)) in
    let c : v / 65536 ≡ v / 65536 % 256 + 256 * (v / 16777216) = rw third at (split (v / 65536)) in
    rw (small (v / 16777216) (omega arith)) (sum v (v % 256) (v / 256 % 256) (v / 65536 % 256) (v / 16777216) a b c)
  where
    sum : (v a b c s : ℕ) {q r : ℕ} → v ≡ a + 256 * q → q ≡ b + 256 * r → r ≡ c + 256 * s → a + 256 * b + 65536 * c + 16777216 * s ≡ v
    sum v a b c s x y z = omega arith

-- a number with a sign, from its bits
signed_back : (z : ℤ) → mag z < 2 ^ 31 → signed_of (word_of z) ≡ z
unfolding signed_of word_of
signed_back (pos n) h = rw (lt-ltb n 2147483648 h)
signed_back (negsuc n) h = rw (le-ltb (4294967295 - n) 2147483648 (omega arith)) (ap negsuc (omega arith))

-- a number with a sign has its bits
signed_says : (v : ℕ) → v < 2 ^ 32 → word_of (signed_of v) ≡ v
unfolding signed_of word_of
signed_says v h =
    elim (dec_lt v 2147483648) [
      | yes l ↦ rw (lt-ltb v 2147483648 l)
      | no l ↦ rw (le-ltb v 2147483648 (omega arith)) (omega arith)
    ]

-- a number of four bytes, as bytes
bound_says : (s : List ℕ) (at : ℕ) → Bytes s →
    word_bytes (word_of (signed_of (word_at s at))) ≡ get_or s at 0 ∷ get_or s (at + 1) 0 ∷ get_or s (at + 2) 0 ∷ get_or s (at + 3) 0 ∷ []
unfolding word_bytes word_at
bound_says s at b =
    let a = get_or s at 0 in
    let e = get_or s (at + 1) 0 in
    let f = get_or s (at + 2) 0 in
    let g = get_or s (at + 3) 0 in
    four (word_at s at) a e f g refl (b at) (b (at + 1)) (b (at + 2)) (b (at + 3))
  where
    four : (v a e f g : ℕ) → v ≡ a + 256 * e + 65536 * f + 16777216 * g → a < 256 → e < 256 → f < 256 → g < 256 →
        word_bytes (word_of (signed_of v)) ≡ a ∷ e ∷ f ∷ g ∷ []
    four v a e f g h x y z w =
        let from1 : v / 256 ≡ e + 256 * (f + 256 * g) = omega arith in
        let from2 : v / 65536 ≡ f + 256 * g = omega arith in
        let from3 : v / 16777216 ≡ g = omega arith in
        let low : v % 256 ≡ a = omega arith in
        rw (signed_says v (omega arith), from1, from2, from3, low, (digit e (f + 256 * g) y).0, (digit f g z).0, small g w)

module _ (s : List ℕ) (at : ℕ) where
  -- the first byte of a field that stands
  first : (bytes : List ℕ) → Stands s (field_of at bytes) → 0 < length bytes → get_or s at 0 ≡ get_or bytes 0 0
  first bytes h l = ap (λ (k : ℕ). get_or s k 0) (sym (add-zero at)) ∙ h 0 l

  -- a byte that stands is read
  pub byte_read_lem : (x : ℕ) → Stands s (field_of at (x ∷ [])) → get_or s at 0 ≡ x
  byte_read_lem x h = first (x ∷ []) h (omega arith)

  -- so are two
  pub half_read : (v : ℕ) → v < 2 ^ 16 → Stands s (field_of at (half_bytes v)) → half_at s at ≡ v
  unfolding half_at half_bytes
  half_read v f h = rw (first (half_bytes v) h (omega arith), h 1 (omega arith)) (half_back v f)

  -- and four
  pub bound_read : (z : ℤ) → mag z < 2 ^ 31 → Stands s (field_of at (word_bytes (word_of z))) → signed_of (word_at s at) ≡ z
  unfolding word_at word_bytes
  bound_read z f h =
      rw (first (word_bytes (word_of z)) h (omega arith), h 1 (omega arith), h 2 (omega arith), h 3 (omega arith), word_back (word_of z) (word_fits z (omega arith))) (signed_back z f)

  -- a byte stands where it is read
  pub byte_stands : Stands s (field_of at (get_or s at 0 ∷ []))
  byte_stands zero h = ap (λ (k : ℕ). get_or s k 0) (add-zero at)
  byte_stands (suc k) h = absurd (omega arith)

  -- so do two
  pub half_stands : Bytes s → Stands s (field_of at (half_bytes (half_at s at)))
  half_stands b = rw (half_says s at (b at) (b (at + 1))) two
    where
      two : Stands s (field_of at (get_or s at 0 ∷ get_or s (at + 1) 0 ∷ []))
      two zero h = ap (λ (k : ℕ). get_or s k 0) (add-zero at)
      two (suc zero) h = refl
      two (suc (suc k)) h = absurd (omega arith)

  -- and four
  pub bound_stands : Bytes s → Stands s (field_of at (word_bytes (word_of (signed_of (word_at s at)))))
  bound_stands b = rw (bound_says s at b) four
    where
      four : Stands s (field_of at (get_or s at 0 ∷ get_or s (at + 1) 0 ∷ get_or s (at + 2) 0 ∷ get_or s (at + 3) 0 ∷ []))
      four zero h = ap (λ (k : ℕ). get_or s k 0) (add-zero at)
      four (suc zero) h = refl
      four (suc (suc zero)) h = refl
      four (suc (suc (suc zero))) h = refl
      four (suc (suc (suc (suc k)))) h = absurd (omega arith)

-- what record i reads as, by two tests of its kind
abbrev pub entry_by : List ℕ → ℕ → Bool → Bool → Entry
entry_by s i area limited =
    cond area (Area (half_at s (start_place i)))
    (Service (half_at s (start_place i)) (half_at s (blocks_place i))
    (cond limited (limited_to (signed_of (word_at s (upper_place i))) (signed_of (word_at s (lower_place i))) (get_or s (generation_place i) 0)) None))

module _ (s : List ℕ) (i : ℕ) where
  -- an entry whose fields stand is read
  entry_read : (e : Entry) → EntryFits e → get_or s (kind_place i) 0 ≡ kind_byte e → AllStand s (entry_fields i e) → entry_in s i ≡ e
  entry_read (Area end) f k a = rw (k, half_read s (start_place i) end f a.0)
  entry_read (Service start blocks None) f k a =
      rw (k, half_read s (start_place i) start f.0 a.0, half_read s (blocks_place i) blocks f.1 a.1.0)
  entry_read (Service start blocks (Some limit)) f k a =
      rw (
        k,
        half_read s (start_place i) start f.0 a.0,
        half_read s (blocks_place i) blocks f.1 a.1.0,
        byte_read_lem s (generation_place i) limit.generation a.1.1.0,
        bound_read s (upper_place i) limit.upper f.2.0 a.1.1.1.0,
        bound_read s (lower_place i) limit.lower f.2.1 a.1.1.1.1.0,
      )

  kind_known : (e : Entry) → kind_byte e ≤ 2
  kind_known (Area end) = omega arith
  kind_known (Service start blocks None) = omega arith
  kind_known (Service start blocks (Some limit)) = omega arith

  -- a node whose fields stand is read, and is of a kind that there is
  pub node-read : (n : Node) → NodeFits n → AllStand s (node_fields i n) → (node_in s i ≡ n) × (is_record s i ≡ true)
  unfolding node_fields node_in is_record
  node-read n f a =
      let kind = byte_read_lem s (kind_place i) (kind_byte n.entry) a.0 in
      let depth = byte_read_lem s (depth_place i) n.depth a.1.0 in
      let code = half_read s (code_place i) n.code f.code a.1.1.0 in
      let version = half_read s (version_place i) n.version f.version a.1.1.1.0 in
      let entry = entry_read n.entry f.entry kind a.1.1.1.1 in
      (λ j. record { depth = depth j; code = code j; version = version j; entry = entry j }, rw kind (le-leb (kind_byte n.entry) 2 (kind_known n.entry)))

  module _ (b : Bytes s) where
    -- the fields of what is read stand
    entry_stands : (t u : Bool) → AllStand s (entry_fields i (entry_by s i t u))
    entry_stands true u = (half_stands s (start_place i) b, tt)
    entry_stands false false = (half_stands s (start_place i) b, (half_stands s (blocks_place i) b, tt))
    entry_stands false true =
        (half_stands s (start_place i) b, (half_stands s (blocks_place i) b, (byte_stands s (generation_place i), (bound_stands s (upper_place i) b, (bound_stands s (lower_place i) b, tt)))))

    -- its kind too, if there is one
    kind_says : (k a c : ℕ) (x y : ℤ) (g : ℕ) → k ≤ 2 →
        kind_byte (cond (eqb k 0) (Area a) (Service a c (cond (eqb k 2) (limited_to x y g) None))) ≡ k
    kind_says zero a c x y g h = refl
    kind_says (suc zero) a c x y g h = refl
    kind_says (suc (suc zero)) a c x y g h = refl
    kind_says (suc (suc (suc k))) a c x y g h = absurd (omega arith)

    pub node_stands : is_record s i ≡ true → AllStand s (node_fields i (node_in s i))
    unfolding node_fields node_in is_record
    node_stands e =
        let k = get_or s (kind_place i) 0 in
        let known = leb-true k 2 e in
        let kind : kind_byte (entry_in s i) ≡ k = kind_says k _ _ _ _ _ known in (
          subst (λ (x : ℕ). Stands s (field_of (kind_place i) (x ∷ []))) (sym kind) (byte_stands s (kind_place i)),
          (
            byte_stands s (depth_place i),
            (
              half_stands s (code_place i) b,
              (
                half_stands s (version_place i) b,
                entry_stands (eqb k 0) (eqb k 2),
              ),
            ),
          ),
        )
