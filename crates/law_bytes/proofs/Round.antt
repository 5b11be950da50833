-- A card's bytes: what is written is read back, and what reads as a card is what is written of it but for places that are no part of it.
use mathlib.Core.Path.{◌≡◌, refl, sym, ap, ◌∙◌}
use mathlib.Core.Bool.{Bool, true, false, cond, ◌&&◌, and-eq-true_iff}
use mathlib.Core.List.{List, [], ◌∷◌, ◌++◌}
use mathlib.Core.Logic.{◌↔◌}
use Prim.Native.Nat.{ℕ, zero, suc, ◌+◌, ◌-◌, ◌≤◌}
use native.Mathlib.Omega.{arith}
use lib.Dec.{eqb}
use lib.ListN.{length, get_or, take, replicate, length-take, length-replicate, take-append-drop}
use lib.Seq.{take_at, ext_get_or}
use borrow.Author.Tests.{eq-eqb, ne_eqb, le-leb}
use Rattle.byte_parts.specs.Values.{flag_of, Bytes}
use Rattle.byte_parts.specs.Half.{half_at}
use Rattle.card_nodes.specs.declared.node.Node.{Node}
use Rattle.card_nodes.specs.Node.{root_node}
use Rattle.card_sound.specs.Sound.{sound_of}
use Rattle.card_build.specs.declared.card.Card.{Card}
use Rattle.card_build.specs.Card.{is_sound, nodes_of}
use Rattle.handset_bytes.specs.Layout.{card_size, count_place, used_place, system_place, key_place, flags_place, layout_place, layout_number}
use Rattle.handset_bytes.specs.Node.{node_fields, node_in, is_record}
use Rattle.handset_bytes.specs.Card.{head_fields, nodes_fields, card_fields, zero_bytes, card_bytes, nodes_in, are_records, card_in, is_headed, is_card, card_decoded}
use Rattle.handset_bytes.specs.Fits.{NodeFits, Fits}
use Rattle.handset_bytes.proofs.Puts.{fields_long}
use Rattle.handset_bytes.proofs.Heads.{card_headed, nodes-count}
use Rattle.law_bytes.specs.Used.{is_used}
use Rattle.law_bytes.proofs.Fields.{AllStand, stand_split, stand_append, written_stand, stood}
use Rattle.law_bytes.proofs.Places.{card_apart, card-within}
use Rattle.law_bytes.proofs.Records.{half_read, half_stands, node-read, node_stands}

-- yes or no as a number
flag_one : (j : Bool) → flag_of j ≤ 1
flag_one true = omega arith
flag_one false = omega arith

-- is read back
flag-back : (j : Bool) → eqb (flag_of j) 1 ≡ j
flag-back true = refl
flag-back false = refl

-- and a number that is one of the two is what is written of it
flag_says : (n : ℕ) → n ≤ 1 → flag_of (eqb n 1) ≡ n
flag_says zero h = refl
flag_says (suc zero) h = refl
flag_says (suc (suc n)) h = absurd (omega arith)

-- nodes whose fields stand are read
nodes-read : (s : List ℕ) (i : ℕ) (ns : List Node) → ((j : ℕ) → NodeFits (get_or ns j root_node)) → AllStand s (nodes_fields i ns) →
    (nodes_in (length ns) i s ≡ ns) × (are_records (length ns) i s ≡ true)
unfolding nodes_fields nodes_in are_records
nodes-read s i [] f a = (refl, refl)
nodes-read s i (n ∷ ns) f a =
    let b = stand_split s (node_fields i n) (nodes_fields (i + 1) ns) a in
    let own = node-read s i n (f 0) b.0 in
    let later = nodes-read s (i + 1) ns (λ j. f (suc j)) b.1 in
    (rw (own.0, later.0), rw (own.1, later.1))

-- a part of the nodes fits
pub few_fit : (k i : ℕ) (ns : List Node) → NodeFits root_node → ((j : ℕ) → NodeFits (get_or ns j root_node)) → NodeFits (get_or (take k ns) i root_node)
few_fit zero i ns z g = z
few_fit (suc k) i [] z g = z
few_fit (suc k) zero (x ∷ ns) z g = g 0
few_fit (suc k) (suc i) (x ∷ ns) z g = few_fit k i ns z (λ j. g (suc j))

-- the root fits
pub root_fits : NodeFits root_node
root_fits = record { depth = omega arith; code = omega arith; version = omega arith; entry = omega arith }

-- how many nodes a card has
few-nodes : (c : Card) → Fits c → length (nodes_of c) ≡ c.count
few-nodes c f = simp length-take (omega (arith, f.records, f.count))

module _ (c : Card) (f : Fits c) (s : List ℕ) (long : length s ≡ card_size) (a : AllStand s (card_fields c)) where
  -- a card whose fields stand is read
  stands_read : (is_card s ≡ true) × (card_in s ≡ c)
  unfolding card_fields is_card is_headed
  stands_read =
      let b = stand_split s (head_fields c) (nodes_fields 0 (nodes_of c)) a in
      let h = b.0 in
      let count : half_at s count_place ≡ c.count = half_read s count_place c.count (omega (arith, f.count)) h.0 in
      let used : half_at s used_place ≡ c.used = half_read s used_place c.used f.used h.1.0 in
      let code : half_at s system_place ≡ c.system.code = half_read s system_place c.system.code f.system.code h.1.1.0 in
      let key : half_at s key_place ≡ c.system.version = half_read s key_place c.system.version f.system.version h.1.1.1.0 in
      let one = flag_one c.system.join in
      let flag : half_at s flags_place ≡ flag_of c.system.join = half_read s flags_place (flag_of c.system.join) (omega arith) h.1.1.1.1.0 in
      let layout : half_at s layout_place ≡ layout_number = half_read s layout_place layout_number (omega arith) h.1.1.1.1.1.0 in
      let n = few-nodes c f in
      let r = nodes-read s 0 (nodes_of c) (λ j. few_fit c.count j c.nodes root_fits f.nodes) b.1 in
      let nodes : nodes_in c.count 0 s ≡ nodes_of c = rw n at r.0 in
      let kinds : are_records c.count 0 s ≡ true = rw n at r.1 in
      let all : nodes_of c ++ replicate (64 - c.count) root_node ≡ c.nodes = rw (← f.unused) (take-append-drop c.count c.nodes) in (
        rw (eq-eqb (length s) card_size long, layout, flag, le-leb (flag_of c.system.join) 1 one, count, le-leb c.count 64 f.count, kinds),
        rw (count, nodes, all, used, code, key, flag, flag-back c.system.join),
      )

-- how many bytes a card takes
zero_count : (n : ℕ) → length (zero_bytes n) ≡ n
unfolding zero_bytes
zero_count n = length-replicate n 0

zero_long : length (zero_bytes card_size) ≡ card_size
zero_long = zero_count card_size

pub card-long : (c : Card) → length (card_bytes c) ≡ card_size
unfolding card_bytes
card-long c = fields_long (card_fields c) (zero_bytes card_size) ∙ zero_long

zero_byte : (n p : ℕ) → get_or (zero_bytes n) p 0 ≡ 0
unfolding zero_bytes
zero_byte zero p = refl
zero_byte (suc n) zero = refl
zero_byte (suc n) (suc p) = zero_byte n p

module _ (c : Card) (f : Fits c) where
  -- what is written of a card stands
  written_stands : AllStand (card_bytes c) (card_fields c)
  unfolding card_bytes
  written_stands =
      let few : length (nodes_of c) ≤ 64 = omega (arith, few-nodes c f, f.count) in
      written_stand (card_fields c) (zero_bytes card_size) (card_apart c few) (rw zero_long (card-within c few))

  -- so it is a card's bytes
  pub written_is : is_card (card_bytes c) ≡ true
  written_is = (stands_read c f (card_bytes c) (card-long c) written_stands).0

  -- and is read back
  pub read_back : card_decoded (card_bytes c) ≡ c
  unfolding card_decoded
  read_back = rw written_is (stands_read c f (card_bytes c) (card-long c) written_stands).1

-- those taken are those read
pub nodes-taken : (s : List ℕ) → nodes_of (card_in s) ≡ nodes_in (half_at s count_place) 0 s
nodes-taken s =
    let n = half_at s count_place in
    take_at (nodes_in n 0 s) (replicate (64 - n) root_node) n (nodes-count n 0 s)

-- records are what is written of the nodes that they read as
nodes_stand : (s : List ℕ) (n i : ℕ) → Bytes s → are_records n i s ≡ true → AllStand s (nodes_fields i (nodes_in n i s))
unfolding nodes_fields nodes_in are_records
nodes_stand s zero i b e = tt
nodes_stand s (suc n) i b e =
    let t = (and-eq-true_iff (is_record s i) (are_records n (i + 1) s)).0 e in
    stand_append s (node_fields i (node_in s i)) (nodes_fields (i + 1) (nodes_in n (i + 1) s)) (node_stands s i b t.0) (nodes_stand s n (i + 1) b t.1)

-- they are as many as a card takes
pub valid_long : (s : List ℕ) → is_card s ≡ true → length s ≡ card_size
valid_long s e = (card_headed s e).0.long

module _ (s : List ℕ) (b : Bytes s) (e : is_card s ≡ true) where
  -- the fields of the card that bytes read as stand there
  card_stands : AllStand s (card_fields (card_in s))
  unfolding card_fields
  card_stands =
      let h = (card_headed s e).0 in
      let head : AllStand s (head_fields (card_in s)) = (
        half_stands s count_place b,
        (
          half_stands s used_place b,
          (
            half_stands s system_place b,
            (
              half_stands s key_place b,
              (rw (flag_says (half_at s flags_place) h.flag) (half_stands s flags_place b), (rw h.layout at (half_stands s layout_place b), tt)),
            ),
          ),
        ),
      ) in
      let nodes : AllStand s (nodes_fields 0 (nodes_of (card_in s))) = rw (nodes-taken s) (nodes_stand s (half_at s count_place) 0 b (card_headed s e).1) in
      stand_append s (head_fields (card_in s)) (nodes_fields 0 (nodes_of (card_in s))) head nodes

  -- written anew, each place that is part of the card stays, and any other is zero
  pub rewritten : (p : ℕ) → get_or (card_bytes (card_in s)) p 0 ≡ cond (is_used s p) (get_or s p 0) 0
  unfolding card_bytes is_used
  rewritten p =
      let few : length (nodes_of (card_in s)) ≤ 64 = rw (nodes-taken s, nodes-count (half_at s count_place) 0 s) (card_headed s e).0.count in
      stood s (card_fields (card_in s)) (zero_bytes card_size) p card_stands (rw zero_long (card-within (card_in s) few)) ∙ rw (zero_byte card_size p)

  -- so they are what is written of the card that they read as exactly where their other places are zero
  pub exact : ((p : ℕ) → is_used s p ≡ false → get_or s p 0 ≡ 0) ↔ (card_bytes (card_in s) ≡ s)
  exact = (
    λ z.
        ext_get_or 0 (card_bytes (card_in s)) s (card-long (card_in s) ∙ sym (card_headed s e).0.long) (λ p h. rewritten p ∙ by (is_used s p) (get_or s p 0) (z p)),
    λ q p u. ap (λ (l : List ℕ). get_or l p 0) (sym q) ∙ (rewritten p ∙ rw u),
  )
    where
      by : (t : Bool) (x : ℕ) → (t ≡ false → x ≡ 0) → cond t x 0 ≡ x
      by true x h = refl
      by false x h = sym (h refl)

-- bytes of another layout are no card's
pub other_layout : (s : List ℕ) → (half_at s layout_place ≡ layout_number → ⊥) → is_card s ≡ false
unfolding is_card is_headed
other_layout s h = rw (ne_eqb (half_at s layout_place) layout_number h) (by (eqb (length s) card_size))
  where
    by : (t : Bool) → ((t && false) && are_records (half_at s count_place) 0 s) ≡ false
    by true = refl
    by false = refl

-- what stands for the card of other bytes is refused with 8
pub unsound : (s : List ℕ) → is_card s ≡ false → is_sound (card_decoded s) ≡ false
unfolding card_decoded sound_of
unsound s e = rw e
