-- The loop over a card's records: what it knows on its way.
use mathlib.Core.Path.{◌≡◌, sym, ap, ◌∙◌}
use mathlib.Core.Bool.{true, false}
use mathlib.Core.List.{List, [], ◌∷◌, ◌++◌, append_assoc, append-nil}
use Prim.Native.Nat.{ℕ, suc, ◌+◌, ◌-◌, ◌≤◌, ◌<◌}
use native.Mathlib.Numerals.{add-one}
use native.Mathlib.Omega.{arith}
use lib.ListN.{length, set, take, drop, replicate, length-set, length-replicate, take-append-drop}
use lib.Seq.{drop-drop, drop-set-lt, take-suc-set}
use Rattle.byte_parts.specs.Half.{half_at}
use Rattle.card_nodes.specs.declared.node.Node.{Node}
use Rattle.card_nodes.specs.Node.{root_node}
use Rattle.card_build.specs.declared.card.System.{System}
use Rattle.card_build.specs.declared.card.Card.{Card}
use Rattle.handset_bytes.specs.Layout.{count_place, used_place, card_size}
use Rattle.handset_bytes.specs.Node.{node_in, is_record}
use Rattle.handset_bytes.specs.Card.{nodes_in, are_records, system_in, is_headed, is_card, no_card, card_decoded}
use Rattle.handset_bytes.proofs.Heads.{headed}

-- after i of n records that were read: what is left decides the rest
pub record Reading (s : List ℕ) (nodes : List Node) (n i : ℕ) : Type 0 where
  pub most : i ≤ n
  pub few : n ≤ 64
  pub size : length s ≡ card_size
  pub headed : is_headed s ≡ true
  pub counted : n ≡ half_at s count_place
  pub long : length nodes ≡ 64
  pub whole : are_records n 0 s ≡ are_records (n - i) i s
  pub same : nodes_in n 0 s ≡ take i nodes ++ nodes_in (n - i) i s
  pub rest : drop i nodes ≡ replicate (64 - i) root_node

-- before the first
pub begun : (s : List ℕ) (n : ℕ) {root : Node} → is_headed s ≡ true → n ≡ half_at s count_place → root ≡ root_node → Reading s (replicate 64 root) n 0
begun s n {root = root} h e r =
    let k = headed s h in
    let all : n ≡ n - 0 = omega arith in
    record {
      most = omega arith;
      few = omega (arith, e, k.count);
      size = k.long;
      headed = h;
      counted = e;
      long = length-replicate 64 root;
      whole = ap (λ (m : ℕ). are_records m 0 s) all;
      same = ap (λ (m : ℕ). nodes_in m 0 s) all;
      rest = ap (replicate 64) r;
    }

-- another header than a card's
pub unheaded : (s : List ℕ) → is_headed s ≡ false → card_decoded s ≡ no_card
unfolding card_decoded is_card
unheaded s e = rw e

module _ {s : List ℕ} {nodes : List Node} {n i : ℕ} (k : Reading s nodes n i) where
  module _ (h : i < n) where
    -- of the records left it is the first
    left : n - i ≡ suc (n - (i + 1))
    left = omega arith

    -- it is of no kind
    pub bad : is_record s i ≡ false → card_decoded s ≡ no_card
    unfolding card_decoded is_card are_records
    bad r = rw (k.headed, ← k.counted, k.whole, left, r)

    -- it is read
    pub turn : {m : Node} → is_record s i ≡ true → m ≡ node_in s i → Reading s (set nodes i m) n (i + 1)
    unfolding are_records nodes_in
    turn {m = m} r e =
        let inside : i < length nodes = omega (arith, k.long, k.few) in
        let later = nodes_in (n - (i + 1)) (i + 1) s in
        let front : take i nodes ++ (m ∷ []) ≡ take (i + 1) (set nodes i m) = rw add-one (sym (take-suc-set nodes i m inside)) in
        let whole : are_records n 0 s ≡ are_records (n - (i + 1)) (i + 1) s = k.whole ∙ rw (left, r) in
        let same : nodes_in n 0 s ≡ take i nodes ++ (m ∷ later) = k.same ∙ rw (left, ← e) in
        let more : 64 - i ≡ suc (64 - (i + 1)) = omega (arith, k.few) in
        record {
          most = omega arith;
          few = k.few;
          size = k.size;
          headed = k.headed;
          counted = k.counted;
          long = length-set nodes i m ∙ k.long;
          whole = whole;
          same = same ∙ (sym (append_assoc (take i nodes) (m ∷ []) later) ∙ ap (λ (l : List Node). l ++ later) front);
          rest = drop-set-lt (i + 1) nodes i m (omega arith) ∙ (sym (drop-drop 1 i nodes) ∙ (ap (drop 1) k.rest ∙ rw more));
        }

  -- all were read
  pub read_all : {b : ℕ} {y : System} → n ≤ i → b ≡ half_at s used_place → y ≡ system_in s →
      ◌≡◌ {A = Card} (record { nodes = nodes; count = n; used = b; system = y }) (card_decoded s)
  unfolding card_decoded is_card are_records nodes_in
  read_all h x z =
      let none : n - i ≡ 0 = omega arith in
      let last : i ≡ n = omega (arith, k.most) in
      let ok : are_records n 0 s ≡ true = k.whole ∙ rw none in
      let front : nodes_in n 0 s ≡ take i nodes = k.same ∙ rw none (append-nil (take i nodes)) in
      let past : replicate (64 - n) root_node ≡ drop i nodes = ap (λ (m : ℕ). replicate (64 - m) root_node) (sym last) ∙ sym k.rest in
      let same : nodes_in n 0 s ++ replicate (64 - n) root_node ≡ nodes = rw (front, past) (take-append-drop i nodes) in
      rw (k.headed, ← k.counted, ok, same, x, z)
