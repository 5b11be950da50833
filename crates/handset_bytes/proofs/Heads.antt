-- What a card's header says, and how many records are read by it.
use mathlib.Core.Path.{◌≡◌, refl, ap}
use mathlib.Core.Bool.{Bool, true, false, cond, and-eq-true_iff}
use mathlib.Core.List.{List}
use Prim.Native.Nat.{ℕ, zero, suc, ◌+◌, ◌-◌, ◌≤◌}
use native.Mathlib.Omega.{arith}
use lib.Dec.{eqb, leb}
use lib.ListN.{length, length-append, length-replicate}
use borrow.Author.Tests.{eqb-true, leb-true}
use Rattle.byte_parts.specs.Half.{half_at}
use Rattle.card_nodes.specs.Node.{root_node}
use Rattle.handset_bytes.specs.Layout.{card_size, count_place, flags_place, layout_place, layout_number}
use Rattle.handset_bytes.specs.Card.{nodes_in, are_records, card_in, is_headed, is_card, no_card, card_decoded}

pub record Headed (s : List ℕ) : Type 0 where
  pub long : length s ≡ card_size
  pub layout : half_at s layout_place ≡ layout_number
  pub flag : half_at s flags_place ≤ 1
  pub count : half_at s count_place ≤ 64

pub headed : (s : List ℕ) → is_headed s ≡ true → Headed s
unfolding is_headed
headed s e =
    let a = (and-eq-true_iff (eqb (length s) card_size) _).0 e in
    let b = (and-eq-true_iff (eqb (half_at s layout_place) layout_number) _).0 a.1 in
    let d = (and-eq-true_iff (leb (half_at s flags_place) 1) (leb (half_at s count_place) 64)).0 b.1 in
    record {
      long = eqb-true (length s) card_size a.0;
      layout = eqb-true (half_at s layout_place) layout_number b.0;
      flag = leb-true (half_at s flags_place) 1 d.0;
      count = leb-true (half_at s count_place) 64 d.1;
    }

-- a card's bytes have its header and records
pub card_headed : (s : List ℕ) → is_card s ≡ true → Headed s × (are_records (half_at s count_place) 0 s ≡ true)
unfolding is_card
card_headed s e = let a = (and-eq-true_iff (is_headed s) (are_records (half_at s count_place) 0 s)).0 e in (headed s a.0, a.1)

-- as many nodes are read as records
pub nodes-count : (n i : ℕ) (s : List ℕ) → length (nodes_in n i s) ≡ n
unfolding nodes_in
nodes-count zero i s = refl
nodes-count (suc n) i s = ap suc (nodes-count n (i + 1) s)

-- and with the unused ones 64
pub all-count : (s : List ℕ) → half_at s count_place ≤ 64 → length (card_in s).nodes ≡ 64
all-count s h = simp (length-append, length-replicate) (omega (arith, h, nodes-count (half_at s count_place) 0 s))

-- so has the card that bytes stand for
pub decoded_long : (s : List ℕ) → length (card_decoded s).nodes ≡ 64
unfolding card_decoded
decoded_long s = by_test_lem (is_card s) refl
  where
    by_test_lem : (t : Bool) → is_card s ≡ t → length (cond t (card_in s) no_card).nodes ≡ 64
    by_test_lem true e = all-count s (card_headed s e).0.count
    by_test_lem false e = length-replicate 64 root_node
