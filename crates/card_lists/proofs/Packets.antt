-- Packets one after the other are the children in tree order, each once; which packets there are, and what the flag says.
use mathlib.Core.Path.{◌≡◌, refl, sym, ◌∙◌, ap}
use mathlib.Core.Bool.{Bool, true, false, not}
use mathlib.Core.List.{List, [], ◌++◌}
use Prim.Native.Nat.{ℕ, zero, suc, ◌+◌, ◌-◌, ◌*◌, ◌≤◌, ◌<◌, min}
use native.Mathlib.Decide.{dec_lt}
use native.Mathlib.Omega.{arith}
use lib.Dec.{eqb, ltb, leb}
use lib.ListN.{length, take, drop, length-take, length-drop}
use lib.Seq.{take-add, take_all}
use borrow.Author.Tests.{lt-ltb, le-ltb, lt-leb, le-leb, ne_eqb}
use Rattle.byte_parts.specs.Part.{padded}
use Rattle.node_messages.specs.CodeList.{ranges_of, codes_listed}
use Rattle.node_messages.specs.Kept.{ListWhole}
use Rattle.node_messages.proofs.NumberLaws.{padded_front}
use Rattle.card_nodes.specs.declared.node.Node.{Node}
use Rattle.card_questions.specs.ListingWorded.{pairs_of}
use Rattle.card_lists.specs.Packet.{among, areas_among, services_among, ranges_among, codes_among, list_of, packet_of, past_end, more_after, packets_joined}
use Rattle.card_lists.proofs.Among.{all_among, ranges-append, codes-append, ranges-long, codes-long}

-- the first k packets hold the first 16 k children
pub packets_first : (children : List Node) (k : ℕ) → packets_joined (packet_of children) k ≡ take (16 * k) children
unfolding packets_joined
packets_first children zero = refl
packets_first children (suc k) =
    let e : 16 * suc k ≡ 16 * k + 16 = omega arith in
    rw (packets_first children k, e) (sym (take-add (16 * k) 16 children))

-- and all of them once none is left
pub packets_all : (children : List Node) (k : ℕ) → length children ≤ 16 * k → packets_joined (packet_of children) k ≡ children
packets_all children k h = packets_first children k ∙ take_all (16 * k) children h

-- what is taken of each packet is taken of all of them
joined_by : (f : List Node → List ℕ) → f [] ≡ [] → ((xs ys : List Node) → f (xs ++ ys) ≡ f xs ++ f ys) → (packet : ℕ → List Node) (k : ℕ) →
    packets_joined (λ p. f (packet p)) k ≡ f (packets_joined packet k)
unfolding packets_joined
joined_by f nil app packet zero = sym nil
joined_by f nil app packet (suc k) = rw (joined_by f nil app packet k) (sym (app (packets_joined packet k) (packet k)))

-- a packet has at most sixteen
pub packet-few : (children : List Node) (p : ℕ) → length (packet_of children p) ≤ 16
packet-few children p = simp length-take (omega arith)

-- a list of at most sixteen nodes tells just them
module _ (more : Bool) (xs : List Node) (h : length xs ≤ 16) where
  ranges_front : take (2 * length (areas_among xs)) (padded 32 (ranges_among xs)) ≡ ranges_among xs
  ranges_front = padded_front 32 (2 * length (areas_among xs)) (ranges_among xs) (ranges-long xs) (omega (arith, all_among xs))

  codes_front : take (length (services_among xs)) (padded 16 (codes_among xs)) ≡ codes_among xs
  codes_front = padded_front 16 (length (services_among xs)) (codes_among xs) (codes-long xs) (omega (arith, all_among xs))

  pub list-whole : ListWhole (list_of more xs)
  list-whole = record { few = omega (arith, all_among xs); ranges = rw ranges_front; codes = rw codes_front }

  pub list-ranges : ranges_of (list_of more xs) ≡ ranges_among xs
  list-ranges =
      let e : min (length (areas_among xs)) 16 ≡ length (areas_among xs) = omega (arith, all_among xs) in
      rw e ranges_front

  pub list-codes : codes_listed (list_of more xs) ≡ codes_among xs
  list-codes =
      let a : min (length (areas_among xs)) 16 ≡ length (areas_among xs) = omega (arith, all_among xs) in
      let e : min (length (services_among xs)) (16 - length (areas_among xs)) ≡ length (services_among xs) = omega (arith, all_among xs) in
      rw (a, e) codes_front

-- the areas of all packets are those of all children, and so are the services
pub ranges-all : (children : List Node) (k : ℕ) → length children ≤ 16 * k → packets_joined (λ p. ranges_among (packet_of children p)) k ≡ ranges_among children
unfolding among pairs_of
ranges-all children k h = joined_by ranges_among refl ranges-append (packet_of children) k ∙ ap ranges_among (packets_all children k h)

pub codes_all : (children : List Node) (k : ℕ) → length children ≤ 16 * k → packets_joined (λ p. codes_among (packet_of children p)) k ≡ codes_among children
unfolding among
codes_all children k h = joined_by codes_among refl codes-append (packet_of children) k ∙ ap codes_among (packets_all children k h)

-- packet 0 always exists
pub first_exists : (n : ℕ) → past_end 0 n ≡ false
unfolding past_end
first_exists n = refl

-- any other where a child is left for it, and only there
pub exists : (p n : ℕ) → 16 * suc p < n → past_end (suc p) n ≡ false
unfolding past_end
exists p n h = rw (ne_eqb (suc p) 0 (λ e. omega arith), lt-leb n (16 * suc p) h)

pub ends : (p n : ℕ) → n ≤ 16 * suc p → past_end (suc p) n ≡ true
unfolding past_end
ends p n h = rw (ne_eqb (suc p) 0 (λ e. omega arith), le-leb n (16 * suc p) h)

-- the flag says whether the next packet exists
pub more-next : (p n : ℕ) → more_after p n ≡ not (past_end (suc p) n)
unfolding more_after
more-next p n =
    elim (dec_lt (16 * suc p) n) [
      | yes h ↦ rw (lt-ltb (16 * p + 16) n (omega arith), exists p n h)
      | no h ↦ rw (le-ltb (16 * p + 16) n (omega arith), ends p n (omega arith))
    ]
