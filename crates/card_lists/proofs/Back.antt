-- What a card tells, written and read, comes back.
use Rattle.std.proofs.Common.{Option, Some, None, Ok}
use mathlib.Core.Path.{◌≡◌, refl, sym, ◌∙◌, ap}
use mathlib.Core.Bool.{Bool, true, false, cond, not}
use mathlib.Core.List.{List, [], ◌∷◌, ◌++◌, map}
use Prim.Native.Nat.{ℕ, zero, suc, ◌+◌, ◌-◌, ◌*◌, ◌≤◌, ◌<◌, ◌^◌}
use native.Mathlib.Omega.{arith}
use lib.Dec.{eqb, ltb, leb}
use lib.ListN.{length, get_or, take, drop, replicate, length-map}
use borrow.Author.Tests.{ltb-false}
use Rattle.answers.specs.declared.refusal.Refusal.TheVariants.{NotBuilt, ShortArena, TooManyNodes, ParentNoArea, PacketPastEnd}
use Rattle.byte_parts.specs.Part.{padded}
use Rattle.node_messages.specs.declared.code_list.Listed.{Listed}
use Rattle.node_messages.specs.declared.information.Informed.{Informed}
use Rattle.node_messages.specs.CodeList.{list_told, list_refused, code_list_bytes, read_code_list}
use Rattle.node_messages.specs.Information.{information_told, information_refused, information_bytes, read_information}
use Rattle.node_messages.specs.Kept.{Halves, ListFits, InformationFits, InformationWhole}
use Rattle.node_messages.proofs.NumberLaws.{padded-long, padded_front}
use Rattle.node_messages.proofs.Round.{halves_take, list_back, list-whole, information_back, information_whole}
use Rattle.card_nodes.specs.declared.node.Entry.{Entry}
use Rattle.card_nodes.specs.declared.node.Node.{Node}
use Rattle.card_nodes.specs.Node.{root_node, is_area, is_service}
use Rattle.card_nodes.specs.Find.{service_of, area_of}
use Rattle.card_admit.specs.Admit.{usable}
use Rattle.card_questions.specs.ListingWorded.{pairs_of}
use Rattle.card_questions.specs.Total.{area_total_at, total_at, total_of, total_answer}
use Rattle.card_build.specs.declared.card.Card.{Card}
use Rattle.card_build.specs.Card.{nodes_of, is_sound}
use Rattle.card_laws.specs.Built.{Built}
use Rattle.card_laws.proofs.Built.{built_sound}
use Rattle.card_laws.specs.Children.{area_named, children_under, children_at}
use Rattle.card_lists.specs.Coded.{Coded}
use Rattle.card_lists.specs.Packet.{among, areas_among, services_among, ranges_among, codes_among, list_of, packet_of, past_end, more_after, packet_told, list_found, code_list_of}
use Rattle.card_lists.specs.Information.{free_by, free_for, information_of, blocks_told}
use Rattle.card_lists.proofs.Packets.{packet-few}
use Rattle.card_lists.proofs.Packets as packets

-- some of the nodes
coded_drop : (k : ℕ) (ns : List Node) → Coded ns → Coded (drop k ns)
coded_drop zero ns h = h
coded_drop (suc k) [] h = tt
coded_drop (suc k) (n ∷ ns) h = coded_drop k ns h.1

coded_take : (k : ℕ) (ns : List Node) → Coded ns → Coded (take k ns)
coded_take zero ns h = tt
coded_take (suc k) [] h = tt
coded_take (suc k) (n ∷ ns) h = (h.0, coded_take k ns h.1)

coded_children : (d : ℕ) (ns : List Node) → Coded ns → Coded (children_under d ns)
unfolding children_under
coded_children d [] h = tt
coded_children d (n ∷ ns) h = by (leb n.depth d) (eqb n.depth (d + 1)) (coded_children d ns h.1)
  where
    by : (t u : Bool) → Coded (children_under d ns) → Coded (cond t [] (cond u (n ∷ children_under d ns) (children_under d ns)))
    by true u k = tt
    by false true k = (h.0, k)
    by false false k = k

coded_among : (is : Entry → Bool) (ns : List Node) → Coded ns → Coded (among is ns)
unfolding among
coded_among is [] h = tt
coded_among is (n ∷ ns) h = by (is n.entry) (coded_among is ns h.1)
  where
    by : (t : Bool) → Coded (among is ns) → Coded (cond t (n ∷ among is ns) (among is ns))
    by true k = (h.0, k)
    by false k = k

-- their numbers
pairs_halves : (ns : List Node) → Coded ns → Halves (pairs_of ns)
unfolding pairs_of
pairs_halves [] h i = omega arith
pairs_halves (n ∷ ns) h zero = h.0.code
pairs_halves (n ∷ ns) h (suc zero) = h.0.end
pairs_halves (n ∷ ns) h (suc (suc i)) = pairs_halves ns h.1 i

codes_halves : (ns : List Node) → Coded ns → Halves (map (λ n. n.code) ns)
codes_halves [] h i = omega arith
codes_halves (n ∷ ns) h zero = h.0.code
codes_halves (n ∷ ns) h (suc i) = codes_halves ns h.1 i

map_halves : (f : ℕ → ℕ) → ((x : ℕ) → f x < 2 ^ 16) → (xs : List ℕ) → Halves (map f xs)
map_halves f h [] i = omega arith
map_halves f h (x ∷ xs) zero = h x
map_halves f h (x ∷ xs) (suc i) = map_halves f h xs i

zeros_halves : (n : ℕ) → Halves (replicate n 0)
zeros_halves zero i = omega arith
zeros_halves (suc n) zero = omega arith
zeros_halves (suc n) (suc i) = zeros_halves n i

append_halves : (xs ys : List ℕ) → Halves xs → Halves ys → Halves (xs ++ ys)
append_halves [] ys h k i = k i
append_halves (x ∷ xs) ys h k zero = h zero
append_halves (x ∷ xs) ys h k (suc i) = append_halves xs ys (λ j. h (suc j)) k i

padded_halves : (n : ℕ) (xs : List ℕ) → Halves xs → Halves (padded n xs)
unfolding padded
padded_halves n xs h = halves_take n (xs ++ replicate n 0) (append_halves xs (replicate n 0) h (zeros_halves n))

-- a list of coded nodes
list-fits : (more : Bool) (xs : List Node) → Coded xs → ListFits (list_of more xs)
list-fits more xs h = record {
  ranges = padded-long 32 (ranges_among xs);
  codes = padded-long 16 (codes_among xs);
  ends = padded_halves 32 (ranges_among xs) (pairs_halves (areas_among xs) (coded_among is_area xs h));
  services = padded_halves 16 (codes_among xs) (codes_halves (services_among xs) (coded_among is_service xs h));
}

-- what is told, or a refusal
abbrev Back : Listed → Type 0
Back x = x.answer ≡ Ok tt → read_code_list (code_list_bytes x.list) ≡ x

packet-back : (children : List Node) (p : ℕ) → Coded children → Back (packet_told children p)
unfolding packet_told
packet-back children p h = by (past_end p (length children))
  where
    by : (t : Bool) → Back (cond t (list_refused PacketPastEnd) (list_told (list_of (more_after p (length children)) (packet_of children p))))
    by true e = absurd (let z : ◌≡◌ {A = ℕ} 0 1 = cc in (omega arith))
    by false e =
        let more = more_after p (length children) in
        let ys = packet_of children p in
        list_back (list-fits more ys (coded_take 16 (drop (16 * p) children) (coded_drop (16 * p) children h)))
        ∙ ap list_told (list-whole (packets.list-whole more ys (packet-few children p)))

-- a code list that a card tells, written and read, comes back
pub code-list-back : (c : Card) (parent p : ℕ) → Coded (nodes_of c) → (code_list_of c parent p).answer ≡ Ok tt →
    read_code_list (code_list_bytes (code_list_of c parent p).list) ≡ code_list_of c parent p
unfolding code_list_of
code-list-back c parent p h = by (is_sound c) (area_named (nodes_of c) parent)
  where
    by : (t : Bool) (f : Option ℕ) → Back (cond (not t) (list_refused NotBuilt) (list_found (nodes_of c) p f))
    by false f e = absurd (let z : ◌≡◌ {A = ℕ} 0 1 = cc in (omega arith))
    by true None e = absurd (let z : ◌≡◌ {A = ℕ} 0 1 = cc in (omega arith))
    by true (Some i) e = packet-back (children_at (nodes_of c) i) p (coded_children (get_or (nodes_of c) i root_node).depth (drop (i + 1) (nodes_of c)) (coded_drop (i + 1) (nodes_of c) h)) e

-- totals and free counts are numbers of 16 bits
total_half : (ns : List Node) (code : ℕ) → total_of ns code < 2 ^ 16
unfolding total_of
total_half ns code = by (service_of ns code) (area_of ns code)
  where
    area : (g : Option ℕ) → area_total_at ns g < 2 ^ 16
    area (Some i) = omega arith
    area None = omega arith

    by : (f g : Option ℕ) → total_at ns code f < 2 ^ 16
    by (Some i) g = omega arith
    by None g = area (area_of ns code)

free_half : (ns : List Node) (unused : ℕ) → unused < 2 ^ 16 → (code : ℕ) → free_for ns unused code < 2 ^ 16
free_half ns unused h code = by (area_named ns code)
  where
    by : (f : Option ℕ) → free_by unused f < 2 ^ 16
    by (Some i) = h
    by None = omega arith

unused_half : (arena_len used : ℕ) → usable arena_len - used < 2 ^ 16
unfolding usable
unused_half arena_len used = omega arith

module _ (ns : List Node) (unused : ℕ) (asked : List ℕ) (h : unused < 2 ^ 16) (few : length asked ≤ 32) where
  counts_front : (f : ℕ → ℕ) → take (length asked) (padded 32 (map f asked)) ≡ map f asked
  counts_front f = padded_front 32 (length asked) (map f asked) (length-map asked f) few

  info_fits : InformationFits (information_of ns unused asked).told
  info_fits = record {
    assigned = padded-long 32 (map (total_of ns) asked);
    free = padded-long 32 (map (free_for ns unused) asked);
    counts = padded_halves 32 (map (total_of ns) asked) (map_halves (total_of ns) (total_half ns) asked);
    frees = padded_halves 32 (map (free_for ns unused) asked) (map_halves (free_for ns unused) (free_half ns unused h) asked);
  }

  info_whole : InformationWhole (information_of ns unused asked).told
  info_whole = record { few = few; assigned = rw (counts_front (total_of ns)); free = rw (counts_front (free_for ns unused)) }

  info_back : read_information (information_bytes (information_of ns unused asked).told) ≡ information_of ns unused asked
  info_back = information_back info_fits ∙ ap information_told (information_whole info_whole)

-- block information that a card tells, written and read, comes back
pub blocks-back : (c : Card) (arena_len : ℕ) (asked : List ℕ) → (blocks_told c arena_len asked).answer ≡ Ok tt →
    read_information (information_bytes (blocks_told c arena_len asked).told) ≡ blocks_told c arena_len asked
unfolding blocks_told
blocks-back c arena_len asked = by (is_sound c) (ltb arena_len (16 * c.used)) (ltb 32 (length asked)) refl
  where
    by : (t u v : Bool) → ltb 32 (length asked) ≡ v →
        (let x = cond (not t) (information_refused NotBuilt) (cond u (information_refused ShortArena) (cond v (information_refused TooManyNodes) (information_of (nodes_of c) (usable arena_len - c.used) asked))) in
        x.answer ≡ Ok tt → read_information (information_bytes x.told) ≡ x)
    by false u v q e = absurd (let z : ◌≡◌ {A = ℕ} 0 1 = cc in (omega arith))
    by true true v q e = absurd (let z : ◌≡◌ {A = ℕ} 0 1 = cc in (omega arith))
    by true false true q e = absurd (let z : ◌≡◌ {A = ℕ} 0 1 = cc in (omega arith))
    by true false false q e = info_back (nodes_of c) (usable arena_len - c.used) asked (unused_half arena_len c.used) (ltb-false 32 (length asked) q)

-- assigned to a node of a built card is what the card answers for its total
pub assigned-answered : {c : Card} → Built c → (code : ℕ) → total_answer c code ≡ Ok (total_of (nodes_of c) code)
unfolding total_answer
assigned-answered b code = rw (built_sound b)
