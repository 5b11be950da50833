-- Which cards fit their bytes: what is read of bytes, and what accepted calls with numbers of their fields' widths make of a card that fits.
use Rattle.std.proofs.Common.{None, Result, Ok, Err}
use mathlib.Core.Path.{◌≡◌, refl, sym, ap, subst}
use mathlib.Core.Bool.{Bool, true, false, cond}
use mathlib.Core.List.{List, [], ◌∷◌, ◌++◌}
use mathlib.Core.Logic.{⊎_elim}
use Prim.Native.Nat.{ℕ, zero, suc, ◌+◌, ◌-◌, ◌*◌, ◌<◌, ◌^◌}
use native.Mathlib.Omega.{arith}
use native.Mathlib.Decide.{dec_lt}
use lib.Dec.{eqb, ltb, leb}
use lib.IntN.{ℤ}
use lib.Signed.{mag}
use lib.ListN.{length, get_or, set, drop, replicate}
use lib.Seq.{drop_at, drop-append_seam}
use borrow.Author.Tests.{lt-ltb, le-ltb}
use Rattle.byte_parts.specs.Values.{Bytes}
use Rattle.answers.specs.declared.refusal.Refusal.{Refusal}
use Rattle.answers.specs.declared.refusal.Refusal.TheVariants.{TableFull, ShortArena}
use Rattle.byte_parts.specs.Word.{word_at, signed_of}
use Rattle.card_nodes.specs.declared.node.Entry.{Entry}
use Rattle.card_nodes.specs.declared.node.Entry.TheVariants.{Area, Service}
use Rattle.card_nodes.specs.declared.node.Node.{Node}
use Rattle.card_admit.specs.declared.Placed.{Placed}
use Rattle.card_nodes.specs.Node.{root_node, start_of, blocks_of}
use Rattle.card_admit.specs.Admit.{area_judged, placed_of, agreed}
use Rattle.card_admit.proofs.Growth.{stored, used-most}
use Rattle.card_admit.proofs.Counts.{agreed-stored}
use Rattle.card_build.specs.declared.card.System.{System}
use Rattle.card_build.specs.declared.card.Card.{Card}
use Rattle.card_build.specs.declared.card.Added.{Added}
use Rattle.card_build.specs.Card.{new_card, nodes_of, accepted, refused}
use Rattle.card_build.specs.Grow.{node_as, area_by, add_area, service_by, add_service, last_node, limit_by, set_limit}
use Rattle.card_build.specs.Build.{area_added, service_added, limit_added}
use Rattle.card_laws.specs.Built.{Built}
use Rattle.card_laws.proofs.Built.{Carded, carded, built_carded, past-eight}
use Rattle.card_laws.proofs.Places.{area_deep, service_known}
use Rattle.card_laws.proofs.Laid.{Sized, sized}
use Rattle.byte_parts.specs.Half.{half_at}
use Rattle.byte_parts.proofs.Halves.{half_fits}
use Rattle.handset_bytes.specs.Layout.{count_place, used_place, system_place, key_place, kind_place, depth_place, code_place, start_place, blocks_place, version_place, generation_place, upper_place, lower_place}
use Rattle.handset_bytes.specs.Node.{node_in}
use Rattle.handset_bytes.specs.Card.{nodes_in, card_in, is_card, no_card, card_decoded}
use Rattle.handset_bytes.specs.Fits.{LimitFits, EntryFits, NodeFits, SystemFits, Fits}
use Rattle.handset_bytes.proofs.Heads.{card_headed, nodes-count, all-count}
use Rattle.law_bytes.proofs.Records.{entry_by}
use Rattle.law_bytes.proofs.Round.{root_fits, few_fit}
use Rattle.service_code.specs.Limit.{limited_to}

-- a number of 32 bits, with a sign
signed-fits : (v : ℕ) → v < 2 ^ 32 → mag (signed_of v) < 2 ^ 31
unfolding signed_of
signed-fits v h =
    elim (dec_lt v 2147483648) [
      | yes l ↦ rw (lt-ltb v 2147483648 l) (omega arith)
      | no l ↦ rw (le-ltb v 2147483648 (omega arith)) (omega arith)
    ]

-- four bytes make one
bound_fits : (s : List ℕ) (at : ℕ) → Bytes s → mag (signed_of (word_at s at)) < 2 ^ 31
unfolding word_at
bound_fits s at b = signed-fits (word_at s at) (omega (arith, b at, b (at + 1), b (at + 2), b (at + 3)))

-- what record i reads as fits
node-fits : (s : List ℕ) (i : ℕ) → Bytes s → NodeFits (node_in s i)
unfolding node_in
node-fits s i b = record {
  depth = b (depth_place i);
  code = half (code_place i);
  version = half (version_place i);
  entry = by (eqb (get_or s (kind_place i) 0) 0) (eqb (get_or s (kind_place i) 0) 2);
}
  where
    half : (at : ℕ) → half_at s at < 2 ^ 16
    half at = half_fits s at (b at) (b (at + 1))

    by : (t u : Bool) → EntryFits (entry_by s i t u)
    by true u = half (start_place i)
    by false true = (half (start_place i), half (blocks_place i), (bound_fits s (upper_place i) b, bound_fits s (lower_place i) b, b (generation_place i)))
    by false false = (half (start_place i), half (blocks_place i), tt)

-- unused records fit
roots_fit_lem : (n i : ℕ) → NodeFits (get_or (replicate n root_node) i root_node)
roots_fit_lem zero i = root_fits
roots_fit_lem (suc n) zero = root_fits
roots_fit_lem (suc n) (suc i) = roots_fit_lem n i

nodes_fit : (m n i : ℕ) (s : List ℕ) → Bytes s → (j : ℕ) → NodeFits (get_or (nodes_in n i s ++ replicate m root_node) j root_node)
unfolding nodes_in
nodes_fit m zero i s b j = roots_fit_lem m j
nodes_fit m (suc n) i s b zero = node-fits s i b
nodes_fit m (suc n) i s b (suc j) = nodes_fit m n (i + 1) s b j

-- what a card's bytes read as fits
pub card-fits : (s : List ℕ) → Bytes s → is_card s ≡ true → Fits (card_in s)
card-fits s b e =
    let n = half_at s count_place in
    let h = (card_headed s e).0 in
    record {
      nodes = nodes_fit (64 - n) n 0 s b;
      records = all-count s h.count;
      count = h.count;
      unused = drop_at (nodes_in n 0 s) (replicate (64 - n) root_node) n (nodes-count n 0 s);
      used = half_fits s used_place (b used_place) (b (used_place + 1));
      system = record {
        code = half_fits s system_place (b system_place) (b (system_place + 1));
        version = half_fits s key_place (b key_place) (b (key_place + 1));
      };
    }

-- a new card fits
pub new-fits : (system : System) → SystemFits system → Fits (new_card system)
new-fits system h = record { nodes = roots_fit_lem 64; records = refl; count = omega arith; unused = refl; used = omega arith; system = h }

-- so does what stands for none
none-fits : Fits no_card
none-fits = record {
  nodes = roots_fit_lem 64;
  records = refl;
  count = omega arith;
  unused = refl;
  used = omega arith;
  system = record { code = omega arith; version = omega arith };
}

-- what is decoded fits
pub decoded_fits : (s : List ℕ) → Bytes s → Fits (card_decoded s)
unfolding card_decoded
decoded_fits s b = by (is_card s) refl
  where
    by : (t : Bool) → is_card s ≡ t → Fits (cond t (card_in s) no_card)
    by true e = card-fits s b e
    by false e = none-fits

-- records past the count of a card that is produced are unused
unused : {c : Card} → Carded c → drop c.count c.nodes ≡ replicate (64 - c.count) root_node
unused (carded system {ns = ns} m h) = drop-append_seam ns (replicate (64 - length ns) root_node)

-- every card that accepted additions and limits produce fits, its nodes' numbers being of their types
pub built-fits : {c : Card} → Built c → ((i : ℕ) → NodeFits (get_or c.nodes i root_node)) → SystemFits c.system → Fits c
built-fits b n s =
    let z = sized b in
    record { nodes = n; records = z.long; count = z.few; unused = unused (built_carded b); used = omega (arith, z.most); system = s }

-- one record anew
set-fits : (ns : List Node) (k : ℕ) (n : Node) → ((i : ℕ) → NodeFits (get_or ns i root_node)) → NodeFits n →
    (i : ℕ) → NodeFits (get_or (set ns k n) i root_node)
set-fits [] k n old new i = old i
set-fits (x ∷ ns) zero n old new zero = new
set-fits (x ∷ ns) zero n old new (suc i) = old (suc i)
set-fits (x ∷ ns) (suc k) n old new zero = old 0
set-fits (x ∷ ns) (suc k) n old new (suc i) = set-fits ns k n (λ j. old (suc j)) new i

-- a call that was refused is not accepted
not_accepted : {A : Type 0} {c c' : Card} {r : Refusal} → refused c r ≡ accepted c' → A
not_accepted e = let a : Err _ ≡ (Ok tt) = ap (λ (x : Added). x.answer) e in absurd (let z : ◌≡◌ {A = ℕ} 0 1 = cc in (omega arith))

-- the card of an accepted call fits, if its nodes do
then-fits : {c d c' : Card} → Fits c → Built c' → accepted d ≡ accepted c' → d.system ≡ c.system →
    ((i : ℕ) → NodeFits (get_or d.nodes i root_node)) → Fits c'
then-fits {c = c} {d = d} {c' = c'} f b e y n =
    let same : d ≡ c' = ap (λ (x : Added). x.card) e in
    built-fits b (subst (λ (x : Card). (i : ℕ) → NodeFits (get_or x.nodes i root_node)) same n)
    (subst (λ (x : Card). SystemFits x.system) same (subst SystemFits (sym y) f.system))

module _ {c c' : Card} (f : Fits c) where
  -- an accepted area
  pub area-fits : (depth code end version : ℕ) → code < 2 ^ 16 → end < 2 ^ 16 → version < 2 ^ 16 →
      area_added c depth code end version ≡ accepted c' → Fits c'
  unfolding area_added add_area
  area-fits depth code end version h k l e =
      let p = past-eight c f.records e in
      full (leb 64 c.count) (Built.area depth code end version p.0 p.1) p.1
    where
      n : Node
      n = node_as depth code version (Area end)

      by : (a : Result Unit Refusal) → area_judged (nodes_of c) depth code end ≡ a → Built c' → area_by c n a ≡ accepted c' → Fits c'
      by (Ok tt) j z e =
          let d = area_deep (nodes_of c) depth code end j in
          let x : NodeFits n = record { depth = omega arith; code = h; version = l; entry = k } in
          then-fits f z e refl (set-fits c.nodes c.count n f.nodes x)
      by (Err r) j z e = not_accepted e

      full : (t : Bool) → Built c' → cond t (refused c TableFull) (area_by c n (area_judged (nodes_of c) depth code end)) ≡ accepted c' → Fits c'
      full true z e = not_accepted e
      full false z e = by (area_judged (nodes_of c) depth code end) refl z e

  -- an accepted service
  pub service-fits : (arena_len depth code blocks version : ℕ) → code < 2 ^ 16 → version < 2 ^ 16 →
      service_added c arena_len depth code blocks version ≡ accepted c' → Fits c'
  unfolding service_added add_service
  service-fits arena_len depth code blocks version h l e =
      let p = past-eight c f.records e in
      short (ltb arena_len (16 * c.used)) (leb 64 c.count) (sized p.0) (Built.service arena_len depth code blocks version p.0 p.1) p.1
    where
      store : (e : Entry) → EntryFits e → (start_of e < 2 ^ 16) × (blocks_of e < 2 ^ 16)
      store (Area end) g = (omega arith, omega arith)
      store (Service s b l) g = (g.0, g.1)

      by : (a : Result Placed Refusal) → agreed c.system.join blocks (placed_of (nodes_of c) c.used arena_len depth code blocks) ≡ a → Sized c → Built c' →
          service_by c depth code version a ≡ accepted c' → Fits c'
      by (Ok placed) k z y e =
          let j = agreed-stored c.system.join blocks (placed_of (nodes_of c) c.used arena_len depth code blocks) k in
          let d = service_known (nodes_of c) c.used arena_len depth code blocks j in
          let least = used-most (nodes_of c) depth code c.used arena_len blocks j z.most in
          let own : (placed.start < 2 ^ 16) × (placed.blocks < 2 ^ 16) =
          ⊎_elim
          (λ o.
          let g = store (get_or (nodes_of c) o.first root_node).entry (few_fit c.count o.first c.nodes root_fits f.nodes).entry in
          (omega arith, omega arith))
          (λ o. (omega arith, omega arith))
          (stored (nodes_of c) depth code c.used arena_len blocks j) in
          let x : NodeFits (node_as depth code version (Service placed.start placed.blocks None)) =
          record { depth = omega arith; code = h; version = l; entry = (own.0, own.1, tt) } in
          then-fits f y e refl (set-fits c.nodes c.count _ f.nodes x)
      by (Err r) j z y e = not_accepted e

      short : (t u : Bool) → Sized c → Built c' → cond t (refused c ShortArena) (cond u (refused c TableFull)
          (service_by c depth code version (agreed c.system.join blocks (placed_of (nodes_of c) c.used arena_len depth code blocks)))) ≡ accepted c' → Fits c'
      short true u z y e = not_accepted e
      short false true z y e = not_accepted e
      short false false z y e = by (agreed c.system.join blocks (placed_of (nodes_of c) c.used arena_len depth code blocks)) refl z y e

  -- an accepted limit
  pub limit-fits : (upper lower : ℤ) (generation : ℕ) → LimitFits (limited_to upper lower generation) →
      limit_added c upper lower generation ≡ accepted c' → Fits c'
  unfolding limit_added set_limit
  limit-fits upper lower generation h e =
      let p = past-eight c f.records e in
      by (last_node c).entry (f.nodes (c.count - 1)).entry (Built.limit upper lower generation p.0 p.1) p.1
    where
      by : (t : Entry) → EntryFits t → Built c' → limit_by c (limited_to upper lower generation) t ≡ accepted c' → Fits c'
      by (Area end) g y e = not_accepted e
      by (Service s b old) g y e =
          let o = f.nodes (c.count - 1) in
          let x : NodeFits (node_as (last_node c).depth (last_node c).code (last_node c).version (Service s b (limited_to upper lower generation))) =
          record { depth = o.depth; code = o.code; version = o.version; entry = (g.0, g.1, h) } in
          then-fits f y e refl (set-fits c.nodes (c.count - 1) _ f.nodes x)
