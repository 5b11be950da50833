-- An accepted call keeps what was found before.
use Rattle.std.proofs.Common.{Option, Some}
use mathlib.Core.Path.{◌≡◌, refl, sym, ◌∙◌, ap}
use mathlib.Core.Bool.{Bool}
use mathlib.Core.List.{List, [], ◌∷◌, ◌++◌, map, map-append}
use Prim.Native.Nat.{ℕ, zero, suc, ◌+◌, ◌<◌}
use native.Mathlib.Omega.{arith}
use lib.IntN.{ℤ}
use lib.ListN.{length, length-append, get_or-append}
use lib.Seq.{take-append_seam}
use Rattle.service_code.specs.declared.limit.Limit.{Limit}
use Rattle.card_nodes.specs.declared.node.Entry.TheVariants.{Service}
use Rattle.card_nodes.specs.declared.node.Node.{Node}
use Rattle.card_nodes.specs.Node.{root_node, is_area, end_of, start_of, blocks_of}
use Rattle.card_nodes.specs.Find.{first_from, service_of, area_of, shared_of}
use Rattle.card_nodes.proofs.Searches.{first-kept, first-map}
use Rattle.card_build.specs.declared.card.Card.{Card}
use Rattle.card_build.specs.Card.{nodes_of, accepted}
use Rattle.card_build.specs.Grow.{node_as, add_area, add_service, set_limit}
use Rattle.card_laws.specs.Built.{Built}
use Rattle.card_laws.proofs.Built.{Follows, built_carded, area_follows, service_follows, limit_follows}
use Rattle.card_laws.proofs.Laid.{node_at}

-- a node as it was, but for its limit
pub record Alike (n m : Node) : Type 0 where
  pub depth : m.depth ≡ n.depth
  pub code : m.code ≡ n.code
  pub version : m.version ≡ n.version
  pub area : is_area m.entry ≡ is_area n.entry
  pub end : end_of m.entry ≡ end_of n.entry
  pub start : start_of m.entry ≡ start_of n.entry
  pub blocks : blocks_of m.entry ≡ blocks_of n.entry

-- nodes, and those after an accepted call
pub record Kept (ns ms : List Node) : Type 0 where
  -- a service or an area that was found is found at its index
  pub service : (code : ℕ) {i : ℕ} → service_of ns code ≡ Some i → service_of ms code ≡ Some i
  pub area : (code : ℕ) {i : ℕ} → area_of ns code ≡ Some i → area_of ms code ≡ Some i
  pub shared : (code : ℕ) {i : ℕ} → shared_of ns code ≡ Some i → shared_of ms code ≡ Some i
  -- each node is as it was, but for a limit
  pub alike : (i : ℕ) → i < length ns → Alike (node_at ns i) (node_at ms i)
  -- and that only at the last
  pub same : (i : ℕ) → i + 1 < length ns → node_at ms i ≡ node_at ns i

itself : (n : Node) → Alike n n
itself n = record { depth = refl; code = refl; version = refl; area = refl; end = refl; start = refl; blocks = refl }

-- one node more
kept-added : (ns : List Node) (n : Node) → Kept ns (ns ++ (n ∷ []))
kept-added ns n = record {
  service = λ code e. first-kept _ 0 ns (n ∷ []) e;
  area = λ code e. first-kept _ 0 ns (n ∷ []) e;
  shared = λ code e. first-kept _ 0 ns (n ∷ []) e;
  alike = λ i h. rw (get_or-append ns (n ∷ []) root_node i h) (itself (node_at ns i));
  same = λ i h. get_or-append ns (n ∷ []) root_node i (omega arith);
}

-- the last node anew
alike_last : (ns : List Node) (n m : Node) → Alike n m → (i : ℕ) → Alike (node_at (ns ++ (n ∷ [])) i) (node_at (ns ++ (m ∷ [])) i)
alike_last [] n m a zero = a
alike_last [] n m a (suc i) = itself root_node
alike_last (x ∷ ns) n m a zero = itself x
alike_last (x ∷ ns) n m a (suc i) = alike_last ns n m a i

-- a search that does not tell the last nodes apart
found_last : (t : Node → Bool) (ns : List Node) (n m : Node) → t n ≡ t m → first_from t 0 (ns ++ (m ∷ [])) ≡ first_from t 0 (ns ++ (n ∷ []))
found_last t ns n m e =
    first-map t 0 (ns ++ (m ∷ [])) (ns ++ (n ∷ []))
    (map-append t ns (m ∷ []) ∙ ap (λ b. map t ns ++ (b ∷ [])) (sym e) ∙ sym (map-append t ns (n ∷ [])))

kept-limit : (ns : List Node) (depth code version s b : ℕ) (old new : Option Limit) →
    Kept (ns ++ (node_as depth code version (Service s b old) ∷ [])) (ns ++ (node_as depth code version (Service s b new) ∷ []))
kept-limit ns depth code version s b old new =
    let n = node_as depth code version (Service s b old) in
    let m = node_as depth code version (Service s b new) in
    let a : Alike n m = record { depth = refl; code = refl; version = refl; area = refl; end = refl; start = refl; blocks = refl } in
    record {
      service = λ code e. found_last _ ns n m refl ∙ e;
      area = λ code e. found_last _ ns n m refl ∙ e;
      shared = λ code e. found_last _ ns n m refl ∙ e;
      alike = λ i h. alike_last ns n m a i;
      same = λ i h.
          let o : i < length ns = omega (arith, h, length-append ns (n ∷ [])) in
          get_or-append ns (m ∷ []) root_node i o ∙ sym (get_or-append ns (n ∷ []) root_node i o);
    }

follows_kept : {c c' : Card} → Follows c c' → Kept (nodes_of c) (nodes_of c')
follows_kept (Follows.added system used ns n m h) = simp take-append_seam (kept-added ns n)
follows_kept (Follows.limited system ns depth code version s b old new m h) =
    simp take-append_seam (kept-limit ns depth code version s b old new)

module _ {c c' : Card} (b : Built c) where
  -- an accepted area keeps what was found
  pub area-kept : (depth code end version : ℕ) → add_area c depth code end version ≡ accepted c' → Kept (nodes_of c) (nodes_of c')
  area-kept depth code end version e = follows_kept (area_follows depth code end version (built_carded b) e)

  -- and so does an accepted service
  pub service-kept : (arena_len depth code blocks version : ℕ) →
      add_service c arena_len depth code blocks version ≡ accepted c' → Kept (nodes_of c) (nodes_of c')
  service-kept arena_len depth code blocks version e = follows_kept (service_follows arena_len depth code blocks version (built_carded b) e)

  -- and a limit
  pub limit-kept : (upper lower : ℤ) (generation : ℕ) → set_limit c upper lower generation ≡ accepted c' → Kept (nodes_of c) (nodes_of c')
  limit-kept upper lower generation e = follows_kept (limit_follows upper lower generation (built_carded b) e)
