-- Whatever lines a replay has taken, its card has 64 records. Assumes nothing.
use Rattle.std.proofs.Common.{Result, Ok, Err, Option, Some, None}
use Prim.Native.Nat.{ℕ, ◌-◌, ◌*◌}
use mathlib.Core.Path.{◌≡◌, refl, ◌∙◌}
use mathlib.Core.Bool.{Bool, true, false, not, cond}
use mathlib.Core.List.{List, [], ◌∷◌}
use lib.Dec.{ltb, leb}
use lib.IntN.{ℤ}
use lib.ListN.{length, length-set, length-replicate}
use Rattle.answers.specs.declared.refusal.Refusal.TheVariants.{TableFull, ShortArena, NotBuilt}
use Rattle.text_fields.specs.Field.{split}
use Rattle.card_nodes.specs.declared.node.Entry.{Entry}
use Rattle.card_nodes.specs.declared.node.Entry.TheVariants.{Area, Service}
use Rattle.card_nodes.specs.Node.{root_node}
use Rattle.card_admit.specs.declared.Placed.{Placed}
use Rattle.card_admit.specs.Admit.{area_judged, placed_of, agreed}
use Rattle.card_build.specs.declared.card.Card.{Card}
use Rattle.card_build.specs.Card.{nodes_of, is_sound, refused}
use Rattle.card_build.specs.Grow.{node_as, area_by, add_area, service_by, add_service, last_node, limit_by, set_limit}
use Rattle.card_build.specs.Build.{area_added, service_added, limit_added}
use Rattle.line_image.specs.declared.line.Line.{Line}
use Rattle.line_image.specs.declared.line.Line.TheVariants as lines
use Rattle.line_image.specs.Line.{image_line}
use Rattle.line_build.specs.Image.{line_carried, image_step}
use Rattle.replay_kind.specs.declared.Kind.{Kind}
use Rattle.replay_kind.specs.declared.Kind.TheVariants as kinds
use Rattle.replay_kind.specs.Kind.{taken_for}
use Rattle.replay_line.specs.Replay.{Held, held_by, line_held, held_at_start}
use Rattle.law_lines.specs.Lines.{held_after}
use Rattle.answers.specs.declared.refusal.Refusal.{Refusal}
use Rattle.service_code.specs.Limit.{limited_to}

module _ (c : Card) where
  -- an area leaves as many records as there were
  area-long : (depth code end version : ℕ) → length (area_added c depth code end version).card.nodes ≡ length c.nodes
  unfolding area_added add_area
  area-long depth code end version = by (not (is_sound c)) (leb 64 c.count) (area_judged (nodes_of c) depth code end)
    where
      by : (t u : Bool) (x : Result Unit Refusal) →
          length (cond t (refused c NotBuilt) (cond u (refused c TableFull) (area_by c (node_as depth code version (Area end)) x))).card.nodes
          ≡ length c.nodes
      by true u x = refl
      by false true x = refl
      by false false (Err r) = refl
      by false false (Ok tt) = length-set c.nodes c.count _

  -- so does a service
  service-long : (arena_len depth code blocks version : ℕ) →
      length (service_added c arena_len depth code blocks version).card.nodes ≡ length c.nodes
  unfolding service_added add_service
  service-long arena_len depth code blocks version =
      by (not (is_sound c)) (ltb arena_len (16 * c.used)) (leb 64 c.count)
      (agreed c.system.join blocks (placed_of (nodes_of c) c.used arena_len depth code blocks))
    where
      by : (t s u : Bool) (p : Result Placed Refusal) →
          let x = cond s (refused c ShortArena) (cond u (refused c TableFull) (service_by c depth code version p)) in
          length (cond t (refused c NotBuilt) x).card.nodes ≡ length c.nodes
      by true s u p = refl
      by false true u p = refl
      by false false true p = refl
      by false false false (Err r) = refl
      by false false false (Ok placed) = length-set c.nodes c.count _

  -- and a limit
  limit-long : (upper lower : ℤ) (generation : ℕ) → length (limit_added c upper lower generation).card.nodes ≡ length c.nodes
  unfolding limit_added set_limit
  limit-long upper lower generation = by (not (is_sound c)) (last_node c).entry
    where
      by : (t : Bool) (e : Entry) →
          length (cond t (refused c NotBuilt) (limit_by c (limited_to upper lower generation) e)).card.nodes ≡ length c.nodes
      by true e = refl
      by false (Area end) = refl
      by false (Service s b old) = length-set c.nodes (c.count - 1) _

  -- a whole image line leaves 64 of 64
  image-long : (first : Bool) (a line : List ℕ) → length c.nodes ≡ 64 → length (image_step first c a line).added.card.nodes ≡ 64
  unfolding image_step
  image-long first a line h = by (image_line first line)
    where
      by : (x : Option Line) → length (line_carried c a (split 9 line) x).added.card.nodes ≡ 64
      by None = h
      by (Some (lines.Card system)) = length-replicate 64 root_node
      by (Some (lines.Area depth code end version)) = area-long depth code end version ∙ h
      by (Some (lines.Service depth code blocks version)) = service-long (length a) depth code blocks version ∙ h
      by (Some (lines.Limit upper lower generation)) = limit-long upper lower generation ∙ h
      by (Some (lines.Block code number)) = h

-- so does any line
line-long : (s : Held) (line : List ℕ) → length s.replay.card.nodes ≡ 64 → length (line_held s line).replay.card.nodes ≡ 64
unfolding line_held
line-long s line h = by (taken_for s.replay.phase line)
  where
    by : (k : Option Kind) → length (held_by k s line).replay.card.nodes ≡ 64
    by (Some (kinds.Image first)) = image-long s.replay.card first s.arena line h
    by (Some kinds.Request) = h
    by (Some kinds.Board) = h
    by None = h

lines_long : (ls : List (List ℕ)) (s : Held) → length s.replay.card.nodes ≡ 64 → length (held_after s ls).replay.card.nodes ≡ 64
unfolding held_after
lines_long [] s h = h
lines_long (line ∷ ls) s h = lines_long ls (line_held s line) (line-long s line h)

pub state-long : (ls : List (List ℕ)) → length (held_after held_at_start ls).replay.card.nodes ≡ 64
state-long ls = lines_long ls held_at_start (length-replicate 64 root_node)
