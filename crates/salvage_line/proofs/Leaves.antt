-- A refused line leaves the card and the arena as they were. Assumes nothing.
use Rattle.std.proofs.Common.{Option, Result, Ok, Err, Some, None}
use Prim.Native.Nat.{ℕ, ◌-◌, ◌*◌}
use native.Mathlib.Omega.{arith}
use mathlib.Core.Path.{◌≡◌, refl, sym, ap}
use mathlib.Core.Bool.{Bool, true, false, cond, not, false≢true}
use mathlib.Core.List.{List, []}
use lib.Dec.{ltb, leb}
use lib.IntN.{ℤ}
use lib.ListN.{length, replicate, get_or}
use Rattle.answers.specs.declared.refusal.Refusal.{Refusal}
use Rattle.answers.specs.declared.refusal.Refusal.TheVariants.{NotBuilt, ShortArena, TableFull}
use Rattle.byte_parts.specs.Part.{put}
use Rattle.text_fields.specs.Field.{split}
use Rattle.text_numbers.specs.Hex.{unhex}
use Rattle.card_nodes.specs.declared.node.Node.{Node}
use Rattle.card_nodes.specs.declared.node.Entry.{Entry}
use Rattle.card_nodes.specs.declared.node.Entry.TheVariants as entries
use Rattle.service_code.specs.declared.limit.Limit.{Limit}
use Rattle.card_admit.specs.declared.Placed.{Placed}
use Rattle.card_admit.specs.Admit.{area_judged, placed_of, agreed}
use Rattle.card_build.specs.declared.card.Card.{Card}
use Rattle.card_build.specs.declared.card.Added.{Added}
use Rattle.card_build.specs.Card.{nodes_of, is_sound, accepted, refused}
use Rattle.card_build.specs.Grow.{node_as, area_by, add_area, service_by, add_service, last_node, limit_by, set_limit}
use Rattle.card_build.specs.Build.{area_added, service_added, arena_added, limit_added}
use Rattle.request_block.specs.Block.{block_judged, set_by, arena_set}
use Rattle.line_image.specs.declared.line.Line.{Line}
use Rattle.line_image.specs.declared.line.Line.TheVariants.{Card as New, Area, Service, Limit as Bounds, Block}
use Rattle.line_image.specs.Line.{image_line}
use Rattle.line_build.specs.Image.{Imaged, line_carried, image_step}
use Rattle.salvage_rule.specs.Salvage.{fate_by, built_by}
use Rattle.salvage_line.specs.Image.{Image, imaged, ruling_by, line_ruled, fate_on}
use Rattle.service_code.specs.Limit.{limited_to}

-- an addition that leaves the card where it refuses
abbrev Leaves : Card → Added → Type 0
Leaves c a = (r : Refusal) → a.answer ≡ Err r → a.card ≡ c

is_done : Result Unit Refusal → Bool
is_done (Ok tt) = true
is_done (Err r) = false

done_no : {r : Refusal} → ◌≡◌ {A = Result Unit Refusal} (Ok tt) (Err r) → ⊥
unfolding is_done
done_no e = false≢true (sym (ap is_done e))

leaves_cond : (c : Card) (t : Bool) (a b : Added) → Leaves c a → Leaves c b → Leaves c (cond t a b)
leaves_cond c true a b p q = p
leaves_cond c false a b p q = q

leaves_refused : (c : Card) (r : Refusal) → Leaves c (refused c r)
leaves_refused c r s e = refl

leaves_accepted : (c d : Card) → Leaves c (accepted d)
leaves_accepted c d r e = absurd (done_no e)

leaves_area : (c : Card) (n : Node) (a : Result Unit Refusal) → Leaves c (area_by c n a)
leaves_area c n (Ok tt) r e = absurd (done_no e)
leaves_area c n (Err s) r e = refl

leaves_service : (c : Card) (depth code version : ℕ) (p : Result Placed Refusal) → Leaves c (service_by c depth code version p)
leaves_service c depth code version (Err s) r e = refl
leaves_service c depth code version (Ok placed) r e = absurd (done_no e)

leaves_limit : (c : Card) (l : Option Limit) (n : Entry) → Leaves c (limit_by c l n)
leaves_limit c l (entries.Area e) r q = refl
leaves_limit c l (entries.Service s b old) r q = absurd (done_no q)

area_leaves : (c : Card) (depth code end version : ℕ) → Leaves c (area_added c depth code end version)
unfolding area_added add_area
area_leaves c depth code end version =
    leaves_cond c (not (is_sound c)) (refused c NotBuilt) (add_area c depth code end version) (leaves_refused c NotBuilt)
    (leaves_cond c (leb 64 c.count) (refused c TableFull) (area_by c (node_as depth code version (entries.Area end)) (area_judged (nodes_of c) depth code end))
    (leaves_refused c TableFull) (leaves_area c (node_as depth code version (entries.Area end)) (area_judged (nodes_of c) depth code end)))

service_leaves : (c : Card) (n depth code blocks version : ℕ) → Leaves c (service_added c n depth code blocks version)
unfolding service_added add_service
service_leaves c n depth code blocks version =
    leaves_cond c (not (is_sound c)) (refused c NotBuilt) (add_service c n depth code blocks version) (leaves_refused c NotBuilt)
    (leaves_cond c (ltb n (16 * c.used)) (refused c ShortArena) _ (leaves_refused c ShortArena)
    (leaves_cond c (leb 64 c.count) (refused c TableFull) _ (leaves_refused c TableFull)
    (leaves_service c depth code version (agreed c.system.join blocks (placed_of (nodes_of c) c.used n depth code blocks)))))

limit_leaves : (c : Card) (u l : ℤ) (g : ℕ) → Leaves c (limit_added c u l g)
unfolding limit_added set_limit
limit_leaves c u l g =
    leaves_cond c (not (is_sound c)) (refused c NotBuilt) (set_limit c u l g) (leaves_refused c NotBuilt)
    (leaves_limit c (limited_to u l g) (last_node c).entry)

-- no block is newly in use, so no byte is zeroed
put-none : (a : List ℕ) (at n : ℕ) (t : List ℕ) → n ≡ 0 → put a at n t ≡ a
unfolding put
put-none a at n t e = rw e

arena_leaves : (c : Card) (d : Added) (a : List ℕ) → d.card ≡ c → arena_added c d a ≡ a
unfolding arena_added
arena_leaves c d a e =
    let z : 16 * (c.used - c.used) ≡ 0 = omega arith in
    rw e (put-none a (16 * c.used) (16 * (c.used - c.used)) (replicate (16 * (c.used - c.used)) 0) z)

set_leaves : (c : Card) (a : List ℕ) (code number : ℕ) (block : List ℕ) (x : Result Unit Refusal) (r : Refusal) → x ≡ Err r → set_by c a code number block x ≡ a
set_leaves c a code number block (Ok tt) r e = absurd (done_no e)
set_leaves c a code number block (Err s) r e = refl

-- a refused line leaves both
abbrev pub LeavesBoth : Card → List ℕ → Imaged → Type 0
LeavesBoth c a m = (r : Refusal) → m.added.answer ≡ Err r → (m.added.card ≡ c) × (m.arena ≡ a)

carried_leaves : (c : Card) (a : List ℕ) (fs : List (List ℕ)) (l : Option Line) → LeavesBoth c a (line_carried c a fs l)
unfolding arena_set
carried_leaves c a fs None r e = (refl, refl)
carried_leaves c a fs (Some (New system)) r e = absurd (done_no e)
carried_leaves c a fs (Some (Area depth code end version)) r e = (area_leaves c depth code end version r e, refl)
carried_leaves c a fs (Some (Service depth code blocks version)) r e =
    let k = service_leaves c (length a) depth code blocks version r e in
    (k, arena_leaves c (service_added c (length a) depth code blocks version) a k)
carried_leaves c a fs (Some (Bounds upper lower generation)) r e = (limit_leaves c upper lower generation r e, refl)
carried_leaves c a fs (Some (Block code number)) r e =
    (refl, set_leaves c a code number (unhex (get_or fs 3 [])) (block_judged c (length a) code number) r e)

-- A refused line leaves both.
pub refused_leaves : (first : Bool) (c : Card) (a l : List ℕ) → LeavesBoth c a (image_step first c a l)
unfolding image_step
refused_leaves first c a l = carried_leaves c a (split 9 l) (image_line first l)

-- What is built after a line that the builder judged is what `image_step` leaves, accepted or refused.
built_by_lem
    : (c : Card) (a : List ℕ) (m : Imaged) (x : Result Unit Refusal) → m.added.answer ≡ x → LeavesBoth c a m
    → built_by false (imaged c a) (ruling_by x (imaged m.added.card m.arena)) ≡ imaged m.added.card m.arena
built_by_lem c a m (Ok tt) e k = refl
built_by_lem c a m (Err r) e k = let q = k r e in rw (q.0, q.1)

pub step_built
    : (c : Card) (a l : List ℕ)
    → built_by false (imaged c a) (line_ruled false (imaged c a) l) ≡ imaged (image_step false c a l).added.card (image_step false c a l).arena
unfolding line_ruled
step_built c a l = built_by_lem c a (image_step false c a l) (image_step false c a l).added.answer refl (refused_leaves false c a l)

fate_by_lem : (x : Result Unit Refusal) (i : Image) → fate_by false (ruling_by x i) ≡ fate_on x
fate_by_lem (Ok tt) i = refl
fate_by_lem (Err r) i = refl

-- And its fate goes by the answer alone.
pub step_fate
    : (c : Card) (a l : List ℕ) → fate_by false (line_ruled false (imaged c a) l) ≡ fate_on (image_step false c a l).added.answer
unfolding line_ruled
step_fate c a l =
    fate_by_lem (image_step false c a l).added.answer (imaged (image_step false c a l).added.card (image_step false c a l).arena)
