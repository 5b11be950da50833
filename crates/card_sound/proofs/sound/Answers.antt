-- The code tests in the definition's order; what it keeps of the records passed is what the definition finds among them.
use Rattle.std.proofs.Common.{◌≡◌, ◌∙◌, ◌<◌, ℕ, List, true, length, take, get_or, sym, ap, arith, rules}
use Rattle.card_nodes.specs.declared.node.Node.{Node}
use Rattle.card_nodes.specs.declared.node.Entry.TheVariants.{Area}
use Rattle.card_nodes.specs.Find.{shared_of}
use Rattle.card_nodes.specs.Node.{root_node}
use Rattle.card_nodes.proofs.Scan.{done}
use Rattle.card_admit.specs.Admit.{first_in}
use Rattle.card_sound.specs.Sound.{step_of, steps_from, steps_of, ends_at, sound_of}
use Rattle.card_sound.specs.Walk.{starting, depth_open}
use Rattle.card_sound.proofs.Laws.{same_read}
use Rattle.card_sound.proofs.Kept.{Within, open_within}
use Rattle.card_sound.proofs.Turns.{stops}
use Rattle.card_sound.proofs.Walk.{starts_with, sound_from, begun, closed, parent-index, first-at, first-is, steps, next}
use Rattle.card_sound.proofs.sound.Goals as goal
use Rattle.card_sound.proofs.sound.Goals.{After-starts, Else-not-starts, Else-not-all_unused, Else-not-is_open, After-number_of-number, After-first_by-first, After-step_under}

-- the first record is read as the definition reads it
begins : (c : After-starts) → starting c.args.count (get_or c.args.nodes 0 root_node) ≡ c.starts.result
begins c =
    let all : length c.args.nodes ≡ 64 = search rules in
    ap (starting c.args.count) (same_read c.args.nodes 0 root_node _ (omega arith)) ∙ sym c.starts.ensures

rooted : (c : Else-not-starts) → starting c.args.count (get_or c.args.nodes 0 root_node) ≡ true
rooted c =
    let all : length c.args.nodes ≡ 64 = search rules in
    ap (starting c.args.count) (same_read c.args.nodes 0 root_node _ (omega arith)) ∙ sym c.starts.ensures ∙ c.if-not-starts.false

-- where the unused records are, the steps decide
settled : (c : Else-not-all_unused) → ends_at c.args.used (steps_of (take c.args.count c.args.nodes)) ≡ sound_of c.args.nodes c.args.count c.args.used
settled c =
    let all : length c.args.nodes ≡ 64 = search rules in
    let r : starting c.args.count (get_or c.args.nodes 0 root_node) ≡ true =
    ap (starting c.args.count) (same_read c.args.nodes 0 root_node _ (omega arith)) ∙ sym c.starts.ensures ∙ c.if-not-starts.false in
    rw (r, sym c.all_unused.ensures ∙ c.if-not-all_unused.false) at (sound_from c.args.nodes c.args.count c.args.used)

-- the record at i
abbrev node : List Node → ℕ → Node
node nodes i = get_or nodes i (record { depth = 0; code = 0; version = 0; entry = Area 0 })

-- it may come there
opened : (c : Else-not-is_open) → depth_open (node c.args.nodes c.loop-i.i).depth c.loop-i.deepest ≡ true
opened c = sym c.is_open.ensures ∙ c.if-not-is_open.false

within : (c : Else-not-is_open) → Within (node c.args.nodes c.loop-i.i).depth c.loop-i.deepest
within c = open_within _ _ (opened c)

-- its parent is one of the records
parent_below : (c : Else-not-is_open) → get_or c.loop-i.parents (node c.args.nodes c.loop-i.i).depth 0 < 64
parent_below c = parent-index c.loop-i.invariant (omega arith) _ (opened c)

-- and so is the first service of its number
first_below : (c : After-number_of-number) → get_or c.loop-i.firsts c.number_of-number.result 0 < 64
first_below c = first-at c.loop-i.invariant (omega arith) _ c.number_of-number.ensures.0 c.number_of-number.ensures.1

first-known : (c : After-first_by-first) →
    let before = take c.loop-i.i c.args.nodes in
    c.first_by-first.result ≡ first_in before (shared_of before (node c.args.nodes c.loop-i.i).code)
first-known c =
    first-is c.loop-i.invariant (omega arith) _ c.number_of-number.ensures.0 c.number_of-number.ensures.1 _ c.first_by-first.ensures

stepped : (c : After-step_under) →
    c.step_under.result ≡ step_of (take c.loop-i.i c.args.nodes) c.loop-i.now (node c.args.nodes c.loop-i.i)
stepped c =
    let known = first-is c.loop-i.invariant (omega arith) _ c.number_of-number.ensures.0 c.number_of-number.ensures.1 _ c.first_by-first.ensures in
    steps c.loop-i.invariant (omega arith) _ (sym c.is_open.ensures ∙ c.if-not-is_open.false) _ known c.step_under.ensures

pub returns-then-not-starts : goal.returns-then-not-starts
returns-then-not-starts c =
    let e = begins (goal.at.returns-then-not-starts c).After-starts ∙ c.if-not-starts.true in
    rw e at (sound_from c.args.nodes c.args.count c.args.used)

pub all_unused-requires : goal.all_unused-requires
all_unused-requires c = (starts_with _ _ (rooted c)).most

pub returns-then-not-all_unused : goal.returns-then-not-all_unused
returns-then-not-all_unused c =
    let r = rooted (goal.at.returns-then-not-all_unused c).Else-not-starts in
    rw (r, sym c.all_unused.ensures ∙ c.if-not-all_unused.true) at (sound_from c.args.nodes c.args.count c.args.used)

pub loop-i-init : goal.loop-i-init
loop-i-init c =
    let all : length c.args.nodes ≡ 64 = search rules in
    begun _ _ all (rooted (goal.at.loop-i-init c).Else-not-starts)

pub returns-then-not-is_open : goal.returns-then-not-is_open
returns-then-not-is_open c =
    ap (ends_at _) (closed c.loop-i.invariant (omega arith) _ (sym c.is_open.ensures ∙ c.if-not-is_open.true))
    ∙ settled (goal.at.returns-then-not-is_open c).Else-not-all_unused

pub bounds-parents-depth : goal.bounds-parents-depth
bounds-parents-depth c = omega (arith, open_within _ c.loop-i.deepest (sym c.is_open.ensures ∙ c.if-not-is_open.false))

pub offset_bounds-nodes-parents : goal.offset_bounds-nodes-parents
offset_bounds-nodes-parents c = omega (arith, parent_below c)

pub bounds-nodes-parents : goal.bounds-nodes-parents
bounds-nodes-parents c = parent_below c

pub overflow_cast-f : goal.overflow_cast-f
overflow_cast-f c = omega (arith, first_below c)

pub offset_bounds-nodes-f : goal.offset_bounds-nodes-f
offset_bounds-nodes-f c = omega (arith, first_below c)

pub bounds-nodes-f : goal.bounds-nodes-f
bounds-nodes-f c = first_below c

pub returns-in_default : goal.returns-in_default
returns-in_default c =
    let s = stepped (goal.at.returns-in_default c).After-step_under in
    ap (ends_at _) (stops _ _ c.loop-i.invariant.left (omega arith) (sym s ∙ c.in_default.is))
    ∙ settled (goal.at.returns-in_default c).Else-not-all_unused

pub bounds-parents-depth-in-loop-i : goal.bounds-parents-depth-in-loop-i
bounds-parents-depth-in-loop-i c = omega (arith, within (goal.at.bounds-parents-depth-in-loop-i c).Else-not-is_open)

pub loop-i-preserved : goal.loop-i-preserved
loop-i-preserved c =
    let s = stepped (goal.at.loop-i-preserved c).After-step_under in
    let f = first-known (goal.at.loop-i-preserved c).After-first_by-first in
    next c.loop-i.invariant (omega arith) _ (opened (goal.at.loop-i-preserved c).Else-not-is_open) c.number_of-number.ensures.0 c.number_of-number.ensures.1
    f c.first_after.ensures c.deepest_by-deepest.ensures (sym s ∙ c.in-Some.is)

pub returns : goal.returns
unfolding steps_from
returns c =
    ap (ends_at _) (done c.loop-i.invariant.left (omega arith)) ∙ settled (goal.at.returns c).Else-not-all_unused
