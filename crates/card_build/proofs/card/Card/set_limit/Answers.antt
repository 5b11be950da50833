-- The node added last is read where the definition reads it.
use Rattle.std.proofs.Common.{◌≡◌, sym, ap, ◌∙◌, true, ◌-◌, length, get_or, arith, rules}
use mir.Facts.{to_z-of_z}
use Rattle.card_nodes.specs.declared.node.Node.{Node}
use Rattle.card_nodes.specs.Node.{root_node}
use Rattle.card_sound.proofs.Laws.{Counted, sound_count, same_read}
use Rattle.card_build.specs.Card.{is_sound}
use Rattle.card_build.specs.Grow.{last_node}
use Rattle.card_build.proofs.Answers.{with-last, limit-unsound, limit-refused, limit-set}
use Rattle.card_build.proofs.card.Card.set_limit.Goals as goal
use Rattle.card_build.proofs.card.Card.set_limit.Goals.{Else-not-is_sound}

-- the card is sound
sound : (c : Else-not-is_sound) → is_sound c.args.self ≡ true
sound c = sym c.is_sound.ensures ∙ c.if-not-is_sound.false

-- so it has a node added last
counted : (c : Else-not-is_sound) → Counted c.args.self.count
counted c = sound_count _ _ _ (sym c.is_sound.ensures ∙ c.if-not-is_sound.false)

-- which is read
last : (c : Else-not-is_sound) (z : Node) → let k = c.args.self in get_or k.nodes (k.count - 1) z ≡ last_node k
last c z =
    let all : length c.args.self.nodes ≡ 64 = search rules in
    let n = sound_count _ _ _ (sym c.is_sound.ensures ∙ c.if-not-is_sound.false) in
    same_read c.args.self.nodes (c.args.self.count - 1) z root_node (omega arith)

pub returns-then-not-is_sound : goal.returns-then-not-is_sound
returns-then-not-is_sound c = c.refuse.ensures ∙ limit-unsound _ _ _ _ (sym c.is_sound.ensures ∙ c.if-not-is_sound.true)

pub overflow_sub-last : goal.overflow_sub-last
overflow_sub-last c = let n = counted c in omega arith

pub offset_bounds-self-last : goal.offset_bounds-self-last
offset_bounds-self-last c = let n = counted c in omega arith

pub bounds-self-last : goal.bounds-self-last
bounds-self-last c = let n = counted c in omega arith

pub returns-in-Area : goal.returns-in-Area
returns-in-Area c =
    let at = goal.at.returns-in-Area c in
    c.refuse-in-Area.ensures ∙ limit-refused _ _ _ _ _ (sound at.Else-not-is_sound) (last at.Else-not-is_sound _) c.in-Area.is

pub returns-in-Service : goal.returns-in-Service
returns-in-Service c =
    let at = goal.at.returns-in-Service c in
    simp (to_z-of_z c.ranges.upper, to_z-of_z c.ranges.lower) at (ap (with-last c.args.self) c.limited.ensures)
    ∙ limit-set _ _ _ _ _ (sound at.Else-not-is_sound) (last at.Else-not-is_sound _) c.in-Service.is
