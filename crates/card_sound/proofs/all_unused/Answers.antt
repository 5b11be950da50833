-- Whether all are unused is whether those left are.
use Rattle.std.proofs.Common.{◌≡◌, length, sym, arith, rules}
use Rattle.card_nodes.proofs.Scan.{done}
use Rattle.card_sound.specs.Sound.{all_roots}
use Rattle.card_sound.proofs.Turns.{unused, used, more}
use Rattle.card_sound.proofs.all_unused.Goals as goal

pub loop-k-init : goal.loop-k-init
loop-k-init c =
    let all : length c.args.nodes ≡ 64 = search rules in
    unused _ _ all (omega arith)

pub returns-then-not-is_root : goal.returns-then-not-is_root
returns-then-not-is_root c = used _ c.loop-k.invariant (omega arith) (sym c.if-not-is_root.ensures)

pub loop-k-preserved : goal.loop-k-preserved
loop-k-preserved c = more _ c.loop-k.invariant (omega arith) (sym c.if-not-is_root.ensures)

pub returns : goal.returns
unfolding all_roots
returns c = done c.loop-k.invariant (omega arith)
