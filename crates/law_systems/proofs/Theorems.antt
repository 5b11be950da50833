-- The statements of specs/Systems, proved.
use native.Mathlib.Omega.{arith}
use mathlib.Core.Bool.{true}
use lib.ListN.{take, drop}
use Rattle.card_moved.proofs.Two.{sound_two_lem}
use Rattle.law_systems.specs.Systems.{ServedMoved, AnsweredMoved, OthersSpared, SystemsApart, SystemsServed}
use Rattle.law_systems.proofs.Systems.{serve_on_alike}
use Rattle.law_systems.proofs.Many.{all_alike}
use Rattle.law_systems.proofs.Spares.{serve_on_spares}
use Rattle.law_systems.proofs.Served as Served

-- one request
pub served-moved : ServedMoved
served-moved ns k used blocks far near sound a b r h = serve_on_alike ns k used blocks far near a b r sound h

-- many requests
pub answered-moved : AnsweredMoved
answered-moved ns k used blocks far near sound a b rs x y h = all_alike ns k used blocks far near sound a b rs x y h

-- bytes of no store
pub others_spared_lem : OthersSpared
others_spared_lem sound ns used a r i f = (serve_on_spares sound ns used a r).each i f

-- two systems' stores
pub systems_apart : SystemsApart
systems_apart one two k w ns ms o p i x y = Served.systems_apart one two k w w ns ms o p i x y

-- two systems' requests
pub systems_served : SystemsServed
systems_served one two nodes at count used e =
    let t = sound_two_lem one two nodes at count used e in
    record {
      begun = t.0;
      first = t.1;
      second = t.2;
      first-served = Served.own_served one 0 t.0 used (take at nodes) t.1 (omega (arith, t.2.blocks));
      second-served = Served.own_served two t.0 used used (drop at (take count nodes)) t.2 (omega arith);
      first-left = Served.first_spared one two t.0 used used (take at nodes) (drop at (take count nodes)) t.1 t.2 true;
      second-left = Served.second_spared one two t.0 used used (take at nodes) (drop at (take count nodes)) t.1 t.2 true;
    }
