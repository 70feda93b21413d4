-- One step, or two.
use Rattle.univ_cycles.proofs.TagClones.{tagged_clone_is}
use Rattle.univ_graph.proofs.WalkingBack.{walk_one, walk_two}
use Rattle.univ_graph.proofs.conflict.walk_at_set.Goals as goal

pub returns-in_ok-walk-in-Set : goal.returns-in_ok-walk-in-Set
returns-in_ok-walk-in-Set c =
    walk_one c.args.asked.now c.in_ok-clone-in-Set.field-0 c.in_ok-walk-in-Set.walk.items c.requires.right c.in-Set.is (c.requires.strict c.in-Set.is) (tagged_clone_is c.args.asked.now c.in_ok-clone-in-Set.field-0 c.in_ok-clone-in-Set.ensures.cases) c.in_ok-walk-in-Set.ensures

pub returns-in_ok-walk-in-Named : goal.returns-in_ok-walk-in-Named
returns-in_ok-walk-in-Named c =
    walk_two c.args.asked.now c.in_ok-above_set-in-Named.field-0 c.in_ok-clone-in-Named.field-0 c.in-Named.name c.in_ok-walk-in-Named.walk.items c.requires.right c.in-Named.is
    c.in_ok-above_set-in-Named.ensures (tagged_clone_is c.args.asked.now c.in_ok-clone-in-Named.field-0 c.in_ok-clone-in-Named.ensures.cases) c.in_ok-walk-in-Named.ensures
