use Rattle.cic_names.proofs.Clones.{level_clone_is}
use Rattle.elab_parts.proofs.Stated.{two_more}
use Rattle.elab_parts.proofs.constraints.add_equation.Goals as goal

pub returns : goal.returns
returns c =
    let left = level_clone_is c.args.right c.in_ok-turned_left.turned_left c.in_ok-turned_left.ensures.cases in
    let right = level_clone_is c.args.left c.in_ok-turned_right.turned_right c.in_ok-turned_right.ensures.cases in
    two_more c.args.made.now.items c.add.new.made.items c.add-2.new.made.items _ _ _ _ left right c.in_ok-add.ensures c.in_ok-add-2.ensures
