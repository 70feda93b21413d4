use Rattle.std.proofs.Common.{◌≡◌, sym, subst, map, length}
use Rattle.std.specs.Prelude.{Option, IfOk}
use Rattle.cic_terms.specs.Tree.{Tree}
use Rattle.elab_parts.specs.calls.Parts.{known}
use Rattle.std.proofs.lemmas.List.{length-map}
use Rattle.cic_env.specs.Environments.{items}
use Rattle.elab_parts.specs.calls.Functions.{known_function}
use Rattle.elab_parts.proofs.Fixing.{fix_none, fix_some}
use Rattle.elab_parts.proofs.fixes.fix_term.Goals as goal

pub returns-in-None : goal.returns-in-None
returns-in-None c =
    let fs = c.args.functions.now in
    fix_none (items c.args.env.now) (map known_function fs) (length fs) c.args.which (sym (length-map fs known_function)) (rw c.in-None.is at c.in_ok-whole_bodies.ensures)

pub returns-in-Some : goal.returns-in-Some
returns-in-Some c =
    let fs = c.args.functions.now in
    subst (λ (o : Option Tree). IfOk c.fix_within.result (λ part. known part ≡ o))
    (fix_some (items c.args.env.now) (map known_function fs) c.in-Some.bodies.items.items (length fs) c.args.which (sym (length-map fs known_function)) (rw c.in-Some.is at c.in_ok-whole_bodies.ensures))
    c.fix_within.ensures
