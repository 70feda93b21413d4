use Rattle.std.proofs.Common.{◌+◌, Some, ap, ◌∙◌, arith}
use Rattle.section_uses.specs.Kept.{shared_tree}
use Rattle.section_discharge.proofs.Nexts.{put_made, part_fits}
use Rattle.section_discharge.proofs.table.Table.bound_body.Goals as goal

pub returns-in_ok-replace_names-in-Some : goal.returns-in_ok-replace_names-in-Some
returns-in_ok-replace_names-in-Some c =
    let table = c.args.self.now in
    let body = shared_tree c.in-Some.body in
    rw c.in-Some.is (record {
      ok = ap (λ t. Some t) (c.in_ok-replace_names-in-Some.ensures.ok ∙ put_made table body c.requires.table);
      fits = part_fits table c.args.room (table.binders + 1) body c.requires.table (omega (arith, c.requires.room)) c.in_ok-replace_names-in-Some.ensures.fits;
      deep = tt;
    })
