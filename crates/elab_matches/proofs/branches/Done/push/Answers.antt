use Rattle.std.proofs.Common.{arith}
use Rattle.elab_matches.proofs.Tables.{pushed}
use Rattle.elab_matches.proofs.branches.Done.push.Goals as goal

pub invariant_of-self-2 : goal.invariant_of-self-2
invariant_of-self-2 c =
    let old = c.args.self.now in
    record {
      indexed = pushed old.branches.items c.push.new.self.items c.args.branch c.len-index.result old.table.items c.grow.new.table.items c.note.new.table.items
          c.in_ok-push.ensures.items (omega (arith, c.len-index.ensures, old.branches.ok.0)) old.indexed c.grow.ensures.same c.note.ensures;
    }
