use Rattle.std.proofs.Common.{◌≡◌, ◌≤◌}
use Rattle.cic_terms.specs.Denotes.{tree, tree_sort}
use Rattle.cic_rules.specs.Telescopes.{conclusion_of, domains_of}
use Rattle.cic_counted.specs.Checking.{check_arguments}
use Rattle.cic_counted.specs.Inference.{calls_from}
use Rattle.cic_env.specs.Contexts.{context}
use Rattle.cic_env.specs.Environments.{items}
use Rattle.cic_work.specs.calls.Counting.{budget}
use Rattle.cic_kernel.proofs.constructors.check_arguments.Given as goal

abbrev pub invariant-loop-at : goal.invariant-loop-at
invariant-loop-at g l =
    let calls = calls_from 1 (items l.env) in
    record {
      left : check_arguments calls (context l.ctx) (tree_sort l.sort) (domains_of (tree l.at)) (conclusion_of (tree l.at)) (budget l.work)
          ≡ check_arguments calls (context l.fn.ctx) (tree_sort l.sort) (domains_of (tree l.ty)) (conclusion_of (tree l.ty)) (budget l.fn.work);
      depth : l.work.depth ≡ l.fn.work.depth;
      rest : l.work.rest ≤ l.fn.work.rest;
    }
