use Rattle.std.proofs.Common.{◌≡◌, ◌≤◌, map, drop}
use Rattle.std.specs.Option.{option_map}
use Rattle.cic_terms.specs.Denotes.{tree_sort}
use Rattle.cic_counted.specs.Checking.{check_constructors}
use Rattle.cic_counted.specs.Inference.{calls_from}
use Rattle.cic_env.specs.Declarations.{constructor_declaration}
use Rattle.cic_env.specs.Environments.{items}
use Rattle.cic_work.specs.calls.Counting.{budget}
use Rattle.cic_kernel.proofs.constructors.check_constructors.Given as goal

abbrev pub invariant-loop-ctor : goal.invariant-loop-ctor
invariant-loop-ctor g l =
    let calls = calls_from 1 (items l.env) in let sort = option_map (λ s. tree_sort s.now) l.sort in
    record {
      left : check_constructors calls l.params sort (map constructor_declaration (drop l.ctor-index l.ctors)) (budget l.work)
          ≡ check_constructors calls l.params sort (map constructor_declaration l.ctors) (budget l.fn.work);
      depth : l.work.depth ≡ l.fn.work.depth;
      rest : l.work.rest ≤ l.fn.work.rest;
    }
