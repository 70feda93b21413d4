use Rattle.std.proofs.Common.{◌≡◌, ◌≤◌, map, drop}
use Rattle.cic_counted.specs.Checking.{check_types}
use Rattle.cic_counted.specs.Inference.{calls_from}
use Rattle.cic_env.specs.Declarations.{type_declaration}
use Rattle.cic_env.specs.Environments.{items}
use Rattle.cic_work.specs.calls.Counting.{budget}
use Rattle.cic_kernel.proofs.constructors.check_types.Given as goal

abbrev pub invariant-loop-ty : goal.invariant-loop-ty
invariant-loop-ty g l =
    let calls = calls_from 1 (items l.env) in
    record {
      left : check_types calls l.params (map type_declaration (drop l.ty-index l.types)) (budget l.work)
          ≡ check_types calls l.params (map type_declaration l.types) (budget l.fn.work);
      depth : l.work.depth ≡ l.fn.work.depth;
      rest : l.work.rest ≤ l.fn.work.rest;
    }
