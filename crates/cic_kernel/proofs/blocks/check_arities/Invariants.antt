use Rattle.std.proofs.Common.{◌≡◌, ◌≤◌, map, drop}
use Rattle.cic_counted.specs.Checking.{check_arities}
use Rattle.cic_counted.specs.Inference.{calls_from}
use Rattle.cic_env.specs.Declarations.{type_declaration}
use Rattle.cic_env.specs.Environments.{items}
use Rattle.cic_work.specs.calls.Counting.{budget}
use Rattle.cic_kernel.proofs.blocks.check_arities.Given as goal

abbrev pub invariant-loop-ty : goal.invariant-loop-ty
invariant-loop-ty g l =
    let calls = calls_from 1 (items l.env) in
    record {
      left : check_arities calls (map type_declaration (drop l.ty-index l.types)) (budget l.work)
          ≡ check_arities calls (map type_declaration l.types) (budget l.fn.work);
      depth : l.work.depth ≡ l.fn.work.depth;
      rest : l.work.rest ≤ l.fn.work.rest;
    }
