use Rattle.std.proofs.Common.{◌≡◌, ◌+◌, length, map, drop}
use Rattle.cic_rules.specs.Telescopes.{function_types}
use Rattle.cic_counted.specs.Inference.{function_context}
use Rattle.cic_env.specs.Contexts.{context}
use Rattle.cic_spines.specs.Fixes.{function_of}
use Rattle.cic_work.specs.calls.Counting.{budget}
use Rattle.cic_typing.proofs.functions.enter_functions.Given as goal

abbrev pub invariant-loop-before : goal.invariant-loop-before
invariant-loop-before l = record {
  left : function_context l.before (context l.ctx) (function_types (map function_of (drop l.before l.functions))) (budget l.work) ≡ function_context 0 (context l.fn.ctx) (function_types (map function_of l.functions)) (budget l.work);
  outside : drop l.before (context l.ctx) ≡ context l.fn.ctx;
  more : length (context l.ctx) ≡ length (context l.fn.ctx) + l.before;
}
