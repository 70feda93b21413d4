use Rattle.std.proofs.Common.{◌≡◌, ◌-◌, take, drop}
use Rattle.cic_terms.specs.Denotes.{tree}
use Rattle.cic_rules.specs.Telescopes.{conclusion_of, domains_of, extend}
use Rattle.cic_env.specs.Contexts.{context}
use Rattle.cic_limits.proofs.contexts.enter_products.Given as goal

abbrev pub invariant-loop-passed : goal.invariant-loop-passed
invariant-loop-passed l = record {
  entered : extend (context l.ctx) (take (l.count - l._passed) (domains_of (tree l.at))) ≡ extend (context l.fn.ctx) (take l.count (domains_of (tree l.t)));
  rest : drop (l.count - l._passed) (domains_of (tree l.at)) ≡ drop l.count (domains_of (tree l.t));
  conclusion : conclusion_of (tree l.at) ≡ conclusion_of (tree l.t);
}
