-- The instances of bush pass 64; of chains of types, that with 64 instances passes and that with 65 does not.
use Rattle.std.proofs.Common.{◌≡◌, Some, None, [], ◌∷◌, codes, refl}
use Rattle.cic_rules.specs.Environment.{inductive}
use Rattle.cic_counted.specs.Outcome.{not_positive}
use Rattle.cic_counted.specs.NestedTest.{nested_fault}
use Rattle.cic_counted.specs.Evaluation.{whnf_at, cumul_at}
use Rattle.cic_counted.specs.Inference.{calls_at, calls_from}
use Rattle.cic_counted.specs.Checking.{check_declaration}
use Rattle.cic_counted.specs.calls.Examples.{environment, id_of, refuses}
use Rattle.cic_counted.specs.calls.NestedExamples.{list_block, nest_block, bush_block, links, chain_block}

pub bush_fault : nested_fault (environment (inductive list_block ∷ inductive nest_block ∷ [])) bush_block ≡ Some (record { index = 0; place = 0; argument = 1 })
bush_fault = refl

pub bush_refused : check_declaration (environment (inductive list_block ∷ inductive nest_block ∷ [])) (inductive bush_block) 1000 ≡ refuses (not_positive (id_of (codes "k")) 1)
unfolding check_declaration calls_from calls_at whnf_at cumul_at
bush_refused = refl

pub chain_of_64 : nested_fault (environment (links 64)) (chain_block 63) ≡ None
chain_of_64 = refl

pub chain_of_65 : nested_fault (environment (links 65)) (chain_block 64) ≡ Some (record { index = 0; place = 0; argument = 1 })
chain_of_65 = refl
