use Rattle.std.proofs.Common.{◌≡◌, ◌≤◌, ◌+◌, ◌-◌, ◌*◌, length, map, drop}
use Rattle.cic_rules.specs.Telescopes.{function_types, domains_of}
use Rattle.cic_counted.specs.Inference.{calls_from, check_bodies, function_context, sort_each, check_branches, all_propositions}
use Rattle.cic_counted.specs.Outcome.{follow}
use Rattle.cic_env.specs.Contexts.{context}
use Rattle.cic_env.specs.Environments.{items}
use Rattle.cic_spines.specs.Fixes.{function_of}
use Rattle.cic_work.specs.calls.Counting.{budget}
use Rattle.cic_typing.specs.calls.Parts.{IsInside}
use Rattle.cic_terms.specs.Denotes.{branch_list, tree}
use Rattle.cic_env.specs.Declarations.{constructor_declaration}
use Rattle.cic_spines.specs.Lists.{shared_tree, shared_trees}
use Rattle.cic_typing.proofs.+typing.Given as goal

abbrev pub decreases-inference::infer : goal.decreases-inference::infer
decreases-inference::infer g l = 20 * (2001 - l.work.now.depth) + 19

abbrev pub decreases-inference::check : goal.decreases-inference::check
decreases-inference::check g l = 20 * (2001 - l.work.now.depth) + 19

abbrev pub decreases-inference::sort_of : goal.decreases-inference::sort_of
decreases-inference::sort_of g l = 20 * (2001 - l.work.now.depth) + 19

abbrev pub decreases-inference::infer_entered : goal.decreases-inference::infer_entered
decreases-inference::infer_entered g l = 20 * (2001 - l.work.now.depth) + 15

abbrev pub decreases-inference::infer_product : goal.decreases-inference::infer_product
decreases-inference::infer_product g l = 20 * (2001 - l.work.now.depth) + 5

abbrev pub decreases-inference::infer_abstraction : goal.decreases-inference::infer_abstraction
decreases-inference::infer_abstraction g l = 20 * (2001 - l.work.now.depth) + 5

abbrev pub decreases-inference::infer_let : goal.decreases-inference::infer_let
decreases-inference::infer_let g l = 20 * (2001 - l.work.now.depth) + 5

abbrev pub decreases-inference::infer_application : goal.decreases-inference::infer_application
decreases-inference::infer_application g l = 20 * (2001 - l.work.now.depth) + 5

abbrev pub decreases-inference::infer_fix : goal.decreases-inference::infer_fix
decreases-inference::infer_fix g l = 20 * (2001 - l.work.now.depth) + 5

abbrev pub decreases-inference::infer_function : goal.decreases-inference::infer_function
decreases-inference::infer_function g l = 20 * (2001 - l.work.now.depth) + 3

abbrev pub decreases-inference::expose : goal.decreases-inference::expose
decreases-inference::expose g l = 20 * (2001 - l.work.now.depth)

abbrev pub decreases-inference::sort_each : goal.decreases-inference::sort_each
decreases-inference::sort_each g l = 20 * (2001 - l.work.now.depth)

abbrev pub decreases-inference::check_bodies : goal.decreases-inference::check_bodies
decreases-inference::check_bodies g l = 20 * (2001 - l.work.now.depth)

abbrev pub decreases-matches::infer_case : goal.decreases-matches::infer_case
decreases-matches::infer_case g l = 20 * (2001 - l.work.now.depth) + 14

abbrev pub decreases-matches::infer_match : goal.decreases-matches::infer_match
decreases-matches::infer_match g l = 20 * (2001 - l.work.now.depth) + 13

abbrev pub decreases-matches::match_steps : goal.decreases-matches::match_steps
decreases-matches::match_steps g l = 20 * (2001 - l.work.now.depth) + 12

abbrev pub decreases-matches::match_at : goal.decreases-matches::match_at
decreases-matches::match_at g l = 20 * (2001 - l.work.now.depth) + 11

abbrev pub decreases-matches::match_under : goal.decreases-matches::match_under
decreases-matches::match_under g l = 20 * (2001 - l.work.now.depth) + 10

abbrev pub decreases-matches::match_with : goal.decreases-matches::match_with
decreases-matches::match_with g l = 20 * (2001 - l.work.now.depth) + 9

abbrev pub decreases-motives::check_motive : goal.decreases-motives::check_motive
decreases-motives::check_motive g l = 20 * (2001 - l.work.now.depth) + 8

abbrev pub decreases-motives::motive_sort : goal.decreases-motives::motive_sort
decreases-motives::motive_sort g l = 20 * (2001 - l.work.now.depth) + 7

abbrev pub decreases-motives::sort_under : goal.decreases-motives::sort_under
decreases-motives::sort_under g l = 20 * (2001 - l.work.now.depth) + 1

abbrev pub decreases-eliminations::eliminates : goal.decreases-eliminations::eliminates
decreases-eliminations::eliminates g l = 20 * (2001 - l.work.now.depth) + 7

abbrev pub decreases-eliminations::one_constructor : goal.decreases-eliminations::one_constructor
decreases-eliminations::one_constructor g l = 20 * (2001 - l.work.now.depth) + 6

abbrev pub decreases-eliminations::arguments_are_propositions : goal.decreases-eliminations::arguments_are_propositions
decreases-eliminations::arguments_are_propositions g l = 20 * (2001 - l.work.now.depth) + 5

abbrev pub decreases-eliminations::all_propositions : goal.decreases-eliminations::all_propositions
decreases-eliminations::all_propositions g l = 20 * (2001 - l.work.now.depth) + 4

abbrev pub decreases-branches::check_branches : goal.decreases-branches::check_branches
decreases-branches::check_branches g l = 20 * (2001 - l.work.now.depth) + 8

abbrev pub decreases-branches::check_branch : goal.decreases-branches::check_branch
decreases-branches::check_branch g l = 20 * (2001 - l.work.now.depth) + 7

abbrev pub decreases-branches::check_under : goal.decreases-branches::check_under
decreases-branches::check_under g l = 20 * (2001 - l.work.now.depth) + 1

-- What is left to do gives what the whole gives.
abbrev pub invariant-inference::sort_each-loop-one : goal.invariant-inference::sort_each-loop-one
invariant-inference::sort_each-loop-one g l =
    let calls = calls_from (l.fn.work.depth + 1) (items l.env) in let G = context l.fn.ctx in
    record {
      left : sort_each calls G (function_types (map function_of (drop l.one-index l.functions))) (budget l.work) ≡ sort_each calls G (function_types (map function_of l.functions)) (budget l.fn.work);
      context : context l.ctx ≡ G;
      depth : l.work.depth ≡ l.fn.work.depth;
      rest : l.work.rest ≤ l.fn.work.rest;
    }

abbrev pub invariant-inference::check_bodies-loop-one : goal.invariant-inference::check_bodies-loop-one
invariant-inference::check_bodies-loop-one g l =
    let calls = calls_from (l.fn.work.depth + 1) (items l.env) in let fs = map function_of l.functions in
    record {
      left : check_bodies calls (context l.ctx) (length fs) (map function_of (drop l.one-index l.functions)) (budget l.work) ≡ follow (function_context 0 (context l.fn.ctx) (function_types fs) (budget l.fn.work)) (λ G. check_bodies calls G (length fs) fs);
      outside : IsInside (context l.ctx) (context l.fn.ctx);
      depth : l.work.depth ≡ l.fn.work.depth;
      rest : l.work.rest ≤ l.fn.work.rest;
    }

abbrev pub invariant-branches::check_branches-loop-i : goal.invariant-branches::check_branches-loop-i
invariant-branches::check_branches-loop-i g l =
    let calls = calls_from (l.fn.work.depth + 1) (items l.env) in
    let us = shared_trees l.parameters in
    let p = shared_tree l.m.motive.now in
    record {
      left : check_branches calls (context l.fn.ctx) l.m.indices us p (map constructor_declaration (drop l.i l.ctors)) (branch_list (drop l.i l.branches)) (budget l.work)
          ≡ check_branches calls (context l.fn.ctx) l.m.indices us p (map constructor_declaration l.ctors) (branch_list l.branches) (budget l.fn.work);
      context : context l.ctx ≡ context l.fn.ctx;
      depth : l.work.depth ≡ l.fn.work.depth;
      rest : l.work.rest ≤ l.fn.work.rest;
    }

abbrev pub invariant-eliminations::all_propositions-loop-at : goal.invariant-eliminations::all_propositions-loop-at
invariant-eliminations::all_propositions-loop-at g l =
    let calls = calls_from (l.fn.work.depth + 1) (items l.env) in
    record {
      left : all_propositions calls l.id (context l.ctx) (domains_of (tree l.at)) (budget l.work) ≡ all_propositions calls l.id (context l.fn.ctx) (domains_of (tree l.t)) (budget l.fn.work);
      depth : l.work.depth ≡ l.fn.work.depth;
      rest : l.work.rest ≤ l.fn.work.rest;
    }
