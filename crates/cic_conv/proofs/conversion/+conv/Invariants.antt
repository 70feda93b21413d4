use Rattle.std.proofs.Common.{◌≡◌, ◌≤◌, ◌+◌, ◌-◌, ◌*◌, drop, length, map}
use Rattle.cic_terms.specs.Denotes.{branch_list}
use Rattle.cic_rules.specs.Environment.{under_unknown}
use Rattle.cic_rules.specs.Telescopes.{function_types}
use Rattle.cic_counted.specs.Evaluation.{conv_from, convert_bodies, convert_children, convert_each}
use Rattle.cic_env.specs.Contexts.{context}
use Rattle.cic_env.specs.Environments.{items}
use Rattle.cic_spines.specs.Fixes.{function_of}
use Rattle.cic_work.specs.calls.Counting.{budget}
use Rattle.cic_conv.proofs.conversion.+conv.Given as goal

abbrev pub decreases-conv_under : goal.decreases-conv_under
decreases-conv_under l = 9 * (2001 - l.work.now.depth)

abbrev pub decreases-conv_branch : goal.decreases-conv_branch
decreases-conv_branch l = 9 * (2001 - l.work.now.depth) + 1

abbrev pub decreases-conv_branches : goal.decreases-conv_branches
decreases-conv_branches l = 9 * (2001 - l.work.now.depth) + 2

abbrev pub decreases-conv_type : goal.decreases-conv_type
decreases-conv_type l = 9 * (2001 - l.work.now.depth) + 1

abbrev pub decreases-conv_types : goal.decreases-conv_types
decreases-conv_types l = 9 * (2001 - l.work.now.depth) + 2

abbrev pub decreases-conv_body : goal.decreases-conv_body
decreases-conv_body l = 9 * (2001 - l.work.now.depth) + 1

abbrev pub decreases-conv_bodies : goal.decreases-conv_bodies
decreases-conv_bodies l = 9 * (2001 - l.work.now.depth) + 2

abbrev pub decreases-conv_functions : goal.decreases-conv_functions
decreases-conv_functions l = 9 * (2001 - l.work.now.depth) + 3

abbrev pub decreases-compare_fixes : goal.decreases-compare_fixes
decreases-compare_fixes l = 9 * (2001 - l.work.now.depth) + 4

abbrev pub decreases-compare_matches : goal.decreases-compare_matches
decreases-compare_matches l = 9 * (2001 - l.work.now.depth) + 4

abbrev pub decreases-compare : goal.decreases-compare
decreases-compare l = 9 * (2001 - l.work.now.depth) + 5

abbrev pub decreases-conv_body_with : goal.decreases-conv_body_with
decreases-conv_body_with l = 9 * (2001 - l.work.now.depth) + 5

abbrev pub decreases-conv_with_body : goal.decreases-conv_with_body
decreases-conv_with_body l = 9 * (2001 - l.work.now.depth) + 5

abbrev pub decreases-compare_heads : goal.decreases-compare_heads
decreases-compare_heads l = 9 * (2001 - l.work.now.depth) + 6

abbrev pub decreases-conv_entered : goal.decreases-conv_entered
decreases-conv_entered l = 9 * (2001 - l.work.now.depth) + 7

abbrev pub decreases-conv : goal.decreases-conv
decreases-conv l = 9 * (2001 - l.work.now.depth) + 8

-- What is left to compare gives what the whole gives.
abbrev pub invariant-conv_branches-loop-i : goal.invariant-conv_branches-loop-i
invariant-conv_branches-loop-i l =
    let C = conv_from (l.fn.work.depth + 1) (items l.env) in let G = context l.fn.ctx in
    record {
      left : convert_children C G (branch_list (drop l.i l.xs)) (branch_list (drop l.i l.ys)) (budget l.work) ≡ convert_children C G (branch_list l.xs) (branch_list l.ys) (budget l.fn.work);
      context : context l.ctx ≡ G;
      depth : l.work.depth ≡ l.fn.work.depth;
      rest : l.work.rest ≤ l.fn.work.rest;
    }

abbrev pub invariant-conv_types-loop-i : goal.invariant-conv_types-loop-i
invariant-conv_types-loop-i l =
    let C = conv_from (l.fn.work.depth + 1) (items l.env) in let G = context l.fn.ctx in
    record {
      left : convert_each C G (function_types (map function_of (drop l.i l.xs))) (function_types (map function_of (drop l.i l.ys))) (budget l.work)
          ≡ convert_each C G (function_types (map function_of l.xs)) (function_types (map function_of l.ys)) (budget l.fn.work);
      context : context l.ctx ≡ G;
      depth : l.work.depth ≡ l.fn.work.depth;
      rest : l.work.rest ≤ l.fn.work.rest;
    }

abbrev pub invariant-conv_bodies-loop-i : goal.invariant-conv_bodies-loop-i
invariant-conv_bodies-loop-i l =
    let C = conv_from (l.fn.work.depth + 1) (items l.env) in let n = length l.xs in let G = context l.fn.ctx in
    record {
      left : convert_bodies C (under_unknown n G) n (map function_of (drop l.i l.xs)) (map function_of (drop l.i l.ys)) (budget l.work)
          ≡ convert_bodies C (under_unknown n G) n (map function_of l.xs) (map function_of l.ys) (budget l.fn.work);
      context : context l.ctx ≡ G;
      depth : l.work.depth ≡ l.fn.work.depth;
      rest : l.work.rest ≤ l.fn.work.rest;
    }
