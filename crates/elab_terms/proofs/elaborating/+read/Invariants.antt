-- What is read of a list so far. Each call goes to a part, or to the same term at a lower rank.
use Rattle.std.proofs.Common.{◌+◌, ◌*◌, map, drop}
use Rattle.std.specs.Option.{option_copied}
use Rattle.gal_grammar.specs.Terms.{arrow, no_functions}
use Rattle.gal_raw.specs.Denotes.{tree, application, fix_of, let_in, match_of, groups, functions, function, branches}
use Rattle.gal_raw.specs.declared.terms.MatchOf.{out-MatchOf}
use Rattle.elab_parts.specs.Binders.{around_of}
use Rattle.elab_parts.specs.Places.{place_of, owner_of}
use Rattle.elab_parts.specs.calls.Parts.{known}
use Rattle.elab_parts.specs.calls.Bindings.{known_binding}
use Rattle.elab_parts.specs.calls.Functions.{known_function}
use Rattle.elab_terms.specs.calls.Sizes.{size, size_groups, size_functions, size_branches}
use Rattle.elab_terms.specs.calls.Walks.{over_groups}
use Rattle.elab_terms.proofs.Loops.{ArgumentsSoFar, GroupsSoFar, FunctionsSoFar}
use Rattle.elab_terms.proofs.Branches.{BranchesSoFar}
use Rattle.elab_matches.specs.Matches.{type_of}
use Rattle.elab_matches.specs.calls.Branches.{done_of}
use Rattle.elab_terms.proofs.elaborating.+read.Given as goal

abbrev pub invariant-applied-loop-argument : goal.invariant-applied-loop-argument
invariant-applied-loop-argument l =
    ArgumentsSoFar (place_of l.place) (owner_of l.place) (around_of l.fn.around) l.fn.next (application l.x) (drop l.argument-index l.arguments) (known l.made) (around_of l.around) l.next

abbrev pub invariant-telescope-loop-group : goal.invariant-telescope-loop-group
invariant-telescope-loop-group l =
    GroupsSoFar (place_of l.place) (owner_of l.place) (around_of l.fn.around) l.fn.next (groups l.among) (drop l.group-index l.all) (map known_binding l.binders.items) (around_of l.around) l.next

abbrev pub invariant-several-loop-one : goal.invariant-several-loop-one
invariant-several-loop-one l =
    FunctionsSoFar (place_of l.place) (owner_of l.place) (around_of l.fn.around) l.fn.next (map option_copied l.names) (functions l.all) (drop l.one-index l.written) (map known_function l.done.items) (around_of l.around) l.next

abbrev pub decreases-term : goal.decreases-term
decreases-term l = 2 * size (tree l.raw.now) + 1

abbrev pub decreases-applied : goal.decreases-applied
decreases-applied l = 2 * size (application l.x.now)

abbrev pub decreases-arrow : goal.decreases-arrow
decreases-arrow l = 2 * size (arrow (tree l.x.now.from) (tree l.x.now.to))

abbrev pub decreases-telescope : goal.decreases-telescope
decreases-telescope l = 2 * size_groups (groups l.among.now) + 1

abbrev pub decreases-bound : goal.decreases-bound
decreases-bound l = 2 * size (over_groups l.kind (groups l.among.now) (tree l.body.now))

abbrev pub decreases-definition : goal.decreases-definition
decreases-definition l = 2 * size (let_in l.x.now)

abbrev pub decreases-fixpoint : goal.decreases-fixpoint
decreases-fixpoint l = 2 * size (fix_of l.x.now)

abbrev pub decreases-several : goal.decreases-several
decreases-several l = 2 * size_functions (functions l.all.now) + 1

abbrev pub decreases-single : goal.decreases-single
decreases-single l = 2 * size_functions (function no_functions l.one.now)

abbrev pub decreases-case : goal.decreases-case
decreases-case l = 2 * size (match_of l.x.now)

abbrev pub invariant-arms-loop-branch : goal.invariant-arms-loop-branch
invariant-arms-loop-branch l =
    BranchesSoFar (place_of l.place) (owner_of l.place) (around_of l.fn.around) l.fn.next (type_of l.ty) (branches l.all) (drop l.branch-index l.written) (done_of l.done) (around_of l.around) l.next

abbrev pub decreases-first_fault : goal.decreases-first_fault
decreases-first_fault l = 2 * size (tree (out-MatchOf l.x.now).motive) + 2

abbrev pub decreases-arms : goal.decreases-arms
decreases-arms l = 2 * size_branches (branches l.all.now) + 1
