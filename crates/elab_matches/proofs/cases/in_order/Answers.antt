use Rattle.std.proofs.Common.{ap}
use Rattle.cic_terms.specs.Denotes.{tree, branch_list}
use Rattle.elab_parts.specs.calls.Parts.{known}
use Rattle.elab_matches.specs.calls.Branches.{known_branch, done_of}
use Rattle.elab_matches.proofs.Orders.{no_branch, no_body, one_more, at_end}
use Rattle.elab_matches.proofs.cases.in_order.Goals as goal

pub returns-in_default-branch : goal.returns-in_default-branch
returns-in_default-branch c =
    no_branch (branch_list c.loop-place.all.items.items) (done_of c.args.done.now) c.loop-place.place c.args.count _ c.loop-place-test.true c.in_default-branch.ensures c.loop-place.invariant

pub returns-in-None : goal.returns-in-None
returns-in-None c =
    no_body (branch_list c.loop-place.all.items.items) (done_of c.args.done.now) c.loop-place.place c.args.count (known_branch c.in_Some-branch.branch.now) _ c.loop-place-test.true
    c.in_Some-branch.ensures (ap known c.in-None.is) c.loop-place.invariant

pub loop-place-preserved : goal.loop-place-preserved
loop-place-preserved c =
    one_more (branch_list c.loop-place.all.items.items) (branch_list c.add_case.new.all.items.items) (done_of c.args.done.now) c.loop-place.place c.args.count
    (known_branch c.in_Some-branch.branch.now) (tree c.in-Some.body.term.value) _ c.loop-place-test.true c.in_Some-branch.ensures (ap known c.in-Some.is)
    c.in_ok-add_case-in-Some.ensures c.loop-place.invariant

pub returns : goal.returns
returns c = at_end (branch_list c.loop-place.all.items.items) (done_of c.args.done.now) c.loop-place.place c.args.count _ c.loop-place-test.false c.loop-place.invariant
