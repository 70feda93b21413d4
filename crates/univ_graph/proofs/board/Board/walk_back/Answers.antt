-- Each round takes the edge by which the step at hand came.
use Rattle.std.proofs.Common.{◌≡◌, ◌∙◌, ◌<◌, ◌++◌, ◌∷◌, [], reverse, sym, subst, ap, length, rules, arith}
use Rattle.std.proofs.lemmas.Option.{slice_get_within}
use Rattle.univ_graph.specs.calls.Boards.{IsConflictWalk, tagged}
use Rattle.univ_cycles.proofs.TagClones.{tagged_clone_is}
use Rattle.univ_nodes.proofs.AtPlaces.{got}
use Rattle.univ_graph.proofs.WalkingBack.{IsWayBack, back_start, back_step, step_back, back_whole}
use Rattle.univ_graph.proofs.board.Board.walk_back.Goals as goal

pub loop-j-init : goal.loop-j-init
loop-j-init c =
    let f = c.requires.found in
    subst (λ z. IsWayBack c.args.self.now c.args.spread.now.steps.items c.args.asked.now.constraint.left c.args.found z) (sym c.new-back.ensures.items)
    (back_start c.args.self.now c.args.spread.now.steps.items c.args.asked.now.constraint.left c.args.found c.args.left f.0 f.1 f.2 f.3 c.requires.left)

pub index-requires : goal.index-requires
index-requires c =
    let b = c.args.self.now in
    let steps = c.args.spread.now.steps.items in
    let within = slice_get_within steps c.loop-j.j c.loop-j.invariant.step c.loop-j.invariant.step_is in
    let is = got steps c.loop-j.j c.index-step.result.now within c.index-step.ensures in
    let lt : c.index-step.result.now.edge < length b.edges.items =
    (step_back b c.args.right c.args.asked.now.constraint.strict (length steps) c.args.spread.now.marks.items steps c.loop-j.j c.index-step.result.now c.loop-j-test.true c.requires.spread is).0 in
    search rules

pub loop-j-smaller : goal.loop-j-smaller
loop-j-smaller c =
    let b = c.args.self.now in
    let steps = c.args.spread.now.steps.items in
    let within = slice_get_within steps c.loop-j.j c.loop-j.invariant.step c.loop-j.invariant.step_is in
    let is = got steps c.loop-j.j c.index-step.result.now within c.index-step.ensures in
    (step_back b c.args.right c.args.asked.now.constraint.strict (length steps) c.args.spread.now.marks.items steps c.loop-j.j c.index-step.result.now c.loop-j-test.true c.requires.spread is).1

pub loop-j-preserved : goal.loop-j-preserved
loop-j-preserved c =
    let b = c.args.self.now in
    let steps = c.args.spread.now.steps.items in
    let s = c.index-step.result.now in
    let within = slice_get_within steps c.loop-j.j c.loop-j.invariant.step c.loop-j.invariant.step_is in
    let is = got steps c.loop-j.j s within c.index-step.ensures in
    let lt : s.edge < length b.edges.items =
    (step_back b c.args.right c.args.asked.now.constraint.strict (length steps) c.args.spread.now.marks.items steps c.loop-j.j s c.loop-j-test.true c.requires.spread is).0 in
    let at_edge = got b.edges.items s.edge c.index.result.now lt c.index.ensures in
    let more : c.push.new.self.items ≡ c.loop-j.back.items ++ c.in_ok-clone.field-0 ∷ [] = search rules in
    subst (λ z. IsWayBack b steps c.args.asked.now.constraint.left s.before z) (sym more)
    (back_step b c.args.right c.args.asked.now.constraint.strict (length steps) c.args.spread.now.marks.items steps c.args.asked.now.constraint.left c.loop-j.j s c.index.result.now
    c.loop-j.back.items c.in_ok-clone.field-0 c.loop-j-test.true c.requires.sound c.requires.spread c.loop-j.invariant is at_edge (tagged_clone_is c.index.result.now.tagged c.in_ok-clone.field-0 c.in_ok-clone.ensures.cases))

pub returns : goal.returns
returns c =
    let b = c.args.self.now in
    let steps = c.args.spread.now.steps.items in
    let zero_at : c.loop-j.j ≡ 0 = let f = c.loop-j-test.false in omega arith in
    let way = subst (λ z. IsWayBack b steps c.args.asked.now.constraint.left z c.loop-j.back.items) zero_at c.loop-j.invariant in
    let more : c.push-2.new.self.items ≡ c.loop-j.back.items ++ c.in_ok-clone-2.field-0 ∷ [] = search rules in
    let all : c.reverse.new.self.items ≡ reverse (c.loop-j.back.items ++ c.in_ok-clone-2.field-0 ∷ []) = c.reverse.ensures.items ∙ ap reverse more in
    subst (λ z. IsConflictWalk c.args.asked.now.constraint.left (tagged b.edges.items ++ c.args.asked.now ∷ []) z) (sym all)
    (back_whole b c.args.right (length steps) c.args.left c.args.spread.now.marks.items steps c.args.asked.now c.in_ok-clone-2.field-0 c.loop-j.back.items c.requires.spread c.requires.right way (tagged_clone_is c.args.asked.now c.in_ok-clone-2.field-0 c.in_ok-clone-2.ensures.cases))
