-- The constraint of the edge at hand goes into the set.
use Rattle.std.proofs.Common.{◌≡◌, ◌∙◌, ◌+◌, ◌<◌, ◌∷◌, List, ℕ, sym, subst, ap, length, drop, get_or}
use Rattle.std.proofs.lemmas.List.{drop_more}
use Rattle.cic_names.specs.Orders.{insert_constraint, insert_constraints}
use Rattle.cic_names.specs.declared.constraint.Constraint.{Constraint}
use Rattle.cic_names.proofs.Clones.{constraint_clone_is}
use Rattle.univ_cycles.specs.Numbers.{constraints}
use Rattle.univ_graph.specs.calls.Boards.{tagged}
use Rattle.univ_graph.specs.declared.board.Edge.{Edge}
use Rattle.univ_graph.proofs.board.Board.enforced.Goals as goal

pub loop-edge-preserved : goal.loop-edge-preserved
loop-edge-preserved c =
    let edges = c.args.self.now.edges.items in
    let set = c.loop-edge.set in
    let i = c.loop-edge.edge-index in
    let edge = c.edge-item.result in
    let same : c.deref-edge-items.result.now ≡ edges = c.deref-edge-items.ensures.value in
    let is = subst (λ (z : List Edge). edge ≡ get_or z i edge) same c.edge-item.is in
    let within = subst (λ (z : List Edge). i < length z) same c.loop-edge-test.true in
    let next : drop i edges ≡ edge ∷ drop (i + 1) edges = drop_more edges i edge within ∙ ap (λ r. r ∷ drop (i + 1) edges) (sym is) in
    let made = constraint_clone_is edge.tagged.constraint c.in_ok-clone.field-0 c.in_ok-clone.ensures.cases in
    let new : c.insert.new.self ≡ insert_constraint set edge.tagged.constraint = c.in_ok-insert.ensures.set ∙ ap (insert_constraint set) made in
    c.loop-edge.invariant ∙ ap (λ (z : List Edge). insert_constraints set (constraints (tagged z))) next
    ∙ ap (λ (z : List Constraint). insert_constraints z (constraints (tagged (drop (i + 1) edges)))) (sym new)
