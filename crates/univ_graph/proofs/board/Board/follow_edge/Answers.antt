-- The edge leads to a step, or it leaves another place.
use Rattle.std.proofs.Common.{◌≡◌, ◌∙◌, ◌<◌, refl, sym, subst, ap, length, rules, true}
use Rattle.std.specs.Prelude.{◌||◌, nat_eq}
use Rattle.std.proofs.lemmas.Option.{slice_get_within}
use Rattle.univ_graph.specs.declared.spread.Step.{Step}
use Rattle.univ_nodes.proofs.AtPlaces.{got, same_some}
use Rattle.cic_names.proofs.Equality.{nat_eq_decides}
use Rattle.univ_graph.proofs.Spreading.{edge_step, either_true, either_false, on_ok_map, closed_by_step, closed_by_none}
use Rattle.univ_graph.proofs.board.Board.follow_edge.Goals as goal
use Rattle.univ_graph.proofs.board.Board.follow_edge.Goals.{then-step, else-step, else-k-len-via-then-k-len+else-index-step, else-k-len-via-else-k-len}

pub reach-requires-clause-above : goal.reach-requires-clause-above
reach-requires-clause-above c =
    let steps = c.args.spread.now.steps.items in
    let edges = c.args.self.now.edges.items in
    let step = c.index-step.result.now in
    let edge = c.index-edge.result.now in
    let here = got steps c.args.i step c.requires.within c.index-step.ensures in
    let lt : c.args.k < length edges = search rules in
    let at_k = got edges c.args.k edge lt c.index-edge.ensures in
    let other = got edges c.args.k c.index.result.now lt c.index.ensures in
    let same : c.index.result.now ≡ edge = same_some c.index.result.now edge (sym other ∙ at_k) in
    let leaves : edge.left ≡ step.place = ap (λ z. z.left) (sym same) ∙ c.if-index-step.true in
    let next : Step = record { place = edge.right; strict = step.strict || edge.tagged.constraint.strict; before = c.args.i; edge = c.args.k } in
    (edge_step c.args.self.now c.args.from c.args.strict c.args.i c.args.spread.now.marks.items steps step next c.args.k edge c.requires.sound c.requires.spread here at_k leaves refl refl refl refl).0

pub reach-requires-clause-linked : goal.reach-requires-clause-linked
reach-requires-clause-linked c =
    let steps = c.args.spread.now.steps.items in
    let edges = c.args.self.now.edges.items in
    let step = c.index-step.result.now in
    let edge = c.index-edge.result.now in
    let here = got steps c.args.i step c.requires.within c.index-step.ensures in
    let lt : c.args.k < length edges = search rules in
    let at_k = got edges c.args.k edge lt c.index-edge.ensures in
    let other = got edges c.args.k c.index.result.now lt c.index.ensures in
    let same : c.index.result.now ≡ edge = same_some c.index.result.now edge (sym other ∙ at_k) in
    let leaves : edge.left ≡ step.place = ap (λ z. z.left) (sym same) ∙ c.if-index-step.true in
    let way : c.if-step.next ≡ (step.strict || edge.tagged.constraint.strict) = elim c.if-step.branch [
      | then-step w ↦ either_true step.strict edge.tagged.constraint.strict c.if-step.next w.if-step.true (w.next-is ∙ w.if-step.true)
      | else-step w ↦ either_false step.strict edge.tagged.constraint.strict c.if-step.next w.if-step.false w.next-is
    ] in
    let next : Step = record { place = edge.right; strict = c.if-step.next; before = c.args.i; edge = c.args.k } in
    (edge_step c.args.self.now c.args.from c.args.strict c.args.i c.args.spread.now.marks.items steps step next c.args.k edge c.requires.sound c.requires.spread here at_k leaves refl way refl refl).1

pub returns-after-step-clause-closed : goal.returns-after-step-clause-closed
returns-after-step-clause-closed c =
    let steps = c.args.spread.now.steps.items in
    let edges = c.args.self.now.edges.items in
    let step = c.index-step.result.now in
    let edge = c.index-edge.result.now in
    let here = got steps c.args.i step c.requires.within c.index-step.ensures in
    let lt : c.args.k < length edges = search rules in
    let at_k = got edges c.args.k edge lt c.index-edge.ensures in
    let way : c.if-step.next ≡ (step.strict || edge.tagged.constraint.strict) = elim c.if-step.branch [
      | then-step w ↦ either_true step.strict edge.tagged.constraint.strict c.if-step.next w.if-step.true (w.next-is ∙ w.if-step.true)
      | else-step w ↦ either_false step.strict edge.tagged.constraint.strict c.if-step.next w.if-step.false w.next-is
    ] in
    on_ok_map c.reach.result (λ marked s r same_s same_r. closed_by_step c.reach.new.spread.marks.items steps edges c.args.i c.args.k step s edge r c.if-step.next here at_k way marked same_s same_r) c.reach.ensures.marked

pub returns-else-k-len-clause-closed : goal.returns-else-k-len-clause-closed
returns-else-k-len-clause-closed c =
    let steps = c.args.spread.now.steps.items in
    let edges = c.args.self.now.edges.items in
    let step = c.index-step.result.now in
    let here = got steps c.args.i step c.requires.within c.index-step.ensures in
    λ s r. closed_by_none c.args.spread.now.marks.items steps edges c.args.i c.args.k step s r here (λ edge at_k leaves.
    let lt = slice_get_within edges c.args.k edge at_k in
    elim c.else-k-len.branch [
      | else-k-len-via-then-k-len+else-index-step w ↦
          let other = got edges c.args.k w.index.result.now lt w.index.ensures in
          let same : w.index.result.now ≡ edge = same_some w.index.result.now edge (sym other ∙ at_k) in
          let e : w.index.result.now.left ≡ step.place = ap (λ z. z.left) same ∙ leaves in
          let t : nat_eq w.index.result.now.left step.place ≡ true = subst (λ n. nat_eq w.index.result.now.left n ≡ true) e ((nat_eq_decides w.index.result.now.left w.index.result.now.left).1 refl) in
          let f = w.if-index-step.false in absurd (cc)
      | else-k-len-via-else-k-len w ↦ let f = w.if-k-len.false in let l = c.len.ensures in absurd (search rules)
    ])
