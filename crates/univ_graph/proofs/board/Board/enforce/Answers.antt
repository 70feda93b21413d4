-- What the parts answer is what a graph is to answer.
use Rattle.std.proofs.Common.{◌≡◌, ◌∙◌, ◌≤◌, ◌+◌, ◌++◌, ◌∷◌, [], refl, sym, subst, length}
use Rattle.cic_names.specs.declared.constraint.Constraint.{Constraint}
use Rattle.cic_names.proofs.Clones.{constraint_clone_is}
use Rattle.univ_cycles.specs.declared.cycle.Tagged.{Tagged}
use Rattle.univ_cycles.specs.Numbers.{constraints}
use Rattle.univ_graph.specs.Kept.{Answers, with_ends, level_count, level_limit}
use Rattle.univ_graph.specs.calls.Boards.{kept}
use Rattle.univ_graph.proofs.Wholes.{count_with, whole_after, answers_of}
use Rattle.univ_graph.proofs.board.Board.enforce.Goals as goal

pub returns-then-levels-gt-LEVEL_LIMIT-clause-answer : goal.returns-then-levels-gt-LEVEL_LIMIT-clause-answer
returns-then-levels-gt-LEVEL_LIMIT-clause-answer c =
    let b = c.args.self.now in
    let t : Tagged = record { constraint = c.args.constraint.now; tag = c.args.tag } in
    let count : c.levels_with-levels.result ≡ level_count (constraints ((kept b).enforced ++ t ∷ [])) =
    c.levels_with-levels.ensures ∙ sym (count_with b t c.requires) in
    (refl, (count, c.if-levels-gt-LEVEL_LIMIT.true))

pub returns-clause-whole : goal.returns-clause-whole
returns-clause-whole c =
    let b = c.args.self.now in
    let t : Tagged = record { constraint = c.in-Ok.constraint; tag = c.args.tag } in
    let few : length (with_ends b.names c.in-Ok.constraint) + 1 ≤ level_limit =
    subst (λ z. length (with_ends b.names z) + 1 ≤ level_limit) (sym (constraint_clone_is c.args.constraint.now c.in-Ok.constraint c.in-Ok.ensures.cases)) (subst (λ z. z ≤ level_limit) c.levels_with-levels.ensures c.if-levels-gt-LEVEL_LIMIT.false) in
    whole_after b c.take.new.self t c.take.result c.requires c.take.ensures.sound c.take.ensures.names c.take.ensures.taken c.take.ensures.same_names c.take.ensures.same_edges few

pub returns-clause-answer : goal.returns-clause-answer
returns-clause-answer c =
    let b = c.args.self.now in
    let t : Tagged = record { constraint = c.in-Ok.constraint; tag = c.args.tag } in
    let few : length (with_ends b.names c.in-Ok.constraint) + 1 ≤ level_limit =
    subst (λ z. length (with_ends b.names z) + 1 ≤ level_limit) (sym (constraint_clone_is c.args.constraint.now c.in-Ok.constraint c.in-Ok.ensures.cases)) (subst (λ z. z ≤ level_limit) c.levels_with-levels.ensures c.if-levels-gt-LEVEL_LIMIT.false) in
    let whole = whole_after b c.take.new.self t c.take.result c.requires c.take.ensures.sound c.take.ensures.names c.take.ensures.taken c.take.ensures.same_names c.take.ensures.same_edges few in
    let answer = answers_of b c.take.new.self t c.take.result c.requires whole c.take.ensures.taken c.take.ensures.same c.take.ensures.conflict few in
    subst (λ (z : Constraint). Answers (kept b) (kept c.take.new.self) (record { constraint = z; tag = c.args.tag }) c.take.result) (constraint_clone_is c.args.constraint.now c.in-Ok.constraint c.in-Ok.ensures.cases) answer
