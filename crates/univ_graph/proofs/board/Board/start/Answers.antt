-- The first step.
use Rattle.std.proofs.Common.{◌≡◌, ◌∷◌, [], sym, subst, length, rules, refl}
use Rattle.std.specs.Prelude.{slice_set, replicate}
use Rattle.univ_graph.specs.declared.spread.Step.{Step}
use Rattle.univ_graph.specs.calls.Boards.{IsSpread}
use Rattle.univ_graph.proofs.Spreading.{spread_first}
use Rattle.univ_graph.proofs.board.Board.start.Goals as goal

pub returns-in-Ok-push : goal.returns-in-Ok-push
returns-in-Ok-push c =
    let b = c.args.self.now in
    let first : Step = record { place = c.args.from; strict = c.args.strict; before = 0; edge = 0 } in
    let zeros : c.in-Ok.marks.items ≡ replicate (length b.numbers.items) 0 = search rules in
    let steps : c.push.new.self.items ≡ first ∷ [] = search rules in
    subst (λ z. IsSpread b c.args.from c.args.strict 0 (slice_set c.in-Ok.marks.items c.args.from c.mark_of.result) z) (sym steps)
    (subst (λ z. IsSpread b c.args.from c.args.strict 0 (slice_set z c.args.from c.mark_of.result) (first ∷ [])) (sym zeros)
    (spread_first b c.args.from c.args.strict c.mark_of.result first c.requires.above refl refl c.mark_of.ensures))
