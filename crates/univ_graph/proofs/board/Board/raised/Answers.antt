-- A walk from Set, or raised numbers.
use Rattle.std.proofs.Common.{◌≡◌, ◌∙◌, ◌<◌, ◌++◌, ◌∷◌, [], ℕ, subst, ap, length, true, arith}
use Rattle.std.specs.Prelude.{slice_get, Some}
use Rattle.univ_graph.specs.declared.spread.Step.{Step}
use Rattle.univ_graph.specs.Kept.{AreStepsAmong}
use Rattle.univ_graph.specs.calls.Boards.{at, all_raised, least_of, tagged, IsConflictWalk, AreInOrder}
use Rattle.cic_names.specs.declared.level.Level.TheVariants as L
use Rattle.univ_nodes.proofs.AtPlaces.{at_read}
use Rattle.univ_graph.proofs.Raising.{raised_good, above_set, all_raised_length, place_within}
use Rattle.univ_graph.proofs.WalkingBack.{if_ok_map, steps_of_last}
use Rattle.univ_graph.proofs.board.Board.raised.Goals as goal

pub returns-then-right-eq0-clause-conflict : goal.returns-then-right-eq0-clause-conflict
returns-then-right-eq0-clause-conflict c =
    let all = tagged c.args.self.now.edges.items in
    c.conflict_of.ensures (all ++ c.args.asked.now ∷ [])
    (if_ok_map (λ w. IsConflictWalk L.Set (c.args.asked.now ∷ []) w.items) (λ w. AreStepsAmong (all ++ c.args.asked.now ∷ []) w.items) c.walk_at_set-walk.result
    (λ w h. steps_of_last all c.args.asked.now w.items h.steps) c.walk_at_set-walk.ensures)

pub spread-requires-clause-above : goal.spread-requires-clause-above
spread-requires-clause-above c = above_set c.args.self.now.names c.args.self.now.numbers.items c.args.right c.args.asked.now.constraint.right c.requires.sound.numbers c.requires.right c.if-right-eq0.false

pub close-requires : goal.close-requires
close-requires c =
    let ns = c.args.self.now.numbers.items in
    let marks = c.in-Ok.spread.marks.items in
    let r : c.in-Ok-raise.numbers.items ≡ all_raised c.least_of-least.result ns marks =
    c.in-Ok-raise.ensures ∙ ap (λ z. all_raised c.least_of-least.result z c.deref-3.result.now) c.deref-2.ensures.value ∙ ap (λ z. all_raised c.least_of-least.result ns z) c.deref-3.ensures.value in
    let l = all_raised_length c.least_of-least.result ns marks c.in-Ok.ensures.lengths in
    let e = c.requires.sound.numbers.lengths in
    let f = c.requires.few in
    let n : length c.in-Ok-raise.numbers.items ≡ length ns = ap length r ∙ l in omega arith

pub returns-in-Ok-close-clause-raised : goal.returns-in-Ok-close-clause-raised
returns-in-Ok-close-clause-raised c =
    let b = c.args.self.now in
    let ns = b.numbers.items in
    let marks = c.in-Ok.spread.marks.items in
    let steps = c.in-Ok.spread.steps.items in
    let strict = c.args.asked.now.constraint.strict in
    let within : c.args.left < length ns = let w = place_within b.names c.args.left c.args.asked.now.constraint.left c.requires.left in let e = c.requires.sound.numbers.lengths in omega arith in
    let left : c.index.result.now ≡ at ns c.args.left = at_read ns c.args.left c.index.result.now within c.index.ensures in
    let least : c.least_of-least.result ≡ least_of strict (at ns c.args.left) = c.least_of-least.ensures ∙ ap (least_of strict) left in
    let r : c.in-Ok-raise.numbers.items ≡ all_raised (least_of strict (at ns c.args.left)) ns marks =
    c.in-Ok-raise.ensures ∙ ap (λ z. all_raised c.least_of-least.result z c.deref-3.result.now) c.deref-2.ensures.value ∙ ap (λ z. all_raised c.least_of-least.result ns z) c.deref-3.ensures.value
    ∙ ap (λ z. all_raised z ns marks) least in
    let one = above_set b.names ns c.args.right c.args.asked.now.constraint.right c.requires.sound.numbers c.requires.right c.if-right-eq0.false in
    let none : (j : ℕ) (s : Step) → slice_get c.deref.result.now j ≡ Some s → s.place ≡ c.args.left → s.strict ≡ true → ⊥ = c.in_default-strict_step.ensures in
    raised_good b c.args.left c.args.right strict marks steps c.in-Ok-close.numbers.items c.requires.sound c.in-Ok.ensures
    (λ j s is. none j s (ap (λ z. slice_get z j) c.deref.ensures.value ∙ is)) within one
    (subst (λ z. AreInOrder z c.in-Ok-close.numbers.items) (c.as_slice.ensures.value ∙ r) c.in-Ok-close.ensures.order)
