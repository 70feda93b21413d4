-- The names and the numbers are cut back to those from before.
use Rattle.std.proofs.Common.{◌≡◌, ◌∙◌, ◌+◌, take, ap, length, refl, arith}
use Rattle.univ_graph.proofs.Soundness.{sound_back, front_take}
use Rattle.univ_graph.proofs.board.Board.take.Goals as goal

pub returns-in-Err-clause-sound : goal.returns-in-Err-clause-sound
returns-in-Err-clause-sound c =
    let old = c.args.self.now in
    let mid = c.try_take.new.self in
    let front = c.in-Err.ensures.front in
    let more = c.in-Err.ensures.numbers in
    let known : length c.names-known.result.now ≡ length old.names = ap length c.names-known.ensures in
    let names : c.truncate.new.self ≡ old.names =
    c.truncate.ensures ∙ ap (λ z. take z mid.names) known ∙ ap (take (length old.names)) front.1 ∙ front_take old.names front.0 in
    let count : length c.names-known.result.now + 1 ≡ length old.numbers.items = let e = c.requires.sound.numbers.lengths in omega arith in
    let numbers : c.truncate-in-Err.new.self.items ≡ old.numbers.items =
    c.truncate-in-Err.ensures.items ∙ ap (λ z. take z mid.numbers.items) count ∙ ap (take (length old.numbers.items)) more.1 ∙ front_take old.numbers.items more.0 in
    sound_back old mid _ c.requires.sound c.try_take.ensures.sound (record { names_are = names; numbers_are = numbers; edges_are = refl }) refl refl refl c.in-Err.ensures.edges more
