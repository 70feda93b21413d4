-- The name and its number are added, or the name is taken away again.
use Rattle.std.proofs.Common.{◌≡◌, ◌∙◌, ◌-◌, ◌∷◌, [], suc, take, refl, ap, length, arith, rules}
use Rattle.univ_cycles.specs.calls.Places.{level_at}
use Rattle.univ_graph.proofs.Soundness.{sound_more, sound_same, level_last, front_take}
use Rattle.univ_graph.proofs.board.Board.add_name.Goals as goal

pub returns-in-Ok-clause-sound : goal.returns-in-Ok-clause-sound
returns-in-Ok-clause-sound c =
    let b = c.make_room.new.self in
    let h = c.make_room.ensures.sound in
    let room = c.in_ok-make_room.ensures.room in
    let room_into = c.in_ok-make_room.ensures.room_into in
    sound_more b _ c.args.name.now h (record { names_are = c.in_ok-add.ensures.added; numbers_are = c.in-Ok.ensures.items; edges_are = refl }) refl
    (record { roomy = omega arith; roomy_into = omega arith; listed = h.listed; listed_into = h.listed_into })

pub returns-in-Ok-clause-place : goal.returns-in-Ok-clause-place
returns-in-Ok-clause-place c =
    let names = c.make_room.new.self.names in
    let ns = c.make_room.new.self.numbers.items in
    let e = c.make_room.ensures.sound.numbers.lengths in
    let len : c.len-place.result ≡ length ns = search rules in
    let place : c.len-place.result ≡ suc (length names) = omega arith in
    ap (level_at c.add.new.self) place ∙ ap (λ z. level_at z (suc (length names))) c.in_ok-add.ensures.added ∙ level_last names c.args.name.now

pub returns-in-Err-clause-sound : goal.returns-in-Err-clause-sound
returns-in-Err-clause-sound c =
    let b = c.make_room.new.self in
    let e = c.make_room.ensures.sound.numbers.lengths in
    let len : c.len-place.result ≡ length b.numbers.items = search rules in
    let place : c.len-place.result - 1 ≡ length b.names = omega arith in
    let names : c.truncate.new.self ≡ b.names =
    c.truncate.ensures ∙ ap (λ z. take z c.add.new.self) place ∙ ap (take (length b.names)) c.in_ok-add.ensures.added ∙ front_take b.names (c.args.name.now ∷ []) in
    let h = c.make_room.ensures.sound in
    sound_same b _ h (record { names_are = names; numbers_are = c.in-Err.ensures.items; edges_are = refl }) refl
    (record { roomy = h.roomy; roomy_into = h.roomy_into; listed = h.listed; listed_into = h.listed_into })
