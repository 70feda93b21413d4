-- The place is put behind the others, or is there.
use Rattle.std.proofs.Common.{◌≡◌, ◌⊎◌, sym, subst}
use Rattle.std.specs.Prelude.{Contains, nat_eq}
use Rattle.std.proofs.lemmas.Map.Views.{exact_unsigned_eq}
use Rattle.indexmap.proofs.CallerLemmas.{Contains-insert_key}
use Rattle.univ_nodes.proofs.PlaceSets.{insert_only}
use Rattle.univ_nodes.proofs.place_set.Places.insert.Goals as goal
use Rattle.univ_nodes.proofs.place_set.Places.insert.Goals.{in-Ok, in-Err}

pub returns-clause-has : goal.returns-clause-has
returns-clause-has c =
    let place = c.args.place in
    elim c.match-insert.branch [
      | in-Ok w ↦ rw w.result-is (subst (λ ps. Contains ps place) (sym w.in-Ok.ensures.keys) (Contains-insert_key nat_eq exact_unsigned_eq c.self.inside.set.keys place))
      | in-Err w ↦ rw w.result-is tt
    ]

pub returns-clause-only : goal.returns-clause-only
returns-clause-only c =
    let place = c.args.place in
    elim c.match-insert.branch [
      | in-Ok w ↦ rw w.result-is (λ p has.
          subst (λ ps. Contains ps p ⊎ (p ≡ place)) c.self.view_is (insert_only c.self.inside.set.keys place p (subst (λ ps. Contains ps p) w.in-Ok.ensures.keys has)))
      | in-Err w ↦ rw w.result-is tt
    ]
