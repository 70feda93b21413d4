-- A key is equal to a place only if it is that place.
use Rattle.std.proofs.Common.{◌↔◌, IsTrue, ◌∙◌, sym, subst}
use Rattle.std.specs.Prelude.{Contains}
use Rattle.std.proofs.lemmas.Cmp.{nat_eq_equiv}
use Rattle.std.proofs.lemmas.Map.Views.{exact_unsigned_eq, hash_set_contains_iff}
use Rattle.univ_nodes.proofs.place_set.Places.contains.Goals as goal

pub returns : goal.returns
returns c =
    let place = c.args.place in
    let told = hash_set_contains_iff nat_eq_equiv exact_unsigned_eq c.self.inside.set place in
    subst (λ ps. IsTrue c.contains.result ↔ Contains ps place) c.self.view_is
    (λ found. told.0 (sym c.contains.ensures ∙ found), λ has. c.contains.ensures ∙ told.1 has)
