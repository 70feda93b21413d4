use Rattle.std.proofs.Common.{◌≡◌, ◌∙◌, ◌+◌, sym, ap, List, [], ◌∷◌, ◌++◌, drop, append_assoc, rules}
use Rattle.cic_env.specs.calls.Places.{Named}
use Rattle.cic_env.proofs.Cuts.{left-get}
use Rattle.cic_env.proofs.naming.names_in.Goals as goal

pub loop-number-preserved : goal.loop-number-preserved
loop-number-preserved c =
    let es = c.args.places.now.entries in
    let number = c.loop-number.number in
    let e : Named = (c.in-Some.id.now, c.in-Some.place.now) in
    let pushed : c.push.new.self.items ≡ c.loop-number.names.items ++ e ∷ [] = search rules in
    ap (λ (l : List Named). l ++ drop (number + 1) es) pushed
    ∙ append_assoc c.loop-number.names.items (e ∷ []) (drop (number + 1) es)
    ∙ ap (λ (l : List Named). c.loop-number.names.items ++ l) (sym (left-get es number e c.in-Some.ensures.entry))
    ∙ c.loop-number.invariant
