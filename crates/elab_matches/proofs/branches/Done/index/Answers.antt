use Rattle.std.proofs.Common.{ap, ◌∙◌, ◌≤◌, ℕ, get_or, arith}
use Rattle.std.specs.Prelude.{Option, None, List}
use Rattle.elab_matches.proofs.branches.Done.index.Goals as goal

pub returns-in-Some : goal.returns-in-Some
returns-in-Some c =
    let p = c.args.place in let within : p ≤ p = omega arith in
    c.in-Some.ensures.lookup.4 within None ∙ ap (λ (t : List (Option ℕ)). get_or t p None) c.deref.ensures.value ∙ c.args.self.now.indexed p

pub returns-in-None : goal.returns-in-None
returns-in-None c =
    let p = c.args.place in let within : p ≤ p = omega arith in
    c.in-None.ensures.lookup.4 within None ∙ ap (λ (t : List (Option ℕ)). get_or t p None) c.deref.ensures.value ∙ c.args.self.now.indexed p
