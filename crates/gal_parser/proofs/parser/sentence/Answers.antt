-- A sentence is read part by part, and where a part is missing none begins.
use Rattle.std.proofs.lemmas.Result.{err_from_is_err_and}
use Rattle.gal_parser.specs.Grammar.{spells_axiom}
use Rattle.gal_parser.proofs.GrammarLaws.{lacks_part, sentence_parts, after_axiom, after_name, after_colon, after_term}
use Rattle.gal_parser.proofs.parser.sentence.Goals as goal

pub returns-in_err-keyword : goal.returns-in_err-keyword
returns-in_err-keyword c =
    let p = err_from_is_err_and c.from_residual.result c.from_residual.ensures.1 in
    rw (p.1, p.2) (lacks_part c.in_err-keyword.field-0.0 c.in_err-keyword.ensures (λ r z w. let (a, h, rest) = sentence_parts w in (a, tt, h)))

pub returns-in_err-colon : goal.returns-in_err-colon
returns-in_err-colon c =
    let p = err_from_is_err_and c.from_residual-in_err-colon.result c.from_residual-in_err-colon.ensures.1 in
    rw (p.1, p.2) (lacks_part c.in_err-colon.field-0.0 c.in_err-colon.ensures (λ r z w.
    let (k, h, rest) = after_name c.keyword.new.self.rest.now c.in_ok-name.ensures (after_axiom c.in_ok-keyword.ensures w) in (k, tt, h)))

pub returns-in_err-ty : goal.returns-in_err-ty
returns-in_err-ty c =
    let p = err_from_is_err_and c.from_residual-in_err-ty.result c.from_residual-in_err-ty.ensures.1 in
    rw (p.1, p.2) (lacks_part c.in_err-ty.field-0.0 c.in_err-ty.ensures (λ r z w.
    let (d, t, h, rest) = after_colon c.identifier.new.self.rest.now c.in_ok-colon.ensures
    (after_name c.keyword.new.self.rest.now c.in_ok-name.ensures (after_axiom c.in_ok-keyword.ensures w)) in (d, t, h)))

pub returns-in_err-stop : goal.returns-in_err-stop
returns-in_err-stop c =
    let p = err_from_is_err_and c.from_residual-in_err-stop.result c.from_residual-in_err-stop.ensures.1 in
    rw (p.1, p.2) (lacks_part c.in_err-stop.field-0.0 c.in_err-stop.ensures (λ r z w.
    let (h, same) = after_term c.in_ok-ty.ensures (after_colon c.identifier.new.self.rest.now c.in_ok-colon.ensures
    (after_name c.keyword.new.self.rest.now c.in_ok-name.ensures (after_axiom c.in_ok-keyword.ensures w))) in (r, tt, h)))

pub returns : goal.returns
returns c = spells_axiom c.in_ok-keyword.ensures c.in_ok-name.ensures c.in_ok-colon.ensures c.in_ok-ty.ensures c.in_ok-stop.ensures
