use Rattle.std.proofs.Common.{◌||◌, Bool, ap₂, ◌∙◌, is_some, refl}
use Rattle.cic_terms.specs.Denotes.{tree}
use Rattle.section_walks.proofs.Parts.{domains_still, none_is_old, none_of_three}
use Rattle.section_walks.proofs.gathering.add_body.Goals as goal

pub returns-clause-ok : goal.returns-clause-ok
returns-clause-ok c =
    let or_else : Bool → Bool → Bool = λ a b. a || b in
    let are = c.either-changed.ensures ∙ ap₂ or_else (c.either.ensures ∙ ap₂ or_else c.is_some.ensures c.is_some-2.ensures) c.is_some-3.ensures in
    record {
      added = record { k = c.args.one.now.k; domains = c.in_ok-domains.domains; codomain = c.in_ok-codomain.codomain; body = c.in_ok-body.body };
      has_parts = record { k = refl; domains = c.in_ok-domains.ensures.ok; codomain = c.in_ok-codomain.ensures.ok; body = c.in_ok-body.ensures.ok };
      is_last = c.in_ok-keep.ensures.ok;
      domains = λ e. domains_still c.args.one.now.domains c.args.new_domains (none_of_three (is_some c.args.new_domains) (is_some c.args.new_codomain) (is_some c.args.new_body) c.either-changed.result are e).0;
      codomain = λ e. none_is_old (tree c.args.one.now.codomain) c.args.new_codomain (none_of_three (is_some c.args.new_domains) (is_some c.args.new_codomain) (is_some c.args.new_body) c.either-changed.result are e).1;
      body = λ e. none_is_old (tree c.args.one.now.body) c.args.new_body (none_of_three (is_some c.args.new_domains) (is_some c.args.new_codomain) (is_some c.args.new_body) c.either-changed.result are e).2;
    }
