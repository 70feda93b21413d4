use Rattle.std.proofs.Common.{ap, ◌∙◌, ℕ, List}
use Rattle.std.specs.Prelude.{is_some}
use Rattle.gal_scoping.specs.Names.{has_own}
use Rattle.name_scope.proofs.TableLaws.{some_copied, some_any, name_told}
use Rattle.name_scope.proofs.name_set.NameSet.get.Goals as goal

pub returns-clause-found : goal.returns-clause-found
returns-clause-found c =
    some_copied c.kept.result ∙ ap is_some c.kept.ensures ∙ some_any c.args.text.now c.self.inside.names.entries
    ∙ ap (λ (names : List (List ℕ)). has_own names c.args.text.now) c.self.view_is

pub returns-clause-name : goal.returns-clause-name
returns-clause-name c = name_told c.args.text.now c.self.inside.names.entries c.kept.result c.self.invariant c.kept.ensures
