use Rattle.std.proofs.Common.{◌≡◌, ap, ◌∙◌, List}
use Rattle.std.specs.Prelude.{is_some}
use Rattle.gal_scoping.specs.Scopes.{Allowed}
use Rattle.name_scope.specs.calls.Changes.{is_allowed}
use Rattle.name_scope.specs.declared.library.Library.{Library}
use Rattle.name_scope.proofs.TableLaws.{some_copied, behind}
use Rattle.name_scope.proofs.LibraryLaws.{allowed_any, found_name, found_levels}
use Rattle.name_scope.proofs.libraries.Libraries.get.Goals as goal

pub returns-clause-found : goal.returns-clause-found
returns-clause-found c =
    some_copied c.kept.result ∙ ap is_some c.kept.ensures ∙ allowed_any c.args.name.now c.self.inside.libraries.entries
    ∙ ap (λ (a : List Allowed). is_allowed a c.args.name.now) c.self.view_is

pub returns-clause-name : goal.returns-clause-name
returns-clause-name c =
    behind (λ (l : Library). l.name ≡ c.args.name.now) c.kept.result _ c.kept.ensures (found_name c.args.name.now c.self.inside.libraries.entries c.self.invariant.0)

pub returns-clause-levels : goal.returns-clause-levels
returns-clause-levels c =
    found_levels c.args.name.now c.self.inside.libraries.entries c.args.self.now c.kept.result c.self.invariant.1 c.self.view_is c.kept.ensures
