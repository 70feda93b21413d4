use Rattle.std.proofs.Common.{◌≡◌, ap, sym, subst, ◌∙◌, List, Ok, Err}
use Rattle.memory.specs.Telling.{Tells}
use Rattle.cic_names.specs.declared.name.GlobalId.{GlobalId}
use Rattle.gal_scoping.specs.Readings.{Reading}
use Rattle.name_scope.specs.Faults.{fault}
use Rattle.name_scope.specs.Kept.{reading}
use Rattle.name_scope.specs.calls.Changes.{imported_of}
use Rattle.name_scope.proofs.ImportLaws.{read}
use Rattle.name_scope.proofs.imports.Imports.get.Goals as goal

pub returns : goal.returns
returns c =
    let name = c.args.name.now in
    subst (λ (r : Reading GlobalId). Tells fault c.id_of.result (λ id. r ≡ Ok id) (λ f. r ≡ Err f))
    (ap (reading name) c.kept.ensures ∙ sym (read name c.self.inside.names.entries c.self.invariant) ∙ ap (λ (ids : List GlobalId). imported_of ids name) c.self.view_is)
    c.id_of.ensures
