use Rattle.std.proofs.Common.{sym, ap, ◌∙◌, List, ℕ}
use Rattle.cic_names.specs.Sameness.{same_name}
use Rattle.std.specs.Prelude.{is_some}
use Rattle.name_scope.specs.Held.{scope_of}
use Rattle.name_scope.specs.Parts.{id_written}
use Rattle.name_scope.proofs.AnswerLaws.{unknown_level}
use Rattle.name_scope.proofs.scope.Scope.qualified_level.Goals as goal

pub returns-in-None : goal.returns-in-None
returns-in-None c =
    unknown_level (scope_of c.args.self.now) c.args.written.now (id_written c.args.parts) (ap (λ (l : List ℕ). same_name l c.args.parts.library.now) (sym c.bytes.ensures.value) ∙ sym c.eq.ensures ∙ c.if-eq.false) (sym c.get.ensures.found ∙ ap is_some c.in-None.is)
