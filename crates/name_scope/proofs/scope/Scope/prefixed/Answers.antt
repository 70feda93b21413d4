use Rattle.std.proofs.Common.{sym, ap, ◌∙◌}
use Rattle.std.specs.Prelude.{not}
use Rattle.name_scope.specs.Held.{scope_of}
use Rattle.name_scope.proofs.WordLaws.{not_prefixed, too_many}
use Rattle.name_scope.proofs.scope.Scope.prefixed.Goals as goal
use Rattle.name_scope.proofs.scope.Scope.prefixed.Goals.{else-is_prefix-via-then-is_prefix+else-is_none, else-is_prefix-via-else-is_prefix}

pub returns-else-is_prefix : goal.returns-else-is_prefix
returns-else-is_prefix c =
    elim c.else-is_prefix.branch [
      | else-is_prefix-via-then-is_prefix+else-is_none w ↦
          sym (too_many (scope_of c.args.self.now) c.args.prefix.now c.args.library.now c.args.name.now w.cut_at_dot.result w.cut_at_dot.ensures (w.is_none.ensures ∙ ap not w.if-is_none.false))
      | else-is_prefix-via-else-is_prefix w ↦
          sym (not_prefixed (scope_of c.args.self.now) c.args.prefix.now c.args.library.now c.args.name.now (sym c.is_prefix.ensures ∙ w.if-is_prefix.false))
    ]
