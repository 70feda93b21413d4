use Rattle.std.proofs.Common.{sym, subst, ℕ, List}
use Rattle.name_scope.specs.Tables.{texts, under}
use Rattle.name_scope.specs.calls.Changes.{Leaves}
use Rattle.name_scope.proofs.TableLaws.{Keyed, keyed_removed, leaves}
use Rattle.name_scope.proofs.name_set.NameSet.remove.Goals as goal

pub invariant_of-self : goal.invariant_of-self
invariant_of-self c =
    subst Keyed (sym c.swap_remove-name.ensures.entries) (keyed_removed (under c.text.result.now) c.self.inside.names.entries c.self.invariant)

pub returns : goal.returns
returns c =
    subst (λ (names : List (List ℕ)). Leaves c.args.name.now names (texts c.swap_remove-name.new.self.entries)) c.self.view_is
    (subst (λ (name : List ℕ). Leaves name (texts c.self.inside.names.entries) (texts c.swap_remove-name.new.self.entries)) c.text.ensures.value
    (leaves c.text.result.now c.self.inside.names.entries c.swap_remove-name.new.self.entries c.swap_remove-name.ensures.updates.1 c.swap_remove-name.ensures.updates.3))
