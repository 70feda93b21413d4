use Rattle.std.proofs.Common.{◌∙◌, ap, sym, take, ℕ, List}
use Rattle.std.proofs.lemmas.List.{take-map}
use Rattle.std.specs.Rc.{rc_str_bytes}
use Rattle.std.proofs.Common.{subst}
use Rattle.name_scope.specs.Tables.{Text, texts}
use Rattle.name_scope.proofs.TableLaws.{Keyed, keyed_cut}
use Rattle.name_scope.proofs.name_set.NameSet.cut.Goals as goal

pub invariant_of-self : goal.invariant_of-self
invariant_of-self c = subst Keyed (sym c.truncate.ensures.entries) (keyed_cut c.args.len c.self.inside.names.entries c.self.invariant)

pub returns : goal.returns
returns c =
    ap (λ (es : List (Text × List ℕ)). texts es) c.truncate.ensures.entries
    ∙ sym (take-map (λ (e : Text × List ℕ). rc_str_bytes e.0) c.args.len c.self.inside.names.entries)
    ∙ ap (λ l. take c.args.len l) c.self.view_is
