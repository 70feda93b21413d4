use Rattle.std.proofs.Common.{◌≡◌, ap, sym, subst, ◌∙◌, ◌++◌, ◌∷◌, [], List, ℕ}
use Rattle.std.specs.Prelude.{None, is_some}
use Rattle.std.specs.Map.{lookup}
use Rattle.std.specs.Rc.{rc_str_bytes}
use Rattle.cic_names.specs.Sameness.{same_name}
use Rattle.gal_scoping.specs.Scopes.{Allowed}
use Rattle.name_scope.specs.Tables.{under}
use Rattle.name_scope.specs.Permitted.{allowed_of, AreNamed}
use Rattle.name_scope.specs.calls.Changes.{is_allowed, with_names, Allows}
use Rattle.name_scope.specs.declared.library.Library.{Library}
use Rattle.name_scope.proofs.TableLaws.{none_of, some_any, put_last, others}
use Rattle.name_scope.proofs.LibraryLaws.{allowed_any, allows, levels_kept, named_last}
use Rattle.name_scope.proofs.libraries.Libraries.add.Goals as goal

-- The library is not there.
lacks : (c : goal.Joined-branch-5) → lookup (under c.args.name.now) c.self.inside.libraries.entries ≡ None
lacks c =
    none_of (lookup (under c.args.name.now) c.self.inside.libraries.entries)
    (allowed_any c.args.name.now c.self.inside.libraries.entries ∙ ap (λ (a : List Allowed). is_allowed a c.args.name.now) c.self.view_is ∙ c.requires)

text_is : (c : goal.Joined-branch-5) → rc_str_bytes c.in_ok-text.text ≡ c.args.name.now
text_is c = c.in_ok-text.ensures.ok ∙ c.text.ensures.value

abbrev library : goal.Joined-branch-5 → Library
library c = record { name = c.in_ok-clone.field-0; levels = c.insert_all.new.self }

pub invariant_of-self-2 : goal.invariant_of-self-2
invariant_of-self-2 c =
    let es = c.self.inside.libraries.entries in
    let key = c.in_ok-text.text in
    let absent = sym (some_any (rc_str_bytes key) es) ∙ ap (λ (t : List ℕ). is_some (lookup (under t) es)) (text_is c) ∙ ap is_some (lacks c) in
    let last : c.insert.new.self.entries ≡ es ++ (key, library c) ∷ [] = c.in_ok-insert.ensures.entries ∙ put_last es key (library c) absent in (
      subst AreNamed (sym last) (named_last es key (library c) c.self.invariant.0 (text_is c ∙ sym c.in_ok-clone.ensures.cases)),
      c.insert.ensures.unique,
    )

pub returns-clause-allows : goal.returns-clause-allows
returns-clause-allows c =
    let es = c.self.inside.libraries.entries in
    let new = c.insert.new.self.entries in
    let name = c.args.name.now in
    let levels = c.args.levels.now in
    let is : c.insert_all.new.self ≡ with_names (levels_kept (lookup (under name) es)) levels =
    c.in_ok-insert_all.ensures.added ∙ ap (λ (l : List (List ℕ)). with_names l levels) (c.new.ensures ∙ ap levels_kept (sym (lacks c))) in
    let at = ap (λ (t : List ℕ). lookup (under t) new) (sym (text_is c)) ∙ c.in_ok-insert.ensures.updates.1 in
    let keeps = others (rc_str_bytes c.in_ok-text.text) es new c.in_ok-insert.ensures.updates.3 in
    subst (λ (a : List Allowed). Allows name levels a (allowed_of new)) c.self.view_is
    (allows name levels es new (library c) c.self.invariant.1 c.insert.ensures.unique is at (λ other s. keeps other (ap (λ (t : List ℕ). same_name other t) (text_is c) ∙ s)))
