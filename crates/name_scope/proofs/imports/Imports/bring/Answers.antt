use Rattle.std.proofs.Common.{◌≡◌, ◌∙◌, ap, sym, subst, List, [], ◌∷◌, ◌++◌, refl, true, ℕ}
use Rattle.std.specs.Prelude.{Some, Option}
use Rattle.std.specs.Map.{lookup}
use Rattle.std.specs.Rc.{rc_str_bytes}
use Rattle.cic_names.specs.declared.name.GlobalId.{GlobalId}
use Rattle.cic_names.specs.Sameness.{same_name}
use Rattle.name_scope.specs.Tables.{under}
use Rattle.name_scope.specs.Kept.{ids_of, kept_with, is_right, AreRight}
use Rattle.name_scope.specs.calls.Changes.{Brings}
use Rattle.name_scope.specs.declared.brought.Brought.{Brought}
use Rattle.name_scope.proofs.NameLaws.{same_self}
use Rattle.name_scope.proofs.TableLaws.{others}
use Rattle.name_scope.proofs.ImportLaws.{IsSound, brings, stays, changes, found_right, next_right, put_right}
use Rattle.name_scope.proofs.imports.Imports.bring.Goals as goal

pub returns-in_default-clause-brings : goal.returns-in_default-clause-brings
returns-in_default-clause-brings c =
    let es = c.self.inside.names.entries in
    let id = c.args.id.now in
    let at = stays _ id _ c.in_ok-brought.ensures c.in_default.is in
    let same = c.get.ensures.value ∙ ap (λ (t : List ℕ). lookup (under t) es) c.text.ensures.value in
    let here : lookup (under id.name) es ≡ Some (kept_with (lookup (under id.name) es) id) = subst (λ (o : Option Brought). o ≡ Some (kept_with o id)) same at in
    subst (λ (ids : List GlobalId). Brings (ids ++ id ∷ []) ids) c.self.view_is (brings es es id c.self.invariant c.self.invariant here (λ other s. refl))

-- What is put into the table.
put : (c : goal.Joined-branch-5) →
    (rc_str_bytes c.in_ok-text.text ≡ c.args.id.now.name) × (c.in-Some.brought ≡ kept_with (lookup (under c.args.id.now.name) c.self.inside.names.entries) c.args.id.now)
put c =
    let es = c.self.inside.names.entries in
    let same = c.get.ensures.value ∙ ap (λ (t : List ℕ). lookup (under t) es) c.text.ensures.value in (
      c.in_ok-text.ensures.ok ∙ c.text-2.ensures.value,
      changes _ c.args.id.now _ c.in-Some.brought c.in_ok-brought.ensures c.in-Some.is ∙ ap (λ (o : Option Brought). kept_with o c.args.id.now) same,
    )

sound : (c : goal.Joined-branch-5) → IsSound c.insert.new.self.entries
sound c =
    let es = c.self.inside.names.entries in
    let id = c.args.id.now in
    let p = put c in
    let right : is_right id.name c.in-Some.brought ≡ true =
    ap (is_right id.name) p.1 ∙ next_right id.name (lookup (under id.name) es) id (found_right id.name es c.self.invariant.0) (same_self id.name) in (
      subst AreRight (sym c.in_ok-insert.ensures.entries) (put_right es c.in_ok-text.text c.in-Some.brought c.self.invariant.0 (ap (λ (t : List ℕ). is_right t c.in-Some.brought) p.0 ∙ right)),
      c.insert.ensures.unique,
    )

pub invariant_of-self-2 : goal.invariant_of-self-2
invariant_of-self-2 c = sound c

pub returns-clause-brings : goal.returns-clause-brings
returns-clause-brings c =
    let es = c.self.inside.names.entries in
    let new = c.insert.new.self.entries in
    let id = c.args.id.now in
    let p = put c in
    let text = c.in_ok-text.text in
    let at : lookup (under id.name) new ≡ Some (kept_with (lookup (under id.name) es) id) =
    ap (λ (t : List ℕ). lookup (under t) new) (sym p.0) ∙ c.in_ok-insert.ensures.updates.1 ∙ ap (λ (b : Brought). Some b) p.1 in
    let keeps = others (rc_str_bytes text) es new c.in_ok-insert.ensures.updates.3 in
    subst (λ (ids : List GlobalId). Brings (ids ++ id ∷ []) (ids_of new)) c.self.view_is
    (brings es new id c.self.invariant (sound c) at (λ other s. keeps other (ap (λ (t : List ℕ). same_name other t) p.0 ∙ s)))
