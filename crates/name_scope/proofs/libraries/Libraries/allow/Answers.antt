use Rattle.std.proofs.Common.{◌≡◌, ap, sym, subst, ◌∙◌, List, ℕ, refl, rules}
use Rattle.std.specs.Prelude.{Option, Some, is_some, IfSome}
use Rattle.std.specs.Map.{lookup, set_value}
use Rattle.cic_names.specs.Sameness.{same_name}
use Rattle.gal_scoping.specs.Scopes.{Allowed}
use Rattle.name_scope.specs.Tables.{Text, under}
use Rattle.name_scope.specs.Permitted.{allowed_of, AreNamed}
use Rattle.name_scope.specs.calls.Changes.{is_allowed, with_names, Allows}
use Rattle.name_scope.specs.declared.library.Library.{Library}
use Rattle.name_scope.proofs.NameLaws.{on_ok, on_err}
use Rattle.name_scope.proofs.TableLaws.{others}
use Rattle.name_scope.proofs.LibraryLaws.{allowed_any, allows, levels_kept, set_named, set_texts, set_same}
use Rattle.name_scope.proofs.libraries.Libraries.allow.Goals as goal

pub add-requires : goal.add-requires
add-requires c =
    let es = c.self.inside.libraries.entries in
    let same : c.get_mut.follows.lender-at-none.entries ≡ es = search rules in
    ap (λ (l : List (Text × Library)). is_allowed (allowed_of l) c.args.name.now) same
    ∙ sym (allowed_any c.args.name.now es) ∙ ap (λ (t : List ℕ). is_some (lookup (under t) es)) (sym c.text.ensures.value) ∙ ap is_some (sym c.in_default.ensures.value)

abbrev written : goal.After-self-2-1 → Library
written c = record { name = c.in-Some.library.now.name; levels = c.insert_all.new.self }

-- The library is there.
found : (c : goal.After-self-2-1) → lookup (under c.text.result.now) c.self.inside.libraries.entries ≡ Some c.in-Some.library.now
found c = sym c.in-Some.ensures.value

pub invariant_of-self-2 : goal.invariant_of-self-2
invariant_of-self-2 c =
    let es = c.self.inside.libraries.entries in
    let test = under c.text.result.now in
    let h = c.get_mut.follows.holds (written c) in (
      subst AreNamed (sym h.0)
          (set_named test es (written c) (subst (λ (o : Option Library). IfSome o (λ old. c.in-Some.library.now.name ≡ old.name)) (sym (found c)) refl)
          ∙ c.self.invariant.0 ∙ sym (set_texts test es (written c))),
      h.4,
    )

pub returns-clause-allows : goal.returns-clause-allows
returns-clause-allows c =
    let es = c.self.inside.libraries.entries in
    let name = c.args.name.now in
    let levels = c.args.levels.now in
    let text = c.text.result.now in
    let h = c.get_mut.follows.holds (written c) in
    let new = (c.get_mut.follows.lender (written c)).entries in
    let u = h.3 (ap is_some (found c)) in
    let there : lookup (under name) es ≡ Some c.in-Some.library.now = ap (λ (t : List ℕ). lookup (under t) es) (sym c.text.ensures.value) ∙ found c in
    let at : lookup (under name) new ≡ Some (written c) = ap (λ (t : List ℕ). lookup (under t) new) (sym c.text.ensures.value) ∙ u.1 in
    on_ok c.insert_all.result
    (λ added. subst (λ (a : List Allowed). Allows name levels a (allowed_of new)) c.self.view_is
    (allows name levels es new (written c) c.self.invariant.1 h.4 (added ∙ ap (λ (o : Option Library). with_names (levels_kept o) levels) (sym there)) at
    (λ other s. others text es new u.3 other (ap (λ (t : List ℕ). same_name other t) c.text.ensures.value ∙ s))))
    c.insert_all.ensures.added

pub returns-clause-same : goal.returns-clause-same
returns-clause-same c =
    let es = c.self.inside.libraries.entries in
    let test = under c.text.result.now in
    let h = c.get_mut.follows.holds (written c) in
    on_err c.insert_all.result
    (λ same.
    let is : written c ≡ c.in-Some.library.now = ap (λ (l : List (List ℕ)). record { name = c.in-Some.library.now.name; levels = l }) same in
    ap (λ (l : List (Text × Library)). allowed_of l) (h.0 ∙ ap (λ (l : Library). set_value test es l) is ∙ set_same test es c.in-Some.library.now (found c)) ∙ c.self.view_is)
    c.insert_all.ensures.same
