use Rattle.std.proofs.Common.{◌≡◌, ◌∙◌, ap, sym, subst, true, false, ℕ, List, [], ◌∷◌, ◌++◌}
use Rattle.std.specs.Rc.{rc_str_bytes}
use Rattle.gal_scoping.specs.Names.{has_own}
use Rattle.name_scope.specs.Tables.{Text, texts}
use Rattle.name_scope.specs.calls.Changes.{Joins, with_name}
use Rattle.name_scope.proofs.NameLaws.{joins, with_there, with_new}
use Rattle.name_scope.proofs.TableLaws.{Keyed, told, put_last, texts-last, keyed_last}
use Rattle.name_scope.proofs.name_set.NameSet.insert.Goals as goal

there : (c : goal.Then-contains_key) → c.args.self.now ≡ with_name c.args.self.now c.args.name.now
there c =
    with_there c.args.self.now c.args.name.now
    (told c.args.self.now c.args.name.now c.text.result.now c.self.inside.names.entries c.contains_key.result true c.self.view_is c.text.ensures.value c.contains_key.ensures c.if-contains_key.true)

pub returns-then-contains_key-clause-added : goal.returns-then-contains_key-clause-added
returns-then-contains_key-clause-added c = there c

pub returns-then-contains_key-clause-joins : goal.returns-then-contains_key-clause-joins
returns-then-contains_key-clause-joins c =
    subst (λ (names : List (List ℕ)). Joins c.args.name.now c.args.self.now names) (sym (there c)) (joins c.args.self.now c.args.name.now)

-- The table with the name last.
last : (c : goal.Joined-branch-4) → (rc_str_bytes c.in_ok-text.text ≡ c.args.name.now) × (c.in_ok-name.name ≡ c.args.name.now) × (has_own c.args.self.now c.args.name.now ≡ false) ×
    (c.insert.new.self.entries ≡ c.self.inside.names.entries ++ (c.in_ok-text.text, c.in_ok-name.name) ∷ [])
last c =
    let text = c.in_ok-text.ensures.ok ∙ c.text-2.ensures.value in
    let lacks = told c.args.self.now c.args.name.now c.text.result.now c.self.inside.names.entries c.contains_key.result false c.self.view_is c.text.ensures.value c.contains_key.ensures c.if-contains_key.false in (
      text,
      c.in_ok-name.ensures.cases,
      lacks,
      c.in_ok-insert.ensures.entries ∙ put_last c.self.inside.names.entries c.in_ok-text.text c.in_ok-name.name
          (ap (λ (l : List (List ℕ)). has_own l (rc_str_bytes c.in_ok-text.text)) c.self.view_is ∙ ap (λ (t : List ℕ). has_own c.args.self.now t) text ∙ lacks),
    )

pub invariant_of-self-2 : goal.invariant_of-self-2
invariant_of-self-2 c =
    let l = last c in
    subst Keyed (sym l.3) (keyed_last c.self.inside.names.entries c.in_ok-text.text c.in_ok-name.name c.self.invariant (l.0 ∙ sym l.1))

added : (c : goal.Joined-branch-4) → texts c.insert.new.self.entries ≡ with_name c.args.self.now c.args.name.now
added c =
    let l = last c in
    ap (λ (es : List (Text × List ℕ)). texts es) l.3
    ∙ texts-last c.self.inside.names.entries c.in_ok-text.text c.in_ok-name.name
    ∙ ap (λ (names : List (List ℕ)). names ++ rc_str_bytes c.in_ok-text.text ∷ []) c.self.view_is
    ∙ ap (λ (n : List ℕ). c.args.self.now ++ n ∷ []) l.0
    ∙ with_new c.args.self.now c.args.name.now l.2

pub returns-clause-added : goal.returns-clause-added
returns-clause-added c = added c

pub returns-clause-joins : goal.returns-clause-joins
returns-clause-joins c =
    subst (λ (names : List (List ℕ)). Joins c.args.name.now c.args.self.now names) (sym (added c)) (joins c.args.self.now c.args.name.now)
