-- Where one of several ids occurs in a term, id by id; and the steps of the walks that look for it.
use Rattle.std.proofs.Common.{◌≡◌, inl, inr, ℕ, ◌≤◌, Bool, true, false, ◌||◌, List, [], ◌∷◌, ◌++◌, length, drop, refl, ap, ap₂, ◌∙◌}
use Rattle.std.specs.List.{list_any}
use Rattle.std.proofs.lemmas.Bool.{false_from_ne_true, or_left, or_right}
use Rattle.std.proofs.lemmas.List.{drop-append-le}
use Rattle.cic_names.specs.declared.name.GlobalId.{GlobalId}
use Rattle.cic_names.specs.Sameness.{same_id}
use Rattle.cic_names.proofs.Equality.{same_id_decides}
use Rattle.cic_terms.specs.Tree.{Tree, rel, node, Children, no_child, child, Former, ConstF, IndF, CtorF, CaseF}
use Rattle.cic_terms.specs.Mentions.{Names, Mentions, ChildrenMention}
use Rattle.cic_rules.specs.Telescopes.{is_among}
use Rattle.cic_counted.specs.BlockTests.{former_has, occurs, occurs_in_children}

-- One more id
pub among_here : (id : GlobalId) (ids : List GlobalId) (x : GlobalId) → x ≡ id → is_among x (id ∷ ids) ≡ true
among_here id ids x h = or_left (same_id x id) (is_among x ids) ((same_id_decides x id).1 h)

pub among_else : (id : GlobalId) (ids : List GlobalId) (x : GlobalId) → (x ≡ id → ⊥) → is_among x (id ∷ ids) ≡ is_among x ids
among_else id ids x h = ap (λ z. z || is_among x ids) (false_from_ne_true (same_id x id) (λ e. h ((same_id_decides x id).0 e)))

former_none : (f : Former) → former_has [] f ≡ false
former_none (ConstF x) = refl
former_none (IndF x) = refl
former_none (CtorF x) = refl
former_none (CaseF x) = refl
former_none f = refl

former_here : (id : GlobalId) (ids : List GlobalId) (f : Former) → Names id f → former_has (id ∷ ids) f ≡ true
former_here id ids (ConstF x) h = among_here id ids x h
former_here id ids (IndF x) h = among_here id ids x h
former_here id ids (CtorF x) h = among_here id ids x h
former_here id ids (CaseF x) h = among_here id ids x h
former_here id ids f h = absurd h

former_else : (id : GlobalId) (ids : List GlobalId) (f : Former) → (Names id f → ⊥) → former_has (id ∷ ids) f ≡ former_has ids f
former_else id ids (ConstF x) h = among_else id ids x h
former_else id ids (IndF x) h = among_else id ids x h
former_else id ids (CtorF x) h = among_else id ids x h
former_else id ids (CaseF x) h = among_else id ids x h
former_else id ids f h = refl

mutual
  pub occurs_none : (t : Tree) → occurs [] t ≡ false
  occurs_none (rel n) = refl
  occurs_none (node f ks) = ap₂ ◌||◌ (former_none f) (children_none ks)

  children_none : (ks : Children) → occurs_in_children [] ks ≡ false
  children_none no_child = refl
  children_none (child b t ks) = ap₂ ◌||◌ (occurs_none t) (children_none ks)

mutual
  pub occurs_here : (id : GlobalId) (ids : List GlobalId) (t : Tree) → Mentions id t → occurs (id ∷ ids) t ≡ true
  occurs_here id ids (rel n) h = absurd h
  occurs_here id ids (node f ks) (inl h) = or_left (former_has (id ∷ ids) f) _ (former_here id ids f h)
  occurs_here id ids (node f ks) (inr h) = or_right (former_has (id ∷ ids) f) _ (children_here id ids ks h)

  children_here : (id : GlobalId) (ids : List GlobalId) (ks : Children) → ChildrenMention id ks → occurs_in_children (id ∷ ids) ks ≡ true
  children_here id ids no_child h = absurd h
  children_here id ids (child b t ks) (inl h) = or_left (occurs (id ∷ ids) t) _ (occurs_here id ids t h)
  children_here id ids (child b t ks) (inr h) = or_right (occurs (id ∷ ids) t) _ (children_here id ids ks h)

mutual
  pub occurs_else : (id : GlobalId) (ids : List GlobalId) (t : Tree) → (Mentions id t → ⊥) → occurs (id ∷ ids) t ≡ occurs ids t
  occurs_else id ids (rel n) h = refl
  occurs_else id ids (node f ks) h = ap₂ ◌||◌ (former_else id ids f (λ q. h (inl q))) (children_else id ids ks (λ q. h (inr q)))

  children_else : (id : GlobalId) (ids : List GlobalId) (ks : Children) → (ChildrenMention id ks → ⊥) → occurs_in_children (id ∷ ids) ks ≡ occurs_in_children ids ks
  children_else id ids no_child h = refl
  children_else id ids (child b t ks) h = ap₂ ◌||◌ (occurs_else id ids t (λ q. h (inl q))) (children_else id ids ks (λ q. h (inr q)))

-- One argument taken off, of those behind the first
pub any_push : (test : Tree → Bool) (ts : List Tree) (t : Tree) → list_any test (ts ++ t ∷ []) ≡ (list_any test ts || test t)
any_push test [] t = or_false (test t)
  where
    or_false : (x : Bool) → (x || false) ≡ x
    or_false true = refl
    or_false false = refl
any_push test (x ∷ ts) t = ap (λ z. test x || z) (any_push test ts t) ∙ or_assoc (test x) (list_any test ts) (test t)
  where
    or_assoc : (x y z : Bool) → (x || (y || z)) ≡ (x || y || z)
    or_assoc true y z = refl
    or_assoc false y z = refl

pub behind_push : (test : Tree → Bool) (n : ℕ) (ts : List Tree) (t : Tree) → n ≤ length ts →
    list_any test (drop n (ts ++ t ∷ [])) ≡ (list_any test (drop n ts) || test t)
behind_push test n ts t h = ap (list_any test) (drop-append-le n ts (t ∷ []) h) ∙ any_push test (drop n ts) t
