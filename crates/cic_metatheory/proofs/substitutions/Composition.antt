-- Two renamings or substitutions of all variables, one after the other, are one, and the one that puts
-- each variable in for itself changes nothing. Each proof goes under binders by an equation that holds at
-- every variable, so no equality of functions is needed; every law on lifting and substitution rests on these.
use Rattle.std.proofs.Common.{◌≡◌, ℕ, zero, suc, refl, sym, ap, ap₂, ◌∙◌}
use Rattle.cic_terms.specs.Tree.{Tree, rel, node, Children, no_child, child, over}
use Rattle.cic_metatheory.specs.Substitution.{renaming_under_one, renaming_under, rename, rename_children, substitution_under_one, substitution_under, substitute, substitute_children}

-- two renamings, one after the other
rename_rename_under_one : (r r' r'' : ℕ → ℕ) → ((x : ℕ) → r (r' x) ≡ r'' x) → (x : ℕ) → renaming_under_one r (renaming_under_one r' x) ≡ renaming_under_one r'' x
unfolding renaming_under_one
rename_rename_under_one r r' r'' h zero = refl
rename_rename_under_one r r' r'' h (suc x) = ap suc (h x)

rename_rename_under : (b : ℕ) (r r' r'' : ℕ → ℕ) → ((x : ℕ) → r (r' x) ≡ r'' x) → (x : ℕ) → renaming_under b r (renaming_under b r' x) ≡ renaming_under b r'' x
unfolding renaming_under
rename_rename_under zero r r' r'' h = h
rename_rename_under (suc b) r r' r'' h = rename_rename_under b (renaming_under_one r) (renaming_under_one r') (renaming_under_one r'') (rename_rename_under_one r r' r'' h)

mutual
  unfolding rename

  pub rename_rename : (t : Tree) (r r' r'' : ℕ → ℕ) → ((x : ℕ) → r (r' x) ≡ r'' x) → rename r (rename r' t) ≡ rename r'' t
  rename_rename (rel x) r r' r'' h = ap rel (h x)
  rename_rename (node f ks) r r' r'' h = ap (node f) (rename_rename_children ks r r' r'' h)

  pub rename_rename_children : (ks : Children) (r r' r'' : ℕ → ℕ) → ((x : ℕ) → r (r' x) ≡ r'' x) → rename_children r (rename_children r' ks) ≡ rename_children r'' ks
  rename_rename_children no_child r r' r'' h = refl
  rename_rename_children (child b t ks) r r' r'' h = ap₂ (child b) (rename_rename t (renaming_under (over b 0) r) (renaming_under (over b 0) r') (renaming_under (over b 0) r'') (rename_rename_under (over b 0) r r' r'' h)) (rename_rename_children ks r r' r'' h)

-- a renaming, then a substitution
substitute_rename_under_one : (s : ℕ → Tree) (r : ℕ → ℕ) (s' : ℕ → Tree) → ((x : ℕ) → s (r x) ≡ s' x) → (x : ℕ) → substitution_under_one s (renaming_under_one r x) ≡ substitution_under_one s' x
unfolding renaming_under_one substitution_under_one
substitute_rename_under_one s r s' h zero = refl
substitute_rename_under_one s r s' h (suc x) = ap (rename suc) (h x)

pub substitute_rename_under : (b : ℕ) (s : ℕ → Tree) (r : ℕ → ℕ) (s' : ℕ → Tree) → ((x : ℕ) → s (r x) ≡ s' x) → (x : ℕ) → substitution_under b s (renaming_under b r x) ≡ substitution_under b s' x
unfolding renaming_under substitution_under
substitute_rename_under zero s r s' h = h
substitute_rename_under (suc b) s r s' h = substitute_rename_under b (substitution_under_one s) (renaming_under_one r) (substitution_under_one s') (substitute_rename_under_one s r s' h)

mutual
  unfolding rename substitute

  pub substitute_rename : (t : Tree) (s : ℕ → Tree) (r : ℕ → ℕ) (s' : ℕ → Tree) → ((x : ℕ) → s (r x) ≡ s' x) → substitute s (rename r t) ≡ substitute s' t
  substitute_rename (rel x) s r s' h = h x
  substitute_rename (node f ks) s r s' h = ap (node f) (substitute_rename_children ks s r s' h)

  pub substitute_rename_children : (ks : Children) (s : ℕ → Tree) (r : ℕ → ℕ) (s' : ℕ → Tree) → ((x : ℕ) → s (r x) ≡ s' x) → substitute_children s (rename_children r ks) ≡ substitute_children s' ks
  substitute_rename_children no_child s r s' h = refl
  substitute_rename_children (child b t ks) s r s' h = ap₂ (child b) (substitute_rename t (substitution_under (over b 0) s) (renaming_under (over b 0) r) (substitution_under (over b 0) s') (substitute_rename_under (over b 0) s r s' h)) (substitute_rename_children ks s r s' h)

-- a substitution, then a renaming
rename_substitute_under_one : (r : ℕ → ℕ) (s s' : ℕ → Tree) → ((x : ℕ) → rename r (s x) ≡ s' x) → (x : ℕ) → rename (renaming_under_one r) (substitution_under_one s x) ≡ substitution_under_one s' x
unfolding renaming_under_one substitution_under_one rename
rename_substitute_under_one r s s' h zero = refl
rename_substitute_under_one r s s' h (suc x) =
    rename_rename (s x) (renaming_under_one r) suc (λ y. suc (r y)) (λ y. refl) ∙ sym (rename_rename (s x) suc r (λ y. suc (r y)) (λ y. refl)) ∙ ap (rename suc) (h x)

pub rename_substitute_under : (b : ℕ) (r : ℕ → ℕ) (s s' : ℕ → Tree) → ((x : ℕ) → rename r (s x) ≡ s' x) → (x : ℕ) → rename (renaming_under b r) (substitution_under b s x) ≡ substitution_under b s' x
unfolding renaming_under substitution_under
rename_substitute_under zero r s s' h = h
rename_substitute_under (suc b) r s s' h = rename_substitute_under b (renaming_under_one r) (substitution_under_one s) (substitution_under_one s') (rename_substitute_under_one r s s' h)

mutual
  unfolding rename substitute

  pub rename_substitute : (t : Tree) (r : ℕ → ℕ) (s s' : ℕ → Tree) → ((x : ℕ) → rename r (s x) ≡ s' x) → rename r (substitute s t) ≡ substitute s' t
  rename_substitute (rel x) r s s' h = h x
  rename_substitute (node f ks) r s s' h = ap (node f) (rename_substitute_children ks r s s' h)

  pub rename_substitute_children : (ks : Children) (r : ℕ → ℕ) (s s' : ℕ → Tree) → ((x : ℕ) → rename r (s x) ≡ s' x) → rename_children r (substitute_children s ks) ≡ substitute_children s' ks
  rename_substitute_children no_child r s s' h = refl
  rename_substitute_children (child b t ks) r s s' h = ap₂ (child b) (rename_substitute t (renaming_under (over b 0) r) (substitution_under (over b 0) s) (substitution_under (over b 0) s') (rename_substitute_under (over b 0) r s s' h)) (rename_substitute_children ks r s s' h)

-- two substitutions, one after the other
substitute_substitute_under_one : (s s' s'' : ℕ → Tree) → ((x : ℕ) → substitute s (s' x) ≡ s'' x) → (x : ℕ) → substitute (substitution_under_one s) (substitution_under_one s' x) ≡ substitution_under_one s'' x
unfolding substitution_under_one substitute
substitute_substitute_under_one s s' s'' h zero = refl
substitute_substitute_under_one s s' s'' h (suc x) =
    substitute_rename (s' x) (substitution_under_one s) suc (λ y. rename suc (s y)) (λ y. refl) ∙ sym (rename_substitute (s' x) suc s (λ y. rename suc (s y)) (λ y. refl)) ∙ ap (rename suc) (h x)

pub substitute_substitute_under : (b : ℕ) (s s' s'' : ℕ → Tree) → ((x : ℕ) → substitute s (s' x) ≡ s'' x) → (x : ℕ) → substitute (substitution_under b s) (substitution_under b s' x) ≡ substitution_under b s'' x
unfolding substitution_under
substitute_substitute_under zero s s' s'' h = h
substitute_substitute_under (suc b) s s' s'' h = substitute_substitute_under b (substitution_under_one s) (substitution_under_one s') (substitution_under_one s'') (substitute_substitute_under_one s s' s'' h)

mutual
  unfolding substitute

  pub substitute_substitute : (t : Tree) (s s' s'' : ℕ → Tree) → ((x : ℕ) → substitute s (s' x) ≡ s'' x) → substitute s (substitute s' t) ≡ substitute s'' t
  substitute_substitute (rel x) s s' s'' h = h x
  substitute_substitute (node f ks) s s' s'' h = ap (node f) (substitute_substitute_children ks s s' s'' h)

  pub substitute_substitute_children : (ks : Children) (s s' s'' : ℕ → Tree) → ((x : ℕ) → substitute s (s' x) ≡ s'' x) → substitute_children s (substitute_children s' ks) ≡ substitute_children s'' ks
  substitute_substitute_children no_child s s' s'' h = refl
  substitute_substitute_children (child b t ks) s s' s'' h = ap₂ (child b) (substitute_substitute t (substitution_under (over b 0) s) (substitution_under (over b 0) s') (substitution_under (over b 0) s'') (substitute_substitute_under (over b 0) s s' s'' h)) (substitute_substitute_children ks s s' s'' h)

-- the substitution that puts each rel for itself
identity_under_one : (s : ℕ → Tree) → ((x : ℕ) → s x ≡ rel x) → (x : ℕ) → substitution_under_one s x ≡ rel x
unfolding substitution_under_one rename
identity_under_one s h zero = refl
identity_under_one s h (suc x) = ap (rename suc) (h x)

pub identity_under : (b : ℕ) (s : ℕ → Tree) → ((x : ℕ) → s x ≡ rel x) → (x : ℕ) → substitution_under b s x ≡ rel x
unfolding substitution_under
identity_under zero s h = h
identity_under (suc b) s h = identity_under b (substitution_under_one s) (identity_under_one s h)

mutual
  unfolding substitute

  pub substitute_identity : (t : Tree) (s : ℕ → Tree) → ((x : ℕ) → s x ≡ rel x) → substitute s t ≡ t
  substitute_identity (rel x) s h = h x
  substitute_identity (node f ks) s h = ap (node f) (substitute_identity_children ks s h)

  pub substitute_identity_children : (ks : Children) (s : ℕ → Tree) → ((x : ℕ) → s x ≡ rel x) → substitute_children s ks ≡ ks
  substitute_identity_children no_child s h = refl
  substitute_identity_children (child b t ks) s h = ap₂ (child b) (substitute_identity t (substitution_under (over b 0) s) (identity_under (over b 0) s h)) (substitute_identity_children ks s h)

pub rename_as_substitute : (t : Tree) (r : ℕ → ℕ) → rename r t ≡ substitute (λ x. rel (r x)) t
rename_as_substitute t r = sym (substitute_identity (rename r t) rel (λ x. refl)) ∙ substitute_rename t rel r (λ x. rel (r x)) (λ x. refl)

pub rename_identity : (t : Tree) (r : ℕ → ℕ) → ((x : ℕ) → r x ≡ x) → rename r t ≡ t
rename_identity t r h = rename_as_substitute t r ∙ substitute_identity t (λ x. rel (r x)) (λ x. ap rel (h x))

pub unchanged_by_identity : (t : Tree) → t ≡ rename (λ x. x) t
unchanged_by_identity t = sym (rename_identity t (λ x. x) (λ x. refl))
